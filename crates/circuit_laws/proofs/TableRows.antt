-- An answer table in which the rows of some gates are replaced: what stands in it, and how the change is undone.
use Rattle.std.proofs.Common.{◌≡◌, ℕ, zero, suc, ◌+◌, ◌*◌, ◌/◌, ◌%◌, ◌<◌, ◌≤◌, Bool, true, cond, ◌&&◌, ltb, List, length, sym, ap, ◌∙◌, subst, inl, inr, arith, pow_pos}
use Rattle.std.proofs.lemmas.List.{get_or_past}
use Rattle.std.proofs.lemmas.Bool.{cases_lt, cases_Bool, ltb-true, lt-ltb, le-ltb, cond-true, cond-false, and_from, and_left, and_parts}
use Rattle.label.specs.Rows.{blank_row}
use Rattle.label.specs.declared.rows.Row.{Row}
use Rattle.gate_laws.specs.GateBlind.{Throw}
use Rattle.circuit_laws.specs.Chance.{Each, FitsRow}
use Rattle.circuit_laws.proofs.Remade.{remade, length-remade, remade_at, remade_back, each_at, each_remade}
use Rattle.circuit_laws.proofs.Throws.{row_at}

-- The three rows of a throw.
abbrev pub row_of : Throw ℕ → ℕ → Row
row_of θ zero = record { zero = record { word = θ.words.a0; pair = θ.pairs.a0 }; one = record { word = θ.words.a1; pair = θ.pairs.a1 } }
row_of θ (suc zero) = record { zero = record { word = θ.words.b0; pair = θ.pairs.b0 }; one = record { word = θ.words.b1; pair = θ.pairs.b1 } }
row_of θ (suc (suc e)) = record { zero = record { word = θ.words.s0; pair = θ.pairs.s0 }; one = record { word = θ.words.s1; pair = θ.pairs.s1 } }

-- Row r, where the gates below n that a test picks have the throws θ, three rows each.
abbrev row_by : ℕ → (ℕ → Bool) → (ℕ → Throw ℕ) → ℕ → Row → Row
row_by n picks θ r row = cond (ltb (r / 3) n && picks (r / 3)) (row_of (θ (r / 3)) (r % 3)) row

abbrev pub rows_by : ℕ → (ℕ → Bool) → (ℕ → Throw ℕ) → List Row → List Row
rows_by n picks θ rows = remade (row_by n picks θ) blank_row rows

module _ (n : ℕ) (picks : ℕ → Bool) (θ : ℕ → Throw ℕ) (rows : List Row) where
  pub length-rows_by : length (rows_by n picks θ rows) ≡ length rows
  length-rows_by = length-remade (row_by n picks θ) blank_row rows

  pub gate_row : 3 * n ≤ length rows → (w e : ℕ) → w < n → picks w ≡ true → e < 3 → row_at (rows_by n picks θ rows) (3 * w + e) ≡ row_of (θ w) e
  gate_row long w e below picked less =
      let gate : (3 * w + e) / 3 ≡ w = omega arith in
      let which : (3 * w + e) % 3 ≡ e = omega arith in
      remade_at (row_by n picks θ) blank_row rows (3 * w + e) blank_row (omega arith)
      ∙ cond-true _ _ _ (and_from _ _ (lt-ltb ((3 * w + e) / 3) n (omega arith)) (ap picks gate ∙ picked))
      ∙ (λ i. row_of (θ (gate i)) (which i))

  -- The rows past those of all gates are kept.
  pub rest_row : (r : ℕ) → 3 * n ≤ r → row_at (rows_by n picks θ rows) r ≡ row_at rows r
  rest_row r past = elim (cases_lt r (length rows)) [
    | inl below ↦
        remade_at (row_by n picks θ) blank_row rows r blank_row below
        ∙ cond-false _ _ _ (and_left _ _ (le-ltb (r / 3) n (omega arith)))
    | inr over ↦
        get_or_past (rows_by n picks θ rows) r blank_row (omega (arith, length-rows_by))
        ∙ sym (get_or_past rows r blank_row over)
  ]

  -- Undone with throws that have the rows of before.
  pub rows_back : (θ' : ℕ → Throw ℕ) → ((w e : ℕ) → w < n → picks w ≡ true → e < 3 → row_of (θ' w) e ≡ row_at rows (3 * w + e))
      → rows_by n picks θ' (rows_by n picks θ rows) ≡ rows
  rows_back θ' was = remade_back (row_by n picks θ) (row_by n picks θ') blank_row rows (λ r below.
      elim (cases_Bool (ltb (r / 3) n && picks (r / 3))) [
        | inl gate ↦
            let parts = and_parts (ltb (r / 3) n) (picks (r / 3)) gate in
            let at : 3 * (r / 3) + r % 3 ≡ r = omega arith in
            cond-true _ _ _ gate ∙ was (r / 3) (r % 3) (ltb-true (r / 3) n parts.0) parts.1 (omega arith) ∙ ap (row_at rows) at
        | inr other ↦ cond-false _ _ _ other ∙ cond-false _ _ _ other
      ])

  pub rows_fit : Each FitsRow rows → ((w e : ℕ) → w < n → picks w ≡ true → FitsRow (row_of (θ w) e)) → Each FitsRow (rows_by n picks θ rows)
  rows_fit fit fits = each_remade FitsRow (row_by n picks θ) blank_row rows (λ r.
      elim (cases_Bool (ltb (r / 3) n && picks (r / 3))) [
        | inl gate ↦
            let parts = and_parts (ltb (r / 3) n) (picks (r / 3)) gate in
            subst FitsRow (sym (cond-true _ _ _ gate)) (fits (r / 3) (r % 3) (ltb-true (r / 3) n parts.0) parts.1)
        | inr other ↦ subst FitsRow (sym (cond-false _ _ _ other)) (each_at FitsRow rows blank_row fit (pow_pos 64, pow_pos 64) r)
      ])
