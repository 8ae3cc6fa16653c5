-- The drawn bytes with some permute bits turned and other dice, byte by byte.
use Rattle.std.proofs.Common.{◌≡◌, ℕ, ◌+◌, ◌-◌, ◌*◌, ◌/◌, ◌%◌, ◌<◌, ◌≤◌, Bool, true, false, cond, eqb, ltb, ◌⊎◌, sym, ap, ◌∙◌, subst, inl, inr, arith}
use Rattle.std.proofs.lemmas.Bool.{cases_lt, lt-ltb, le-ltb, eq-eqb, ne_eqb, cond-true, cond-false}
use Rattle.gate.specs.declared.views.Dice.{Dice}
use Rattle.gate.specs.Views.{dice_of}
use Rattle.circuit_laws.proofs.ByteBits.{turned_bit, turned_back, turned_small, with_dice, dice_back, dice_byte_small}

-- The drawn bytes with permute bits turned by S and dice D, for m inputs and q garbled gates: the byte at place j, from the byte b there.
abbrev pub byte_by : ℕ → ℕ → (ℕ → Bool) → (ℕ → Dice) → ℕ → ℕ → ℕ
byte_by m q S D j b =
    cond (ltb j 16) b
    (cond (ltb j (16 + 17 * m)) (cond (eqb ((j - 16) % 17) 16) (turned_bit (S ((j - 16) / 17)) b) b)
    (cond (ltb j (16 + 17 * m + q)) (with_dice (D (j - (16 + 17 * m))) b) b))

pub cond_small : (t : Bool) (a b : ℕ) → a < 256 → b < 256 → cond t a b < 256
cond_small true a b small small' = small
cond_small false a b small small' = small'

module _ (m q : ℕ) (S : ℕ → Bool) (D : ℕ → Dice) where
  pub offset_byte : (j b : ℕ) → j < 16 → byte_by m q S D j b ≡ b
  offset_byte j b less = cond-true _ _ _ (lt-ltb j 16 less)

  pub label_byte : (w k b : ℕ) → w < m → k < 16 → byte_by m q S D (16 + 17 * w + k) b ≡ b
  label_byte w k b input less =
      let j : ℕ = 16 + 17 * w + k in
      let no-permute : (j - 16) % 17 ≡ k = omega arith in
      cond-false _ _ _ (le-ltb j 16 (omega arith)) ∙ cond-true _ _ _ (lt-ltb j (16 + 17 * m) (omega arith))
      ∙ cond-false _ _ _ (ne_eqb ((j - 16) % 17) 16 (λ e. omega (arith, no-permute, e)))

  pub permute_byte : (w b : ℕ) → w < m → byte_by m q S D (32 + 17 * w) b ≡ turned_bit (S w) b
  permute_byte w b input =
      let j : ℕ = 32 + 17 * w in
      let wire : (j - 16) / 17 ≡ w = omega arith in
      cond-false _ _ _ (le-ltb j 16 (omega arith)) ∙ cond-true _ _ _ (lt-ltb j (16 + 17 * m) (omega arith))
      ∙ cond-true _ _ _ (eq-eqb ((j - 16) % 17) 16 (omega arith)) ∙ ap (λ (k : ℕ). turned_bit (S k) b) wire

  pub dice_byte : (k b : ℕ) → k < q → byte_by m q S D (16 + 17 * m + k) b ≡ with_dice (D k) b
  dice_byte k b less =
      let j : ℕ = 16 + 17 * m + k in
      let place : j - (16 + 17 * m) ≡ k = omega arith in
      cond-false _ _ _ (le-ltb j 16 (omega arith)) ∙ cond-false _ _ _ (le-ltb j (16 + 17 * m) (omega arith))
      ∙ cond-true _ _ _ (lt-ltb j (16 + 17 * m + q) (omega arith)) ∙ ap (λ (i : ℕ). with_dice (D i) b) place

  pub byte_small : (j b : ℕ) → b < 256 → byte_by m q S D j b < 256
  byte_small j b small =
      cond_small (ltb j 16) _ _ small
      (cond_small (ltb j (16 + 17 * m)) _ _ (cond_small (eqb ((j - 16) % 17) 16) _ _ (turned_small (S ((j - 16) / 17)) b small) small)
      (cond_small (ltb j (16 + 17 * m + q)) _ _ (dice_byte_small (D (j - (16 + 17 * m))) b small) small))

-- Undone byte by byte: the same bits turned, and the dice that were there before.
pub byte_back : (m q : ℕ) (S S' : ℕ → Bool) (D D' : ℕ → Dice) (j b : ℕ)
    → ((w : ℕ) → w < m → S w ≡ S' w) → ((k : ℕ) → k < q → j ≡ 16 + 17 * m + k → D' k ≡ dice_of b)
    → byte_by m q S' D' j (byte_by m q S D j b) ≡ b
byte_back m q S S' D D' j b bits dice = elim (cases_lt j 16) [
  | inl offset ↦ ap (byte_by m q S' D' j) (offset_byte m q S D j b offset) ∙ offset_byte m q S' D' j b offset
  | inr past ↦ elim (cases_lt j (16 + 17 * m)) [
    | inl input ↦ input_back ((j - 16) / 17) ((j - 16) % 17) (omega arith) (omega arith) (omega arith) (cases_lt ((j - 16) % 17) 16)
    | inr past' ↦ elim (cases_lt j (16 + 17 * m + q)) [
      | inl die ↦ die_back (j - (16 + 17 * m)) (omega arith) (omega arith)
      | inr over ↦ ap (byte_by m q S' D' j) (kept S D over) ∙ kept S' D' over
    ]
  ]
]
  where
    input_back : (w k : ℕ) → w < m → k < 17 → j ≡ 16 + 17 * w + k → (k < 16) ⊎ (16 ≤ k) → byte_by m q S' D' j (byte_by m q S D j b) ≡ b
    input_back w k input less at (inl label) =
        subst (λ (i : ℕ). byte_by m q S' D' i (byte_by m q S D i b) ≡ b) (sym at)
        (ap (byte_by m q S' D' (16 + 17 * w + k)) (label_byte m q S D w k b input label) ∙ label_byte m q S' D' w k b input label)
    input_back w k input less at (inr permute) =
        let at' : 32 + 17 * w ≡ j = omega arith in
        subst (λ (i : ℕ). byte_by m q S' D' i (byte_by m q S D i b) ≡ b) at'
        (ap (byte_by m q S' D' (32 + 17 * w)) (permute_byte m q S D w b input) ∙ permute_byte m q S' D' w _ input ∙ turned_back (S w) (S' w) b (bits w input))

    die_back : (k : ℕ) → k < q → j ≡ 16 + 17 * m + k → byte_by m q S' D' j (byte_by m q S D j b) ≡ b
    die_back k less at =
        subst (λ (i : ℕ). byte_by m q S' D' i (byte_by m q S D i b) ≡ b) (sym at)
        (ap (byte_by m q S' D' (16 + 17 * m + k)) (dice_byte m q S D k b less) ∙ dice_byte m q S' D' k _ less ∙ dice_back (D k) (D' k) b (dice k less at))

    kept : (S : ℕ → Bool) (D : ℕ → Dice) → 16 + 17 * m + q ≤ j → byte_by m q S D j b ≡ b
    kept S D over =
        cond-false _ _ _ (le-ltb j 16 (omega arith)) ∙ cond-false _ _ _ (le-ltb j (16 + 17 * m) (omega arith))
        ∙ cond-false _ _ _ (le-ltb j (16 + 17 * m + q) over)
