-- Labels in their words: what keeping one changes, and what it leaves.
use Rattle.std.proofs.Common.{◌≡◌, ℕ, ◌+◌, ◌*◌, ◌<◌, ◌≤◌, Bool, true, false, cond, ltb, ◌≢◌, List, length, get_or, set, Some, unwrap_or, sym, refl, ap, ◌∙◌, inl, inr, arith, length-set}
use Rattle.std.proofs.lemmas.List.FromFn.{get_or-map-range_with_len}
use Rattle.std.proofs.lemmas.List.{get_or-set_same, get_or-set_other}
use Rattle.std.proofs.lemmas.Bool.{cases_eq, lt-ltb, cond-true}
use Rattle.label.specs.Labels.{Label}
use Rattle.wires.specs.Wires.{Wiring}
use Rattle.garbling.specs.Words.{kept_at, keeping}
use Rattle.server.specs.Sheets.{own_label, inputs_on}
use Rattle.server.specs.Labels.{HoldInputs}

-- A label is read back where it was kept.
pub kept_here : (ws : List ℕ) (w : ℕ) (l : Label) → 2 * w + 1 < length ws → kept_at (keeping ws w l) w ≡ l
kept_here ws w l room =
    let us : List ℕ = set ws (2 * w) l.0 in
    let long : length us ≡ length ws = length-set ws (2 * w) l.0 in
    ap (λ vs. kept_at vs w) (cond-true _ _ _ (lt-ltb (2 * w + 1) (length ws) room))
    ∙ (λ i. (
      (get_or-set_other us (2 * w + 1) (2 * w) l.1 0 (omega arith) ∙ get_or-set_same ws (2 * w) l.0 0 (omega arith)) i,
      get_or-set_same us (2 * w + 1) l.1 0 (omega (arith, long)) i,
    ))

-- The labels of other wires stay.
pub kept_other : (ws : List ℕ) (w k : ℕ) (l : Label) → k ≢ w → kept_at (keeping ws w l) k ≡ kept_at ws k
kept_other ws w k l apart = by_room (ltb (2 * w + 1) (length ws))
  where
    item : (j : ℕ) → j ≢ 2 * w → j ≢ 2 * w + 1 → get_or (set (set ws (2 * w) l.0) (2 * w + 1) l.1) j 0 ≡ get_or ws j 0
    item j left right =
        get_or-set_other (set ws (2 * w) l.0) (2 * w + 1) j l.1 0 right ∙ get_or-set_other ws (2 * w) j l.0 0 left

    by_room : (b : Bool) → kept_at (cond b (set (set ws (2 * w) l.0) (2 * w + 1) l.1) ws) k ≡ kept_at ws k
    by_room true = λ i. (item (2 * k) (omega arith) (omega arith) i, item (2 * k + 1) (omega arith) (omega arith) i)
    by_room false = refl

-- The labels of the inputs below w are taken into the words.
abbrev pub Taken : Wiring → List (List ℕ) → List ℕ → ℕ → Type 0
Taken c sheets ws w = (k : ℕ) → k < c.wires → k < w → kept_at ws k ≡ unwrap_or (own_label c sheets k) (0, 0)

pub taken_more : (c : Wiring) (sheets : List (List ℕ)) (ws vs : List ℕ) (w : ℕ) (l : Label)
    → length ws ≡ 2 * c.wires → Taken c sheets ws w → own_label c sheets w ≡ Some l → vs ≡ keeping ws w l → Taken c sheets vs (w + 1)
taken_more c sheets ws vs w l room taken here kept k below reached =
    ap (λ us. kept_at us k) kept
    ∙ elim (cases_eq k w) [
      | inl same ↦
          ap (λ j. kept_at (keeping ws w l) j) same ∙ kept_here ws w l (omega arith)
          ∙ sym (ap (λ o. unwrap_or o (0, 0)) here) ∙ sym (ap (λ j. unwrap_or (own_label c sheets j) (0, 0)) same)
      | inr apart ↦ kept_other ws w k l apart ∙ taken k below (let far : k ≢ w = apart in omega arith)
    ]

-- After the last input the words hold them all.
pub taken_all : (c : Wiring) (sheets : List (List ℕ)) (ws : List ℕ) (w : ℕ) → c.inputs ≤ w → Taken c sheets ws w
    → HoldInputs c ws (inputs_on c sheets)
unfolding inputs_on
taken_all c sheets ws w past taken k below input =
    taken k below (omega arith)
    ∙ sym (get_or-map-range_with_len (λ j. unwrap_or (own_label c sheets j) (0, 0)) 0 c.inputs k k (0, 0) input (omega arith))
