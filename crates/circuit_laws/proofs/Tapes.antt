-- A tape with some permute bits turned and other dice: what is drawn from it, and how the change is undone.
use Rattle.std.proofs.Common.{◌≡◌, ℕ, ◌+◌, ◌-◌, ◌*◌, ◌<◌, ◌≤◌, Bool, true, false, cond, ltb, List, length, get_or, drop, sym, ap, ◌∙◌, subst, inl, inr, arith}
use Rattle.std.proofs.lemmas.List.{get_or-take, get_or-drop}
use Rattle.std.proofs.lemmas.Bool.{cases_lt, lt-ltb, le-ltb, cond-true, cond-false}
use Rattle.label.specs.Sums.{halves, ◌⊻◌}
use Rattle.label.specs.Labels.{label_at}
use Rattle.slices.specs.Little.{word_at}
use Rattle.wires.specs.Wires.{bit}
use Rattle.gate.specs.declared.views.Dice.{Dice}
use Rattle.gate.specs.Views.{dice_of}
use Rattle.gate.specs.Sums.{shifted}
use Rattle.garbling.specs.Tape.{need, drawn, coloured, offset_in, permute_in, input_in, dice_in}
use Rattle.circuit_laws.specs.Chance.{Each}
use Rattle.circuit_laws.proofs.Remade.{remade, length-remade, remade_at, remade_back, each_at, each_remade}
use Rattle.circuit_laws.proofs.ByteBits.{turned_low, with_dice}
use Rattle.circuit_laws.proofs.DrawnBytes.{byte_by, offset_byte, label_byte, permute_byte, dice_byte, cond_small, byte_small, byte_back}
use Rattle.circuit_laws.proofs.Shifts.{shifted_by_both}

-- The byte at place i of a tape whose drawn bytes begin at a place.
abbrev tape_byte : ℕ → ℕ → (ℕ → Bool) → (ℕ → Dice) → ℕ → ℕ → ℕ → ℕ
tape_byte m q S D place i b = cond (ltb i place) b (byte_by m q S D (i - place) b)

abbrev pub tape_by : ℕ → ℕ → (ℕ → Bool) → (ℕ → Dice) → ℕ → List ℕ → List ℕ
tape_by m q S D place tape = remade (tape_byte m q S D place) 0 tape

pub length-tape_by : (m q : ℕ) (S : ℕ → Bool) (D : ℕ → Dice) (place : ℕ) (tape : List ℕ) → length (tape_by m q S D place tape) ≡ length tape
length-tape_by m q S D place tape = length-remade (tape_byte m q S D place) 0 tape

drawn_at : (tape : List ℕ) (place size j : ℕ) → j < size → get_or (drawn tape place size) j 0 ≡ get_or tape (place + j) 0
drawn_at tape place size j less = get_or-take size (drop place tape) j 0 less ∙ get_or-drop place tape j 0

word_same : (s s' : List ℕ) (p : ℕ) → ((j : ℕ) → p ≤ j → j < p + 8 → get_or s' j 0 ≡ get_or s j 0) → word_at s' p ≡ word_at s p
word_same s s' p same = λ i.
    same p (omega arith) (omega arith) i + same (p + 1) (omega arith) (omega arith) i * 256 + same (p + 2) (omega arith) (omega arith) i * 65536
    + same (p + 3) (omega arith) (omega arith) i * 16777216 + same (p + 4) (omega arith) (omega arith) i * 4294967296
    + same (p + 5) (omega arith) (omega arith) i * 1099511627776 + same (p + 6) (omega arith) (omega arith) i * 281474976710656
    + same (p + 7) (omega arith) (omega arith) i * 72057594037927936

label_same : (s s' : List ℕ) (p : ℕ) → ((j : ℕ) → p ≤ j → j < p + 16 → get_or s' j 0 ≡ get_or s j 0) → label_at s' p ≡ label_at s p
label_same s s' p same = λ i. (
  word_same s s' p (λ j from to. same j from (omega arith)) i,
  word_same s s' (p + 8) (λ j from to. same j (omega arith) (omega arith)) i,
)

module _ (m q : ℕ) (S : ℕ → Bool) (D : ℕ → Dice) (place : ℕ) (tape : List ℕ) (enough : need m q ≤ length tape - place) where
  abbrev T : List ℕ
  T = drawn tape place (need m q)

  abbrev T' : List ℕ
  T' = drawn (tape_by m q S D place tape) place (need m q)

  byte_drawn : (j : ℕ) → j < need m q → get_or T' j 0 ≡ byte_by m q S D j (get_or T j 0)
  byte_drawn j less =
      let here : (place + j) - place ≡ j = omega arith in
      drawn_at (tape_by m q S D place tape) place (need m q) j less
      ∙ remade_at (tape_byte m q S D place) 0 tape (place + j) 0 (omega arith)
      ∙ cond-false _ _ _ (le-ltb (place + j) place (omega arith))
      ∙ (λ i. byte_by m q S D (here i) (sym (drawn_at tape place (need m q) j less) i))

  pub offset_drawn : offset_in T' ≡ offset_in T
  offset_drawn = ap (coloured true) (label_same T T' 0 (λ j from to. byte_drawn j (omega arith) ∙ offset_byte m q S D j _ (omega arith)))

  pub input_drawn : (w : ℕ) → w < m → input_in T' w ≡ shifted halves (offset_in T) (input_in T w) (S w)
  input_drawn w input =
      let base : label_at T' (16 + 17 * w) ≡ label_at T (16 + 17 * w) =
      label_same T T' (16 + 17 * w) (λ j from to.
      let at : 16 + 17 * w + (j - (16 + 17 * w)) ≡ j = omega arith in
      byte_drawn j (omega arith)
      ∙ subst (λ (i : ℕ). byte_by m q S D i (get_or T j 0) ≡ get_or T j 0) at (label_byte m q S D w (j - (16 + 17 * w)) (get_or T j 0) input (omega arith))) in
      let permute : permute_in T' w ≡ permute_in T w ⊻ S w =
      ap (λ (b : ℕ). bit b 0) (byte_drawn (32 + 17 * w) (omega arith) ∙ permute_byte m q S D w (get_or T (32 + 17 * w) 0) input)
      ∙ turned_low (S w) (get_or T (32 + 17 * w) 0) in
      (λ i. shifted halves (offset_drawn i) (coloured false (base i)) (permute i))
      ∙ sym (shifted_by_both (offset_in T) (coloured false (label_at T (16 + 17 * w))) (permute_in T w) (S w))

  pub dice_drawn : (k : ℕ) → k < q → dice_in T' m k ≡ with_dice (D k) (dice_in T m k)
  dice_drawn k less = byte_drawn (16 + 17 * m + k) (omega arith) ∙ dice_byte m q S D k (dice_in T m k) less

  pub tape_back : (S' : ℕ → Bool) (D' : ℕ → Dice) → ((w : ℕ) → w < m → S w ≡ S' w) → ((k : ℕ) → k < q → D' k ≡ dice_of (dice_in T m k))
      → tape_by m q S' D' place (tape_by m q S D place tape) ≡ tape
  tape_back S' D' bits dice = remade_back (tape_byte m q S D place) (tape_byte m q S' D' place) 0 tape (λ i below.
      elim (cases_lt i place) [
        | inl before ↦
            ap (tape_byte m q S' D' place i) (cond-true _ _ _ (lt-ltb i place before)) ∙ cond-true _ _ _ (lt-ltb i place before)
        | inr from ↦
            ap (tape_byte m q S' D' place i) (cond-false _ _ _ (le-ltb i place from)) ∙ cond-false _ _ _ (le-ltb i place from)
            ∙ byte_back m q S S' D D' (i - place) (get_or tape i 0) bits (λ k less at.
            let here : place + (16 + 17 * m + k) ≡ i = omega arith in
            dice k less ∙ ap dice_of (drawn_at tape place (need m q) (16 + 17 * m + k) (omega arith) ∙ ap (λ (n : ℕ). get_or tape n 0) here))
      ])

pub tape_small : (m q : ℕ) (S : ℕ → Bool) (D : ℕ → Dice) (place : ℕ) (tape : List ℕ) → Each (λ b. b < 256) tape → Each (λ b. b < 256) (tape_by m q S D place tape)
tape_small m q S D place tape small =
    each_remade (λ b. b < 256) (tape_byte m q S D place) 0 tape (λ i.
    let b : get_or tape i 0 < 256 = each_at (λ b. b < 256) tape 0 small (omega arith) i in
    cond_small (ltb i place) _ _ b (byte_small m q S D (i - place) (get_or tape i 0) b))
