-- The gate space: the eight values that a garbler mixes come back from the five numbers that it hands over.
use Rattle.std.specs.Prelude.{◌≡◌, Bool, true}
use Rattle.label.specs.Sums.{Group}
use Rattle.gate.specs.declared.views.Parity.{Parity}
use Rattle.gate.specs.declared.views.Truth.{Truth}
use Rattle.gate.specs.declared.views.Dice.{Dice}
use Rattle.gate.specs.Views.{fits, parity_of, view_at}
use Rattle.gate.specs.Numbers.{Five, Six, left_of, right_of, back_left, back_right}
use Rattle.gate.specs.Sums.{LabelOver, added_left, added_right, garbled, coded_left, coded_right, controls}

-- At every pair of colours the numbers give back the left and the right value: the answers with K added, and with M.
abbrev pub Back : (X : Group) → Five X.El → Six X.El → (K M : Bool → Bool → X.El) → Type 0
Back X n w K M = (i j : Bool) → (back_left X n i j ≡ left_of X w K i j) × (back_right X n i j ≡ right_of X w M i j)

-- The halves of labels.
abbrev pub HalvesBack : Group → Type 0
HalvesBack X =
    (c : Parity) (t : Truth) (d : Dice) → fits c (parity_of t) ≡ true → (Δ A B : LabelOver X) (w : Six X.El)
    → Back X (garbled X c t d Δ A B w) w (added_left X c t d Δ A B) (added_right X c t d Δ A B)

-- The control numbers.
abbrev pub ControlsBack : Group → Type 0
ControlsBack X =
    (c : Parity) (t : Truth) (d : Dice) → fits c (parity_of t) ≡ true → (low high : X.El) (w : Six X.El)
    → Back X (controls X low high c t d w) w
    (λ i j. coded_left X low high c (view_at c t d i j)) (λ i j. coded_right X low high c (view_at c t d i j))

-- In one group, for every truth that fits the class, all dice, labels and answers: the eight values come back from the five numbers.
abbrev pub GateSpace : Group → Type 0
GateSpace X = HalvesBack X × ControlsBack X
