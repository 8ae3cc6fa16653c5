-- The gate law: what the server comes to is the output label that stands for the truth value.
use Rattle.std.specs.Prelude.{◌≡◌, Bool, true}
use Rattle.label.specs.Sums.{Group, ◌⊻◌}
use Rattle.gate.specs.declared.views.Parity.{Parity}
use Rattle.gate.specs.declared.views.Truth.{Truth}
use Rattle.gate.specs.declared.views.Dice.{Dice}
use Rattle.gate.specs.Views.{fits, parity_of, truth_at, view_at}
use Rattle.gate.specs.Numbers.{Five, Six, answer_a, answer_b, answer_s}
use Rattle.gate.specs.Sums.{LabelOver, Three, last_three, shifted, garbled, evaluated}

-- Of six answers, the three that are met at colours i and j.
abbrev pub met : {E : Type 0} → Six E → Bool → Bool → Three E
met w i j = record { a = answer_a w i; b = answer_b w j; s = answer_s w (i ⊻ j) }

-- The gate's false label: the first two of its numbers.
abbrev pub false_label : {E : Type 0} → Five E → E × E
false_label n = (n.n1, n.n2)

-- In one group: the labels at hand, of colours i and j, lead to the false label, with the offset added where the truth value is 1.
abbrev pub GateLaw : Group → Type 0
GateLaw X =
    (c : Parity) (t : Truth) (d : Dice) → fits c (parity_of t) ≡ true → (Δ A B : LabelOver X) (w : Six X.El) (i j : Bool)
    → evaluated X (last_three (garbled X c t d Δ A B w)) (view_at c t d i j) (shifted X Δ A i) (shifted X Δ B j) (met w i j) i j
    ≡ shifted X Δ (false_label (garbled X c t d Δ A B w)) (truth_at t i j)
