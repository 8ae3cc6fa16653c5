-- The control law: from the control numbers and the answers met the server reads its view, and no other.
use Rattle.std.specs.Prelude.{◌≡◌, Bool, true}
use Rattle.label.specs.Sums.{Group, ◌⊻◌}
use Rattle.gate.specs.declared.views.Parity.{Parity}
use Rattle.gate.specs.declared.views.Truth.{Truth}
use Rattle.gate.specs.declared.views.Dice.{Dice}
use Rattle.gate.specs.Views.{fits, parity_of, view_at}
use Rattle.gate.specs.Numbers.{Five, Six, answer_a, answer_b, answer_s, back_left, back_right}
use Rattle.gate.specs.Sums.{coded_left, coded_right, controls}

-- What the control numbers hold at colours i and j, once the answers met are taken off: on the left, and on the right.
abbrev pub control_left : (X : Group) → Five X.El → Six X.El → Bool → Bool → X.El
control_left X n w i j = X.◌⊕◌ (X.◌⊕◌ (back_left X n i j) (answer_a w i)) (answer_s w (i ⊻ j))

abbrev pub control_right : (X : Group) → Five X.El → Six X.El → Bool → Bool → X.El
control_right X n w i j = X.◌⊕◌ (X.◌⊕◌ (back_right X n i j) (answer_b w j)) (answer_s w (i ⊻ j))

-- In one group: it is the view at these colours, coded.
abbrev pub ControlLaw : Group → Type 0
ControlLaw X =
    (c : Parity) (t : Truth) (d : Dice) → fits c (parity_of t) ≡ true → (low high : X.El) (w : Six X.El) (i j : Bool)
    → (control_left X (controls X low high c t d w) w i j ≡ coded_left X low high c (view_at c t d i j))
    × (control_right X (controls X low high c t d w) w i j ≡ coded_right X low high c (view_at c t d i j))
