-- Garbling and evaluating a gate as sums over any group: halves of labels, and control pairs.
use Rattle.std.specs.Prelude.{Bool, List, get_or}
use Rattle.label.specs.Sums.{Group}
use Rattle.gate.specs.declared.views.Parity.{Parity}
use Rattle.gate.specs.declared.views.Truth.{Truth}
use Rattle.gate.specs.declared.views.Dice.{Dice}
use Rattle.gate.specs.declared.views.View.{View}
use Rattle.gate.specs.Views.{truth_at, if_hidden, view_at}
use Rattle.gate.specs.Numbers.{Five, Six, mixed, back_left, back_right}

-- The answers that the server meets: for its first label, its second, and their sum.
pub record Three (E : Type 0) : Type 0 where
  pub a : E
  pub b : E
  pub s : E

-- The last three of five numbers: a gate's ciphertexts.
abbrev pub last_three : {E : Type 0} → Five E → Three E
last_three n = record { a = n.n3; b = n.n4; s = n.n5 }

-- Three in an array of the code.
abbrev pub three_in : (X : Group) → List X.El → Three X.El
three_in X xs = record { a = get_or xs 0 X.o; b = get_or xs 1 X.o; s = get_or xs 2 X.o }

module _ (X : Group) where
  infixl 60 ◌⊕◌
  abbrev ◌⊕◌ : X.El → X.El → X.El
  a ⊕ b = X.◌⊕◌ a b

  infixl 70 ◌·◌
  abbrev ◌·◌ : Bool → X.El → X.El
  b · a = X.◌·◌ b a

  -- A label is a left and a right half.
  abbrev pub LabelOver : Type 0
  LabelOver = X.El × X.El

  -- A label, with the offset added where the bit is set: the label of colour i from that of colour 0, the true label from the false one.
  abbrev pub shifted : LabelOver → LabelOver → Bool → LabelOver
  shifted Δ x i = (x.0 ⊕ i · Δ.0, x.1 ⊕ i · Δ.1)

  abbrev pub sum_of : LabelOver → LabelOver → LabelOver
  sum_of x y = (x.0 ⊕ y.0, x.1 ⊕ y.1)

  -- The value of a view on two labels.
  abbrev pub view_left : View → LabelOver → LabelOver → X.El
  view_left v x y = v.alpha · (x.0 ⊕ x.1 ⊕ y.0) ⊕ v.beta · (x.0 ⊕ y.1) ⊕ v.gamma · y.0

  abbrev pub view_right : View → LabelOver → LabelOver → X.El
  view_right v x y = v.alpha · (x.0 ⊕ y.1) ⊕ v.beta · (x.1 ⊕ y.0 ⊕ y.1) ⊕ v.epsilon · x.1

  -- What garbling adds to the answers at colours i and j, where A and B are the labels of colour 0.
  abbrev pub added_left : Parity → Truth → Dice → LabelOver → LabelOver → LabelOver → Bool → Bool → X.El
  added_left c t d Δ A B i j = view_left (view_at c t d i j) (shifted Δ A i) (shifted Δ B j) ⊕ truth_at t i j · Δ.0

  abbrev pub added_right : Parity → Truth → Dice → LabelOver → LabelOver → LabelOver → Bool → Bool → X.El
  added_right c t d Δ A B i j = view_right (view_at c t d i j) (shifted Δ A i) (shifted Δ B j) ⊕ truth_at t i j · Δ.1

  -- The five numbers of a garbled gate: its false label, then its ciphertexts.
  abbrev pub garbled : Parity → Truth → Dice → LabelOver → LabelOver → LabelOver → Six X.El → Five X.El
  garbled c t d Δ A B w = mixed X w (added_left c t d Δ A B) (added_right c t d Δ A B)

  -- The label that evaluation comes to, from ciphertexts, view, labels, and the answers for them, at colours i and j.
  abbrev pub evaluated : Three X.El → View → LabelOver → LabelOver → Three X.El → Bool → Bool → LabelOver
  evaluated k v x y w i j =
      let n : Five X.El = record { n1 = X.o; n2 = X.o; n3 = k.a; n4 = k.b; n5 = k.s } in
      (back_left X n i j ⊕ w.a ⊕ w.s ⊕ view_left v x y, back_right X n i j ⊕ w.b ⊕ w.s ⊕ view_right v x y)

  -- A view as controls: the low bit on the left is α and on the right β, the high bits are γ and ε where they are hidden.
  abbrev pub coded_left : X.El → X.El → Parity → View → X.El
  coded_left low high c v = v.alpha · low ⊕ if_hidden c v.gamma · high

  abbrev pub coded_right : X.El → X.El → Parity → View → X.El
  coded_right low high c v = v.beta · low ⊕ if_hidden c v.epsilon · high

  -- The five control numbers of a garbled gate.
  abbrev pub controls : X.El → X.El → Parity → Truth → Dice → Six X.El → Five X.El
  controls low high c t d w =
      mixed X w (λ i j. coded_left low high c (view_at c t d i j)) (λ i j. coded_right low high c (view_at c t d i j))
