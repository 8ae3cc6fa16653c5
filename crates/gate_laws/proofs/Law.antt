-- The gate law, out of the gate space: the server adds up all but the first two numbers, and so comes to these, with the truth's offset.
use Rattle.std.proofs.Common.{◌≡◌, Bool, true, false, [], ◌∷◌, sym, refl, ap, ◌∙◌}
use Rattle.label.specs.Sums.{Group, Laws, ◌⊻◌}
use Rattle.label.proofs.Solve.{Exp, exps, var, add, solve}
use Rattle.gate.specs.declared.views.View.{View}
use Rattle.gate.specs.Views.{truth_at, view_at}
use Rattle.gate.specs.Numbers.{Five, answer_a, answer_b, answer_s, back_left, back_right}
use Rattle.gate.specs.Sums.{LabelOver, Three, last_three, shifted, view_left, view_right, garbled}
use Rattle.gate_laws.specs.GateLaw.{GateLaw}
use Rattle.gate_laws.proofs.Space.{halves_back}
use Rattle.gate_laws.proofs.Variables.{numbers, five_values}

-- Five numbers of which the first two are nothing.
abbrev pub rest : (X : Group) → Three X.El → Five X.El
rest X k = record { n1 = X.o; n2 = X.o; n3 = k.a; n4 = k.b; n5 = k.s }

-- What comes back, whole, and with the first number or the second apart from the rest.
abbrev left_whole : Bool → Bool → Exp
left_whole i j = back_left exps numbers i j

abbrev left_apart : Bool → Bool → Exp
left_apart i j = add (var 0) (back_left exps (rest exps (last_three numbers)) i j)

abbrev right_whole : Bool → Bool → Exp
right_whole i j = back_right exps numbers i j

abbrev right_apart : Bool → Bool → Exp
right_apart i j = add (var 1) (back_right exps (rest exps (last_three numbers)) i j)

module _ (X : Group) (L : Laws X) where
  infixl 60 ◌⊕◌
  abbrev ◌⊕◌ : X.El → X.El → X.El
  a ⊕ b = X.◌⊕◌ a b

  -- At all colours the first number stands once in what comes back on the left.
  pub first_once : (n : Five X.El) (i j : Bool) → back_left X n i j ≡ n.n1 ⊕ back_left X (rest X (last_three n)) i j
  first_once n false false = solve X L (five_values n) (left_whole false false) (left_apart false false) refl
  first_once n false true = solve X L (five_values n) (left_whole false true) (left_apart false true) refl
  first_once n true false = solve X L (five_values n) (left_whole true false) (left_apart true false) refl
  first_once n true true = solve X L (five_values n) (left_whole true true) (left_apart true true) refl

  -- And the second once on the right.
  pub second_once : (n : Five X.El) (i j : Bool) → back_right X n i j ≡ n.n2 ⊕ back_right X (rest X (last_three n)) i j
  second_once n false false = solve X L (five_values n) (right_whole false false) (right_apart false false) refl
  second_once n false true = solve X L (five_values n) (right_whole false true) (right_apart false true) refl
  second_once n true false = solve X L (five_values n) (right_whole true false) (right_apart true false) refl
  second_once n true true = solve X L (five_values n) (right_whole true true) (right_apart true true) refl

  -- A value b that holds the number n once: without n, and with its answers a and s and the view's value v added, it is n with what else was mixed in.
  come_to : (b n r a s v δ : X.El) → b ≡ n ⊕ r → b ≡ a ⊕ s ⊕ (v ⊕ δ) → r ⊕ a ⊕ s ⊕ v ≡ n ⊕ δ
  come_to b n r a s v δ once value =
      solve X L (n ∷ r ∷ a ∷ s ∷ v ∷ δ ∷ [])
      (add (add (add (var 1) (var 2)) (var 3)) (var 4))
      (add (add (add (add (var 0) (add (var 0) (var 1))) (var 2)) (var 3)) (var 4))
      refl
      ∙ ap (λ (z : X.El). n ⊕ z ⊕ a ⊕ s ⊕ v) (sym once ∙ value)
      ∙ solve X L (n ∷ r ∷ a ∷ s ∷ v ∷ δ ∷ [])
      (add (add (add (add (var 0) (add (add (var 2) (var 3)) (add (var 4) (var 5)))) (var 2)) (var 3)) (var 4))
      (add (var 0) (var 5))
      refl

  pub gate_law : GateLaw X
  gate_law c t d h Δ A B w i j =
      let n : Five X.El = garbled X c t d Δ A B w in
      let x : LabelOver X = shifted X Δ A i in
      let y : LabelOver X = shifted X Δ B j in
      let v : View = view_at c t d i j in
      let back = halves_back X L c t d h Δ A B w i j in
      let l = come_to (back_left X n i j) n.n1 (back_left X (rest X (last_three n)) i j) (answer_a w i) (answer_s w (i ⊻ j)) (view_left X v x y)
      (X.◌·◌ (truth_at t i j) Δ.0) (first_once n i j) back.0 in
      let r = come_to (back_right X n i j) n.n2 (back_right X (rest X (last_three n)) i j) (answer_b w j) (answer_s w (i ⊻ j)) (view_right X v x y)
      (X.◌·◌ (truth_at t i j) Δ.1) (second_once n i j) back.1 in
      λ k. (l k, r k)
