-- The control law, out of the gate space; and the view that the server reads off trimmed control pairs.
use Rattle.std.proofs.Common.{◌≡◌, Bool, true, false, cond, [], ◌∷◌, refl, ap, ◌∙◌}
use Rattle.label.specs.Sums.{Group, Laws, ◌⊻◌, pairs, pair_plus}
use Rattle.label.specs.declared.xor.ControlPair.{ControlPair}
use Rattle.label.proofs.Solve.{var, add, solve}
use Rattle.label.proofs.Groups.{pairs_laws}
use Rattle.gate.specs.declared.views.Parity.{Parity}
use Rattle.gate.specs.declared.views.Parity.TheVariants.{Even, Odd, Hidden}
use Rattle.gate.specs.declared.views.Truth.{Truth}
use Rattle.gate.specs.declared.views.Dice.{Dice}
use Rattle.gate.specs.Views.{if_hidden, fits, parity_of, corner_of, view_at}
use Rattle.gate.specs.Numbers.{Five, Six, answer_a, answer_b, answer_s, back_left, back_right}
use Rattle.gate.specs.Sums.{coded_left, coded_right, controls}
use Rattle.gate.specs.Gates.{trimmed, trimmed_five, low_bit, high_bit, corner_from, view_from}
use Rattle.gate_laws.specs.GateLaw.{met}
use Rattle.gate_laws.specs.ControlLaw.{ControlLaw}
use Rattle.gate_laws.proofs.Space.{controls_back}

module _ (X : Group) (L : Laws X) where
  infixl 60 ◌⊕◌
  abbrev ◌⊕◌ : X.El → X.El → X.El
  a ⊕ b = X.◌⊕◌ a b

  -- The answers that were mixed into a value are taken off by adding them again.
  taken_off : (b a s k : X.El) → b ≡ a ⊕ s ⊕ k → b ⊕ a ⊕ s ≡ k
  taken_off b a s k value =
      ap (λ (z : X.El). z ⊕ a ⊕ s) value
      ∙ solve X L (a ∷ s ∷ k ∷ []) (add (add (add (add (var 0) (var 1)) (var 2)) (var 0)) (var 1)) (var 2) refl

  pub control_law : ControlLaw X
  control_law c t d h low high w i j =
      let back = controls_back X L c t d h low high w i j in (
        taken_off _ (answer_a w i) (answer_s w (i ⊻ j)) (coded_left X low high c (view_at c t d i j)) back.0,
        taken_off _ (answer_b w j) (answer_s w (i ⊻ j)) (coded_right X low high c (view_at c t d i j)) back.1,
      )

-- A view's two bits of one side as a control pair.
abbrev coded : Bool → Bool → ControlPair
coded p q = pair_plus (cond p low_bit pairs.o) (cond q high_bit pairs.o)

coded_bits : (p q : Bool) → coded p q ≡ record { low = p; high = q }
coded_bits true true = refl
coded_bits true false = refl
coded_bits false true = refl
coded_bits false false = refl

-- What comes back from trimmed numbers is trimmed.
back_trimmed : (c : Parity) (n : Five ControlPair) (i j : Bool)
    → (back_left pairs (trimmed_five c n) i j ≡ trimmed c (back_left pairs n i j)) × (back_right pairs (trimmed_five c n) i j ≡ trimmed c (back_right pairs n i j))
back_trimmed Even n false false = (refl, refl)
back_trimmed Even n false true = (refl, refl)
back_trimmed Even n true false = (refl, refl)
back_trimmed Even n true true = (refl, refl)
back_trimmed Odd n false false = (refl, refl)
back_trimmed Odd n false true = (refl, refl)
back_trimmed Odd n true false = (refl, refl)
back_trimmed Odd n true true = (refl, refl)
back_trimmed Hidden n false false = (refl, refl)
back_trimmed Hidden n false true = (refl, refl)
back_trimmed Hidden n true false = (refl, refl)
back_trimmed Hidden n true true = (refl, refl)

-- The high bit of a trimmed sum gives the view's γ or ε: it counts only where it is kept.
corner_read : (c : Parity) (odd drawn i : Bool) (k a s : ControlPair) (p : Bool)
    → pair_plus (pair_plus k a) s ≡ coded p (if_hidden c (corner_of c odd drawn i))
    → corner_from c (pair_plus (pair_plus (trimmed c k) a) s).high i ≡ corner_of c odd drawn i
corner_read Even odd drawn i k a s p e = refl
corner_read Odd odd drawn i k a s p e = refl
corner_read Hidden odd drawn i k a s p e = ap (λ (z : ControlPair). z.high) (e ∙ coded_bits p (corner_of Hidden odd drawn i))

-- From the trimmed control numbers and the pairs met the server reads the view that was drawn.
pub view_read : (c : Parity) (t : Truth) (d : Dice) → fits c (parity_of t) ≡ true → (w : Six ControlPair) (i j : Bool)
    → view_from c (trimmed_five c (controls pairs low_bit high_bit c t d w)) (met w i j) i j ≡ view_at c t d i j
view_read c t d h w i j =
    let n : Five ControlPair = controls pairs low_bit high_bit c t d w in
    let law = control_law pairs pairs_laws c t d h low_bit high_bit w i j in
    let a : ControlPair = answer_a w i in
    let b : ControlPair = answer_b w j in
    let s : ControlPair = answer_s w (i ⊻ j) in
    let l : pair_plus (pair_plus (back_left pairs n i j) a) s ≡ coded (view_at c t d i j).alpha (if_hidden c (view_at c t d i j).gamma) = law.0 in
    let r : pair_plus (pair_plus (back_right pairs n i j) b) s ≡ coded (view_at c t d i j).beta (if_hidden c (view_at c t d i j).epsilon) = law.1 in
    let trim = back_trimmed c n i j in
    let tl : ControlPair = trimmed c (back_left pairs n i j) in
    let tr : ControlPair = trimmed c (back_right pairs n i j) in
    (λ k. record {
      alpha = (pair_plus (pair_plus (trim.0 k) a) s).low;
      beta = (pair_plus (pair_plus (trim.1 k) b) s).low;
      gamma = corner_from c (pair_plus (pair_plus (trim.0 k) a) s).high i;
      epsilon = corner_from c (pair_plus (pair_plus (trim.1 k) b) s).high j;
    })
    ∙ (λ k. record {
      alpha = ((l ∙ coded_bits (view_at c t d i j).alpha (if_hidden c (view_at c t d i j).gamma)) k).low;
      beta = ((r ∙ coded_bits (view_at c t d i j).beta (if_hidden c (view_at c t d i j).epsilon)) k).low;
      gamma = corner_read c (parity_of t) d.gamma0 i (back_left pairs n i j) a s (view_at c t d i j).alpha l k;
      epsilon = corner_read c (parity_of t) d.epsilon0 j (back_right pairs n i j) b s (view_at c t d i j).beta r k;
    })
