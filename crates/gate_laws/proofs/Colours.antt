-- The labels that the server meets are the garbler's labels of the same colours.
use Rattle.std.proofs.Common.{◌≡◌, ℕ, zero, suc, ◌%◌, ◌<◌, Bool, true, false, cond, eqb, [], ◌∷◌, refl, ap, ◌∙◌, mod-lt, arith, lit<}
use lib.Bits.{bit_xor, xor_mod, xor_zero_r}
use Rattle.label.specs.Sums.{Group, Laws, ◌⊻◌, halves}
use Rattle.label.specs.Labels.{Label, colour_of}
use Rattle.label.proofs.Solve.{var, add, times, solve}
use Rattle.label.proofs.Groups.{halves_laws}
use Rattle.gate.specs.Sums.{LabelOver, shifted, sum_of}

bit_of_sum : (a b : ℕ) → a < 2 → b < 2 → eqb (bit_xor a b) 1 ≡ eqb a 1 ⊻ eqb b 1
bit_of_sum zero zero h g = refl
bit_of_sum zero (suc zero) h g = refl
bit_of_sum zero (suc (suc b)) h g = absurd (omega arith)
bit_of_sum (suc zero) zero h g = refl
bit_of_sum (suc zero) (suc zero) h g = refl
bit_of_sum (suc zero) (suc (suc b)) h g = absurd (omega arith)
bit_of_sum (suc (suc a)) b h g = absurd (omega arith)

-- The colour of a sum is the sum of the colours.
pub colour_of_sum : (x y : Label) → colour_of (sum_of halves x y) ≡ colour_of x ⊻ colour_of y
colour_of_sum x y =
    ap (λ (n : ℕ). eqb n 1) (xor_mod x.0 y.0 1)
    ∙ bit_of_sum (x.0 % 2) (y.0 % 2) (mod-lt x.0 (lit< tt)) (mod-lt y.0 (lit< tt))

plus_nothing : (b : Bool) → b ≡ b ⊻ false
plus_nothing true = refl
plus_nothing false = refl

-- An offset of colour 1 turns the colour of a label.
pub colour_of_shifted : (Δ A : Label) → colour_of Δ ≡ true → (u : Bool) → colour_of (shifted halves Δ A u) ≡ colour_of A ⊻ u
colour_of_shifted Δ A one true = colour_of_sum A Δ ∙ ap (λ (b : Bool). colour_of A ⊻ b) one
colour_of_shifted Δ A one false = ap (λ (n : ℕ). eqb (n % 2) 1) (xor_zero_r A.0) ∙ plus_nothing (colour_of A)

module _ (X : Group) (L : Laws X) where
  infixl 60 ◌⊕◌
  abbrev ◌⊕◌ : X.El → X.El → X.El
  a ⊕ b = X.◌⊕◌ a b

  infixl 70 ◌·◌
  abbrev ◌·◌ : Bool → X.El → X.El
  b · a = X.◌·◌ b a

  nothing_added : (x δ : X.El) → x ⊕ false · δ ≡ x
  nothing_added x δ = solve X L (x ∷ δ ∷ []) (add (var 0) (times false (var 1))) (var 0) refl

  -- A label shifted by no bit is itself.
  pub not_shifted : (Δ A : LabelOver X) → shifted X Δ A false ≡ A
  not_shifted Δ A = λ k. (nothing_added A.0 Δ.0 k, nothing_added A.1 Δ.1 k)

  added_twice : (x δ : X.El) (a u : Bool) → (x ⊕ a · δ) ⊕ (a ⊻ u) · δ ≡ x ⊕ u · δ
  added_twice x δ true true = solve X L (x ∷ δ ∷ []) (add (add (var 0) (times true (var 1))) (times false (var 1))) (add (var 0) (times true (var 1))) refl
  added_twice x δ true false = solve X L (x ∷ δ ∷ []) (add (add (var 0) (times true (var 1))) (times true (var 1))) (add (var 0) (times false (var 1))) refl
  added_twice x δ false u = ap (λ (z : X.El). z ⊕ u · δ) (nothing_added x δ)

  -- Shifted by two bits, a label is shifted by their sum.
  pub shifted_twice : (Δ A : LabelOver X) (a u : Bool) → shifted X Δ (shifted X Δ A a) (a ⊻ u) ≡ shifted X Δ A u
  shifted_twice Δ A a u = λ k. (added_twice A.0 Δ.0 a u k, added_twice A.1 Δ.1 a u k)

  -- Shifted twice by one bit, a label is back.
  pub shifted_back : (Δ A : LabelOver X) (i : Bool) → shifted X Δ (shifted X Δ A i) i ≡ A
  shifted_back Δ A i = ap (shifted X Δ (shifted X Δ A i)) (plus_nothing i) ∙ shifted_twice Δ A i false ∙ not_shifted Δ A

  sum_added : (x y δ : X.El) (i j : Bool) → (x ⊕ i · δ) ⊕ (y ⊕ j · δ) ≡ (x ⊕ y) ⊕ (i ⊻ j) · δ
  sum_added x y δ true true = solve X L (x ∷ y ∷ δ ∷ []) (add (add (var 0) (times true (var 2))) (add (var 1) (times true (var 2)))) (add (add (var 0) (var 1)) (times false (var 2))) refl
  sum_added x y δ true false = solve X L (x ∷ y ∷ δ ∷ []) (add (add (var 0) (times true (var 2))) (add (var 1) (times false (var 2)))) (add (add (var 0) (var 1)) (times true (var 2))) refl
  sum_added x y δ false true = solve X L (x ∷ y ∷ δ ∷ []) (add (add (var 0) (times false (var 2))) (add (var 1) (times true (var 2)))) (add (add (var 0) (var 1)) (times true (var 2))) refl
  sum_added x y δ false false = solve X L (x ∷ y ∷ δ ∷ []) (add (add (var 0) (times false (var 2))) (add (var 1) (times false (var 2)))) (add (add (var 0) (var 1)) (times false (var 2))) refl

  -- The sum of two shifted labels is their shifted sum.
  pub sum_shifted : (Δ A B : LabelOver X) (i j : Bool) → sum_of X (shifted X Δ A i) (shifted X Δ B j) ≡ shifted X Δ (sum_of X A B) (i ⊻ j)
  sum_shifted Δ A B i j = λ k. (sum_added A.0 B.0 Δ.0 i j k, sum_added A.1 B.1 Δ.1 i j k)

-- What holds of a label of colour i is, of the garbler's two, what holds of that one.
pub by_colour_lem : {E : Type 0} (F : Label → E) (Δ A : Label) (i : Bool) → F (shifted halves Δ A i) ≡ cond i (F (shifted halves Δ A true)) (F A)
by_colour_lem F Δ A true = refl
by_colour_lem F Δ A false = ap F (not_shifted halves halves_laws Δ A)
