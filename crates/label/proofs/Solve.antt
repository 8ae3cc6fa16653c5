-- Equations of sums in which everything is its own inverse, proved by computing: the solver for every sum of the scheme.
-- Write the definition over the expressions below; where its two sides hold the same variables, it holds over every group.
use mathlib.Core.Bool.{Bool, true, false, not, ◌&&◌, false≢true}
use mathlib.Core.Path.{◌≡◌, refl, sym, ◌∙◌, ap, ap₂}
use mathlib.Core.List.{List, [], ◌∷◌}
use Prim.Native.Nat.{ℕ, zero, suc}
use Rattle.label.specs.Sums.{Group, Laws, ◌⊻◌}

-- Sums over numbered variables, with bits as coefficients.
pub data Exp : Type 0 where
  none : Exp
  var : ℕ → Exp
  add : Exp → Exp → Exp
  times : Bool → Exp → Exp

abbrev pub exps : Group
exps = record { El = Exp; o = none; ◌⊕◌ = add; ◌·◌ = times }

-- The value of a variable, and of a sum, where the variables have these values.
abbrev pub look : (X : Group) → List X.El → ℕ → X.El
look X [] k = X.o
look X (r ∷ ρ) zero = r
look X (r ∷ ρ) (suc k) = look X ρ k

abbrev pub eval : (X : Group) → List X.El → Exp → X.El
eval X ρ none = X.o
eval X ρ (var k) = look X ρ k
eval X ρ (add e f) = X.◌⊕◌ (eval X ρ e) (eval X ρ f)
eval X ρ (times b e) = X.◌·◌ b (eval X ρ e)

-- The coefficients of the variables.
abbrev pub plus : List Bool → List Bool → List Bool
plus [] ys = ys
plus (x ∷ xs) [] = x ∷ xs
plus (x ∷ xs) (y ∷ ys) = (x ⊻ y) ∷ plus xs ys

abbrev pub each : Bool → List Bool → List Bool
each b [] = []
each b (x ∷ xs) = (b && x) ∷ each b xs

abbrev pub unit : ℕ → List Bool
unit zero = true ∷ []
unit (suc k) = false ∷ unit k

-- The normal form: which variables are left.
abbrev pub nf : Exp → List Bool
nf none = []
nf (var k) = unit k
nf (add e f) = plus (nf e) (nf f)
nf (times b e) = each b (nf e)

abbrev pub null : List Bool → Bool
null [] = true
null (x ∷ xs) = not x && null xs

module _ (X : Group) (L : Laws X) where
  infixl 60 ◌⊕◌
  abbrev ◌⊕◌ : X.El → X.El → X.El
  a ⊕ b = X.◌⊕◌ a b

  right_zero : (a : X.El) → a ⊕ X.o ≡ a
  right_zero a = L.comm a X.o ∙ L.neutral a

  swap4 : (a b c d : X.El) → (a ⊕ b) ⊕ (c ⊕ d) ≡ (a ⊕ c) ⊕ (b ⊕ d)
  swap4 a b c d =
      L.assoc a b (c ⊕ d)
      ∙ ap (λ (z : X.El). a ⊕ z) (sym (L.assoc b c d) ∙ ap (λ (z : X.El). z ⊕ d) (L.comm b c) ∙ L.assoc c b d)
      ∙ sym (L.assoc a c (b ⊕ d))

  xor_times : (x y : Bool) (a : X.El) → X.◌·◌ (x ⊻ y) a ≡ X.◌·◌ x a ⊕ X.◌·◌ y a
  xor_times true true a = L.none a ∙ sym (L.inverse (X.◌·◌ true a))
  xor_times true false a = sym (ap (λ (z : X.El). X.◌·◌ true a ⊕ z) (L.none a) ∙ right_zero (X.◌·◌ true a))
  xor_times false y a = sym (ap (λ (z : X.El). z ⊕ X.◌·◌ y a) (L.none a) ∙ L.neutral (X.◌·◌ y a))

  and_times : (b x : Bool) (a : X.El) → X.◌·◌ (b && x) a ≡ X.◌·◌ b (X.◌·◌ x a)
  and_times true x a = sym (L.one (X.◌·◌ x a))
  and_times false x a = L.none a ∙ sym (L.none (X.◌·◌ x a))

  times_zero : (b : Bool) → X.◌·◌ b X.o ≡ X.o
  times_zero true = L.one X.o
  times_zero false = L.none X.o

  times_add : (b : Bool) (u v : X.El) → X.◌·◌ b (u ⊕ v) ≡ X.◌·◌ b u ⊕ X.◌·◌ b v
  times_add true u v = L.one (u ⊕ v) ∙ sym (ap₂ (λ (p q : X.El). p ⊕ q) (L.one u) (L.one v))
  times_add false u v = L.none (u ⊕ v) ∙ sym (ap₂ (λ (p q : X.El). p ⊕ q) (L.none u) (L.none v) ∙ L.neutral X.o)

  abbrev val : List X.El → List Bool → X.El
  val ρ [] = X.o
  val [] (x ∷ xs) = X.o
  val (r ∷ ρ) (x ∷ xs) = X.◌·◌ x r ⊕ val ρ xs

  val_nil : (xs : List Bool) → val [] xs ≡ X.o
  val_nil [] = refl
  val_nil (x ∷ xs) = refl

  val_plus : (ρ : List X.El) (xs ys : List Bool) → val ρ (plus xs ys) ≡ val ρ xs ⊕ val ρ ys
  val_plus ρ [] ys = sym (L.neutral (val ρ ys))
  val_plus ρ (x ∷ xs) [] = sym (right_zero (val ρ (x ∷ xs)))
  val_plus [] (x ∷ xs) (y ∷ ys) = sym (L.neutral X.o)
  val_plus (r ∷ ρ) (x ∷ xs) (y ∷ ys) =
      ap₂ (λ (p q : X.El). p ⊕ q) (xor_times x y r) (val_plus ρ xs ys)
      ∙ swap4 (X.◌·◌ x r) (X.◌·◌ y r) (val ρ xs) (val ρ ys)

  val_each : (ρ : List X.El) (b : Bool) (xs : List Bool) → val ρ (each b xs) ≡ X.◌·◌ b (val ρ xs)
  val_each ρ b [] = sym (times_zero b)
  val_each [] b (x ∷ xs) = sym (times_zero b)
  val_each (r ∷ ρ) b (x ∷ xs) =
      ap₂ (λ (p q : X.El). p ⊕ q) (and_times b x r) (val_each ρ b xs) ∙ sym (times_add b (X.◌·◌ x r) (val ρ xs))

  val_unit : (ρ : List X.El) (k : ℕ) → val ρ (unit k) ≡ look X ρ k
  val_unit [] zero = refl
  val_unit [] (suc k) = refl
  val_unit (r ∷ ρ) zero = ap (λ (z : X.El). z ⊕ X.o) (L.one r) ∙ right_zero r
  val_unit (r ∷ ρ) (suc k) = ap (λ (z : X.El). z ⊕ val ρ (unit k)) (L.none r) ∙ L.neutral (val ρ (unit k)) ∙ val_unit ρ k

  val_nf : (ρ : List X.El) (e : Exp) → val ρ (nf e) ≡ eval X ρ e
  val_nf ρ none = refl
  val_nf ρ (var k) = val_unit ρ k
  val_nf ρ (add e f) = val_plus ρ (nf e) (nf f) ∙ ap₂ (λ (p q : X.El). p ⊕ q) (val_nf ρ e) (val_nf ρ f)
  val_nf ρ (times b e) = val_each ρ b (nf e) ∙ ap (λ (z : X.El). X.◌·◌ b z) (val_nf ρ e)

  val_null : (ρ : List X.El) (xs : List Bool) → null xs ≡ true → val ρ xs ≡ X.o
  val_null ρ [] h = refl
  val_null [] (x ∷ xs) h = refl
  val_null (r ∷ ρ) (true ∷ xs) h = absurd (false≢true h)
  val_null (r ∷ ρ) (false ∷ xs) h = ap₂ (λ (p q : X.El). p ⊕ q) (L.none r) (val_null ρ xs h) ∙ L.neutral X.o

  same : (a b : X.El) → a ⊕ b ≡ X.o → a ≡ b
  same a b h =
      sym (right_zero a) ∙ ap (λ (z : X.El). a ⊕ z) (sym (L.inverse b)) ∙ sym (L.assoc a b b)
      ∙ ap (λ (z : X.El). z ⊕ b) h ∙ L.neutral b

  -- e and f have one value, where no variable is left over in their sum.
  pub solve : (ρ : List X.El) (e f : Exp) → null (nf (add e f)) ≡ true → eval X ρ e ≡ eval X ρ f
  solve ρ e f h = same (eval X ρ e) (eval X ρ f) (sym (val_nf ρ (add e f)) ∙ val_null ρ (nf (add e f)) h)
