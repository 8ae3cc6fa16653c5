-- The sums ⊕: in each of these, everything is its own inverse.
use Rattle.std.specs.Prelude.{ℕ, Bool, true, false, not, cond, ◌≡◌}
use Rattle.std.specs.Int.Bits.{bit_xor}
use Rattle.label.specs.declared.xor.ControlPair.{ControlPair}

-- A commutative group in which everything is its own inverse, with bits as coefficients. The sums of the scheme are one text over it.
pub record Group : Type 1 where
  pub El : Type 0
  pub o : El
  pub ◌⊕◌ : El → El → El
  pub ◌·◌ : Bool → El → El

pub record Laws (X : Group) : Type 0 where
  pub assoc : (a b c : X.El) → X.◌⊕◌ (X.◌⊕◌ a b) c ≡ X.◌⊕◌ a (X.◌⊕◌ b c)
  pub comm : (a b : X.El) → X.◌⊕◌ a b ≡ X.◌⊕◌ b a
  pub neutral : (a : X.El) → X.◌⊕◌ X.o a ≡ a
  pub inverse : (a : X.El) → X.◌⊕◌ a a ≡ X.o
  pub one : (a : X.El) → X.◌·◌ true a ≡ a
  pub none : (a : X.El) → X.◌·◌ false a ≡ X.o

-- The group of a sum and its neutral element.
abbrev pub group : {E : Type 0} → (E → E → E) → E → Group
group {E} plus nought = record { El = E; o = nought; ◌⊕◌ = plus; ◌·◌ = λ b x. cond b x nought }

-- Bits.
infixl 60 ◌⊻◌
abbrev pub ◌⊻◌ : Bool → Bool → Bool
true ⊻ b = not b
false ⊻ b = b

-- Control pairs, bit by bit.
abbrev pub pair_plus : ControlPair → ControlPair → ControlPair
pair_plus a b = record { low = a.low ⊻ b.low; high = a.high ⊻ b.high }

-- Labels, half by half.
abbrev pub label_plus : ℕ × ℕ → ℕ × ℕ → ℕ × ℕ
label_plus a b = (bit_xor a.0 b.0, bit_xor a.1 b.1)

-- Halves and control pairs as groups.
abbrev pub halves : Group
halves = group bit_xor 0

abbrev pub pairs : Group
pairs = group pair_plus (record { low = false; high = false })
