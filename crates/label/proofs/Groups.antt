-- Halves and control pairs obey the laws of sums; and so does every type under the trait.
use mathlib.Core.Bool.{Bool, true, false}
use mathlib.Core.Path.{◌≡◌, refl}
use lib.Bits.{xor_assoc, xor_comm, xor_zero_l, xor_self}
use Rattle.label.specs.Sums.{Laws, group, halves, pairs, pair_plus, ◌⊻◌}

-- The laws of a sum are those of its group.
pub laws_of : {E : Type 0} (plus : E → E → E) (nought : E)
    → ((a b c : E) → plus (plus a b) c ≡ plus a (plus b c)) → ((a b : E) → plus a b ≡ plus b a)
    → ((a : E) → plus nought a ≡ a) → ((a : E) → plus a a ≡ nought) → Laws (group plus nought)
laws_of plus nought assoc comm neutral inverse =
    record { assoc = assoc; comm = comm; neutral = neutral; inverse = inverse; one = λ a. refl; none = λ a. refl }

pub halves_laws : Laws halves
halves_laws = laws_of _ _ xor_assoc xor_comm xor_zero_l xor_self

bit_assoc : (a b c : Bool) → (a ⊻ b) ⊻ c ≡ a ⊻ (b ⊻ c)
bit_assoc true true c = not_not c
  where
    not_not : (x : Bool) → x ≡ mathlib.Core.Bool.not (mathlib.Core.Bool.not x)
    not_not true = refl
    not_not false = refl
bit_assoc true false c = refl
bit_assoc false b c = refl

pub bit_comm : (a b : Bool) → a ⊻ b ≡ b ⊻ a
bit_comm true true = refl
bit_comm true false = refl
bit_comm false true = refl
bit_comm false false = refl

pub bit_self : (a : Bool) → a ⊻ a ≡ false
bit_self true = refl
bit_self false = refl

pub pairs_laws : Laws pairs
pairs_laws =
    laws_of pair_plus _
    (λ a b c i. record { low = bit_assoc a.low b.low c.low i; high = bit_assoc a.high b.high c.high i })
    (λ a b i. record { low = bit_comm a.low b.low i; high = bit_comm a.high b.high i })
    (λ a. refl)
    (λ a i. record { low = bit_self a.low i; high = bit_self a.high i })
