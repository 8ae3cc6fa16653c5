-- Sums of two bits, with one of them added again.
use Rattle.std.proofs.Common.{◌≡◌, Bool, true, false, refl, ap, ◌∙◌}
use Rattle.label.specs.Sums.{◌⊻◌}
use Rattle.label.proofs.Groups.{bit_comm, bit_self}

-- The first bit, added again.
pub xor_first : (a b : Bool) → a ⊻ (a ⊻ b) ≡ b
xor_first true true = refl
xor_first true false = refl
xor_first false b = refl

pub xor_first_after : (a b : Bool) → (a ⊻ b) ⊻ a ≡ b
xor_first_after a b = bit_comm (a ⊻ b) a ∙ xor_first a b

-- The second bit, added again.
pub xor_second_after : (a b : Bool) → (a ⊻ b) ⊻ b ≡ a
xor_second_after a b = ap (λ (s : Bool). s ⊻ b) (bit_comm a b) ∙ xor_first_after b a

-- Equal bits add up to nothing.
pub xor_same : (a b : Bool) → a ≡ b → a ⊻ b ≡ false
xor_same a b e = ap (λ (s : Bool). s ⊻ b) e ∙ bit_self b
