-- A label shifted by one bit and then by another is shifted by their sum.
use Rattle.std.proofs.Common.{◌≡◌, Bool, sym, ap, ◌∙◌}
use Rattle.label.specs.Sums.{halves, ◌⊻◌}
use Rattle.label.specs.Labels.{Label}
use Rattle.label.proofs.Groups.{halves_laws}
use Rattle.gate.specs.Sums.{shifted}
use Rattle.gate_laws.proofs.Colours.{shifted_twice}
use Rattle.circuit_laws.proofs.BitSums.{xor_first}

pub shifted_by_both : (Δ A : Label) (a b : Bool) → shifted halves Δ (shifted halves Δ A a) b ≡ shifted halves Δ A (a ⊻ b)
shifted_by_both Δ A a b = ap (shifted halves Δ (shifted halves Δ A a)) (sym (xor_first a b)) ∙ shifted_twice halves halves_laws Δ A a (a ⊻ b)
