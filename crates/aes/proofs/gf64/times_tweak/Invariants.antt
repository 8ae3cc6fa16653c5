-- The sum is the product with the tweak's coefficients from i on.
use Rattle.std.proofs.Common.{◌≡◌}
use Rattle.aes.proofs.Tweaks.{high_product}
use Rattle.aes.proofs.gf64.times_tweak.Given as goal

abbrev pub invariant-loop-i : goal.invariant-loop-i
invariant-loop-i l = l.sum ≡ high_product l.a l.tweak l.i
