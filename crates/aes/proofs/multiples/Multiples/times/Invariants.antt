-- After j turns the sum is the product with the tweak's 4·j low coefficients.
use Rattle.std.proofs.Common.{◌≡◌, ◌*◌, ◌%◌, ◌^◌}
use Rattle.aes.specs.Hash.{times64}
use Rattle.aes.proofs.multiples.Multiples.times.Given as goal

abbrev pub invariant-loop-j : goal.invariant-loop-j
invariant-loop-j l = l.sum ≡ times64 l.self.factor (l.tweak % 2 ^ (4 * l.j))
