use Rattle.std.proofs.Common.{◌≡◌, length, vec_items}
use Rattle.hexadecimal.specs.Digits.{bytes_of}
use Rattle.hexadecimal.proofs.Fronts.{after}
use Rattle.hexadecimal.proofs.decode.Given as goal

abbrev pub invariant-loop-rest : goal.invariant-loop-rest
invariant-loop-rest l = after (vec_items l.bytes) (bytes_of l.rest) ≡ bytes_of l.text

abbrev pub decreases-loop-rest : goal.decreases-loop-rest
decreases-loop-rest l = length l.rest
