-- After i turns the first i words are written, as the first 4 * i bytes.
use Rattle.std.proofs.Common.{◌≡◌, ◌*◌, length, take}
use Rattle.chacha.specs.Bytes.{serialised}
use Rattle.chacha.proofs.blocks.serialise.Given as goal

abbrev pub invariant-loop-i : goal.invariant-loop-i
invariant-loop-i l = (take (4 * l.i) l.bytes ≡ serialised (take l.i l.state)) × (length l.bytes ≡ 64)
