use Rattle.std.proofs.Common.{◌≡◌, ℕ, ◌<◌, get_or}
use Rattle.circuit.specs.Public.{public_byte}
use Rattle.wires.specs.Read.{wiring_of}
use Rattle.circuit.proofs.publish.public_arrays.Given as goal

abbrev pub invariant-loop-at : goal.invariant-loop-at
invariant-loop-at l = (k : ℕ) → k < l.at → get_or l.arrays k 0 ≡ public_byte (wiring_of l.circuit) k
