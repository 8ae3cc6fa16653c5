use Rattle.std.proofs.Common.{◌≡◌, ◌*◌, length}
use Rattle.label.specs.Hashes.{Asked}
use Rattle.wires.specs.Read.{wiring_of}
use Rattle.opening.proofs.SoFar.{Garbled, asks_to}
use Rattle.opening.proofs.gates.garble_wires.Given as goal

abbrev pub invariant-loop-wire : goal.invariant-loop-wire
invariant-loop-wire g l =
    Garbled (wiring_of l.table.circuit) l.drawn (g.H.Hash.function l.initial.hash) l.table.garbled l.wire l.next l.work l.gates
    × (length l.work ≡ 2 * l.table.circuit.wires) × (length l.gates ≡ 26 * l.table.garbled)
    × (g.H.Hash.function l.hash ≡ g.H.Hash.function l.initial.hash)
    × Asked g.H.Hash.asks (asks_to (wiring_of l.table.circuit) l.drawn (g.H.Hash.function l.initial.hash) l.wire) l.initial.hash l.hash
