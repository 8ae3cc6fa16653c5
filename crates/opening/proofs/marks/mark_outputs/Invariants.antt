use Rattle.std.proofs.Common.{◌≡◌, ◌*◌, length}
use Rattle.label.specs.Hashes.{Asked}
use Rattle.wires.specs.Read.{wiring_of}
use Rattle.garbling.specs.Words.{labels_kept}
use Rattle.opening.proofs.SoMarked.{MarkedTo, mark_asks_to}
use Rattle.opening.proofs.marks.mark_outputs.Given as goal

abbrev pub invariant-loop-wire : goal.invariant-loop-wire
invariant-loop-wire g l =
    MarkedTo (wiring_of l.table.circuit) (g.H.Hash.function l.initial.hash) l.delta (labels_kept l.work l.table.circuit.wires)
    l.table.outputs l.wire l.so_far.next l.so_far.equal l.marks
    × (length l.marks ≡ 32 * l.table.outputs)
    × (g.H.Hash.function l.hash ≡ g.H.Hash.function l.initial.hash)
    × Asked g.H.Hash.asks
    (mark_asks_to (wiring_of l.table.circuit) (g.H.Hash.function l.initial.hash) l.delta (labels_kept l.work l.table.circuit.wires) l.wire)
    l.initial.hash l.hash
