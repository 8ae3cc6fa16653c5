use Rattle.std.proofs.Common.{◌≡◌}
use Rattle.wires.specs.Read.{wiring_of}
use Rattle.garbling.specs.Words.{labels_kept}
use Rattle.server.proofs.Decoded.{Marked}
use Rattle.server.proofs.outputs.ask_marks.Given as goal

abbrev pub invariant-loop-wire : goal.invariant-loop-wire
invariant-loop-wire g l =
    (g.H.Hash.function l.hash ≡ g.H.Hash.function l.initial.hash)
    × Marked g.H.Hash.asks (wiring_of l.circuit) (g.H.Hash.function l.initial.hash) (labels_kept l.initial.words l.circuit.wires)
    l.wire l.initial.hash l.hash l.words
