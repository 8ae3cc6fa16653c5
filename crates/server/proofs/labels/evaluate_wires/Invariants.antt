use Rattle.std.proofs.Common.{◌≡◌, ◌≤◌, List, length}
use Rattle.label.specs.Labels.{Label}
use Rattle.wires.specs.Wires.{wires_where, is_garbled}
use Rattle.wires.specs.Read.{wiring_of}
use Rattle.server.specs.Labels.{HoldInputs}
use Rattle.server.proofs.Evaluated.{Met}
use Rattle.server.proofs.labels.evaluate_wires.Given as goal

abbrev pub invariant-loop-wire : goal.invariant-loop-wire
invariant-loop-wire g l =
    ((l.gate ≡ length (wires_where (is_garbled (wiring_of l.form.circuit)) l.wire)) × (l.gate ≤ l.wire))
    × (g.H.Hash.function l.hash ≡ g.H.Hash.function l.initial.hash)
    × ((xs : List Label) → HoldInputs (wiring_of l.form.circuit) l.initial.words xs
    → Met g.H.Hash.asks (wiring_of l.form.circuit) l.form.bytes.now (g.H.Hash.function l.initial.hash) xs
    l.wire l.initial.hash l.hash l.initial.words l.words)
