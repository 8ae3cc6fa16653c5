use Rattle.std.proofs.Common.{◌≡◌, ℕ, List, refl, ◌∙◌, ap, subst, arith}
use Rattle.label.specs.Labels.{Label}
use Rattle.label.specs.Hashes.{HashFunction, Asked}
use Rattle.wires.specs.declared.Circuit.{Circuit}
use Rattle.wires.specs.Wires.{Wiring}
use Rattle.wires.specs.Read.{wiring_of}
use Rattle.garbling.specs.Words.{labels_kept}
use Rattle.opening.proofs.SoMarked.{MarkedTo, mark_asks_to, marked_none, marked_more, marks_done, marks_asked_none, marks_asked_more}
use Rattle.opening.proofs.marks.mark_outputs.Goals as goal

pub loop-wire-init : goal.loop-wire-init
loop-wire-init g c =
    let circuit : Wiring = wiring_of c.args.table.now.circuit in
    let f : HashFunction = g.H.Hash.function c.args.hash.now in
    let ls : List Label = labels_kept c.args.work.now circuit.wires in (
      marked_none circuit f c.args.delta ls c.args.table.now.outputs c.args.marks.now,
      c.requires.bytes,
      refl,
      marks_asked_none circuit f c.args.delta ls g.H.Hash.asks c.args.hash.now,
    )

pub loop-wire-preserved : goal.loop-wire-preserved
loop-wire-preserved g c =
    let circuit : Wiring = wiring_of c.args.table.now.circuit in
    let f : HashFunction = g.H.Hash.function c.args.hash.now in
    let ls : List Label = labels_kept c.args.work.now circuit.wires in
    let inv = c.loop-wire.invariant in
    let step = c.mark_step-so_far.ensures in (
      marked_more circuit f c.args.delta ls c.args.table.now.outputs c.loop-wire.wire c.loop-wire.so_far.next c.mark_step-so_far.result.next
          c.loop-wire.so_far.equal c.mark_step-so_far.result.equal c.loop-wire.marks c.mark_step-so_far.new.marks
          (g.H.Hash.function c.loop-wire.hash) inv.2 inv.0 step.next step.equal step.rows,
      step.bytes ∙ inv.1,
      step.kept ∙ inv.2,
      marks_asked_more circuit f c.args.delta ls g.H.Hash.asks c.loop-wire.wire c.args.hash.now c.loop-wire.hash
          c.mark_step-so_far.new.hash inv.3 step.asked,
    )

pub returns : goal.returns
returns g c =
    let circuit : Wiring = wiring_of c.args.table.now.circuit in
    let f : HashFunction = g.H.Hash.function c.args.hash.now in
    let Δ : Label = c.args.delta in
    let ls : List Label = labels_kept c.args.work.now circuit.wires in
    let inv = c.loop-wire.invariant in
    let w : ℕ = c.loop-wire.wire in
    let end : w ≡ circuit.wires = let past = c.loop-wire-test.false in let kept = c.loop-wire.auto.wire-end in let last = ap (λ (k : Circuit). k.wires) c.circuit-wire-end.ensures in omega (arith, past, kept, last) in
    let done : MarkedTo circuit f Δ ls c.args.table.now.outputs circuit.wires c.loop-wire.so_far.next c.loop-wire.so_far.equal c.loop-wire.marks =
    subst (λ n. MarkedTo circuit f Δ ls c.args.table.now.outputs n c.loop-wire.so_far.next c.loop-wire.so_far.equal c.loop-wire.marks) end inv.0 in
    record {
      equal = done.1;
      marks = marks_done circuit f Δ ls c.args.table.now.outputs c.loop-wire.so_far.next c.loop-wire.so_far.equal c.loop-wire.marks done c.args.table.now.marks inv.1;
      kept = inv.2;
      asked = subst (λ n. Asked g.H.Hash.asks (mark_asks_to circuit f Δ ls n) c.args.hash.now c.loop-wire.hash) end inv.3;
    }
