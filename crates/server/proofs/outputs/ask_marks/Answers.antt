use Rattle.std.proofs.Common.{sym, refl, ap, ◌∙◌, subst, arith}
use Rattle.label.specs.Hashes.{Asked}
use Rattle.wires.specs.Read.{wiring_of}
use Rattle.garbling.specs.Garbling.{label_in}
use Rattle.garbling.specs.Marks.{mark_of, mark_questions}
use Rattle.garbling.specs.Words.{labels_kept, keeping}
use Rattle.server.proofs.Decoded.{marked_start, marked_left, marked_taken}
use Rattle.server.proofs.outputs.ask_marks.Goals as goal
use Rattle.server.proofs.outputs.ask_marks.Goals.{then-is_output, else-is_output}

pub loop-wire-init : goal.loop-wire-init
loop-wire-init g c = (
  refl,
  marked_start g.H.Hash.asks (wiring_of c.args.circuit.now) (g.H.Hash.function c.args.hash.now)
      (labels_kept c.args.words.now c.args.circuit.now.wires) c.args.hash.now c.args.words.now refl,
)

pub loop-wire-preserved : goal.loop-wire-preserved
loop-wire-preserved g c =
    let circuit = wiring_of c.args.circuit.now in
    let n = c.args.circuit.now.wires in
    let f = g.H.Hash.function c.args.hash.now in
    let ls = labels_kept c.args.words.now n in
    let wire = c.loop-wire.wire in
    let ws = c.loop-wire.words in
    elim c.if-is_output.branch [
      | then-is_output w ↦ (
        ap g.H.Hash.function w.hash-is ∙ w.ask_mark.ensures.kept ∙ c.loop-wire.invariant.0,
        marked_taken g.H.Hash.asks circuit f ls wire c.args.hash.now c.loop-wire.hash c.if-is_output.hash ws c.if-is_output.words
            (sym w.if-is_output.ensures) (omega arith) (c.loop-wire.auto.words ∙ c.requires) c.loop-wire.invariant.1
            (w.words-is ∙ w.ask_mark.ensures.words ∙ ap (λ fn. keeping ws wire (mark_of fn n wire (label_in (labels_kept ws n) wire))) c.loop-wire.invariant.0)
            (subst (λ h. Asked g.H.Hash.asks (mark_questions n wire (label_in (labels_kept ws n) wire)) c.loop-wire.hash h) (sym w.hash-is) w.ask_mark.ensures.asked),
      )
      | else-is_output w ↦ (
        ap g.H.Hash.function w.hash-is ∙ c.loop-wire.invariant.0,
        marked_left g.H.Hash.asks circuit f ls wire c.args.hash.now c.loop-wire.hash c.if-is_output.hash ws c.if-is_output.words
            (sym w.if-is_output.ensures) c.loop-wire.invariant.1 w.words-is w.hash-is,
      )
    ]
