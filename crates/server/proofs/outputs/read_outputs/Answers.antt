use Rattle.std.proofs.Common.{cond, is_ok, ap, ◌∙◌, subst}
use Rattle.refusal.specs.Told.{Finds}
use Rattle.wires.specs.Read.{wiring_of}
use Rattle.garbling.specs.Words.{labels_kept}
use Rattle.server.proofs.Decoded.{fault_same, bytes_same}
use Rattle.server.proofs.outputs.read_outputs.Goals as goal

pub returns : goal.returns
returns g c =
    let circuit = wiring_of c.args.form.now.circuit in
    let F = c.args.form.now.bytes.now in
    let f = g.H.Hash.function c.args.hash.now in
    let ls = labels_kept c.args.words.now c.args.form.now.circuit.wires in
    let ws = c.ask_marks.new.words in
    let marks = c.ask_marks.ensures.marks in
    let r = c.decide_outputs.result in
    record {
      fault = subst (Finds r) (fault_same circuit F f ls ws marks) c.decide_outputs.ensures.fault;
      outputs = c.decide_outputs.ensures.outputs ∙ ap (λ bs. cond (is_ok r) bs c.args.outputs.now) (bytes_same circuit F f ls ws marks);
      kept = c.ask_marks.ensures.kept;
      asked = c.ask_marks.ensures.asked;
    }
