use Rattle.std.proofs.Common.{◌≡◌, slice_index_or, arith}
use Rattle.form.specs.Read.{outputs_stated, false_marks_in, true_marks_in}
use Rattle.server.proofs.Numbered.{mark_read}
use Rattle.server.proofs.read.Form.marks.Goals as goal

pub returns : goal.returns
returns c =
    let F = c.args.self.now.bytes.now in
    let k = c.args.output in
    let falses : c.mark_from.result ≡ slice_index_or (false_marks_in F) k (0, 0) = mark_read F _ _ (outputs_stated F) k _ c.mark_from.ensures (omega arith) in
    let trues : c.mark_from-2.result ≡ slice_index_or (true_marks_in F) k (0, 0) = mark_read F _ _ (outputs_stated F) k _ c.mark_from-2.ensures (omega arith) in
    λ i. (falses i, trues i)
