use Rattle.std.proofs.Common.{◌+◌, ◌*◌, ◌∙◌, set}
use Rattle.entries.proofs.Writes.{put_sixteen}
use Rattle.entries.proofs.show_label.Goals as goal

pub returns : goal.returns
returns c =
    rw c.from.ensures (put_sixteen (set c.args.sheet.now (2 + c.args.wire) 1) (2 + c.args.inputs + 16 * c.args.wire) _ _ (c.copy_from_slice.ensures.after ∙ c.to_bytes.ensures.value))
