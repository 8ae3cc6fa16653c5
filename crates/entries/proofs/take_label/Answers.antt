use Rattle.std.proofs.Common.{◌+◌, ◌*◌, arith}
use Rattle.entries.proofs.Writes.{put_two}
use Rattle.entries.proofs.take_label.Goals as goal

pub returns-clause-store : goal.returns-clause-store
returns-clause-store c =
    put_two c.args.store.now (2 + 2 * c.args.wire) (3 + 2 * c.args.wire) 0 0 c.copy_from_slice.new.self (omega arith) c.requires c.copy_from_slice.ensures.after
