-- The four columns make up the state.
use Rattle.std.proofs.Common.{get_or}
use Rattle.aes.proofs.Transforms.{shifted_state}
use Rattle.aes.proofs.rounds.last_round.Goals as goal

pub returns : goal.returns
returns c =
    let s = c.args.s in
    shifted_state (get_or s 0 0) (get_or s 1 0) (get_or s 2 0) (get_or s 3 0) c.args.w.now 10
    c.last_column.result c.last_column-2.result c.last_column-3.result c.last_column-4.result
    c.last_column.ensures c.last_column-2.ensures c.last_column-3.ensures c.last_column-4.ensures
