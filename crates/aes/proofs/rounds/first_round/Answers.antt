-- The four columns make up the state.
use Rattle.std.proofs.Common.{get_or}
use Rattle.aes.proofs.Transforms.{first_column, first_state}
use Rattle.aes.proofs.rounds.first_round.Goals as goal

pub returns : goal.returns
returns c =
    let block = c.args.block.now in
    let w = c.args.w.now in
    first_state block w _ _ _ _
    (first_column block 0 c.column_at.result (get_or w 0 0) c.column_at.ensures.bytes)
    (first_column block 4 c.column_at-2.result (get_or w 1 0) c.column_at-2.ensures.bytes)
    (first_column block 8 c.column_at-3.result (get_or w 2 0) c.column_at-3.ensures.bytes)
    (first_column block 12 c.column_at-4.result (get_or w 3 0) c.column_at-4.ensures.bytes)
