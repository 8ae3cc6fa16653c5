-- The 20 rounds give a state of 16 words, and all of them are added.
use Rattle.std.proofs.Common.{◌∙◌, ap, take_all, arith}
use Rattle.chacha.specs.Block.{added, final_state}
use Rattle.chacha.proofs.Words.{added_length}
use Rattle.chacha.proofs.blocks.final_state.Goals as goal

pub returns : goal.returns
unfolding final_state
returns c =
    let start = c.args.start in
    let end = c.twenty_rounds.result in
    c.added.ensures
    ∙ take_all 16 (added end start) (omega (arith, added_length end start (omega arith)))
    ∙ ap (λ l. added l start) c.twenty_rounds.ensures
