-- The block's four steps, one after another.
use Rattle.std.proofs.Common.{ap, ◌∙◌, ap₂}
use Rattle.chacha.specs.Bytes.{serialised}
use Rattle.chacha.specs.Block.{initial_state, state_of, final_state, block_of}
use Rattle.chacha.proofs.blocks.block.Goals as goal

pub returns : goal.returns
unfolding initial_state block_of
returns c =
    let start = ap₂ (λ k n. state_of k c.args.counter n) c.words_in.ensures c.words_in-2.ensures in
    c.serialise.ensures ∙ ap serialised (c.final_state.ensures ∙ ap final_state (c.state_of.ensures ∙ start))
