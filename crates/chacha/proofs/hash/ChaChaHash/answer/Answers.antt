-- The first row of the final state is the front of the block.
use Rattle.std.proofs.Common.{drop, ap, ◌∙◌, ◌++◌, take-append-drop}
use Rattle.chacha.specs.Bytes.{serialised}
use Rattle.chacha.specs.Block.{added, final_state, block_of}
use Rattle.chacha.specs.Hash.{answer_of, read_block, material_of}
use Rattle.chacha.proofs.hash.ChaChaHash.answer.Goals as goal

pub returns : goal.returns
unfolding answer_of block_of final_state material_of
returns c =
    let all = added c.twenty_rounds-end.result c.start-start.result in
    c.read_row.ensures (drop 4 all)
    ∙ ap (λ l. read_block (serialised (l ++ drop 4 all))) c.added.ensures
    ∙ ap (λ l. read_block (serialised l)) (take-append-drop 4 all)
    ∙ simp (c.twenty_rounds-end.ensures, c.start-start.ensures)
