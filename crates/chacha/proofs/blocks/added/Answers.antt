-- Each call adds the two words at its place.
use Rattle.std.proofs.Common.{get_or, sym, ◌∙◌, arith, rules}
use borrow.Author.Tests.{tests}
use Rattle.chacha.specs.Words.{plus}
use Rattle.slices.proofs.Calls.{made_by}
use Rattle.chacha.proofs.Words.{added_front}
use Rattle.chacha.proofs.blocks.added.Goals as goal

pub returns : goal.returns
returns g c =
    let end = c.args.end.now in
    let start = c.args.start.now in
    made_by _ _ (λ i. plus (get_or end i 0) (get_or start i 0)) _ 0 (λ i y q below k. search (rules, tests)) (λ i y q below k. search (rules, tests)) c.from_fn.result c.from_fn.ensures.items
    ∙ sym (added_front end start _ (omega arith) (omega arith))
