use Rattle.std.proofs.Common.{◌+◌, [], ◌∷◌, ◌++◌, take, replicate, sym, ap, ◌∙◌, arith}
use Rattle.std.proofs.lemmas.List.{take_more_set, replicate_more, take_all}
use Rattle.slices.proofs.overwrite.Goals as goal

pub loop-at-preserved : goal.loop-at-preserved
loop-at-preserved g c =
    ap (take (c.loop-at.at + 1)) c.put.ensures ∙ take_more_set c.loop-at.items c.loop-at.at c.args.value (omega arith)
    ∙ ap (λ xs. xs ++ (c.args.value ∷ [])) c.loop-at.invariant ∙ replicate_more c.loop-at.at c.args.value

pub returns : goal.returns
returns g c =
    sym (take_all c.loop-at.at c.loop-at.items (omega arith)) ∙ c.loop-at.invariant
    ∙ ap (λ n. replicate n c.args.value) (omega arith)
