use Rattle.std.proofs.Common.{vec_items, sym, ◌∙◌, rules}
use Rattle.hexadecimal.proofs.Fronts.{two_digits}
use Rattle.hexadecimal.proofs.decode.Goals as goal

pub loop-rest-preserved : goal.loop-rest-preserved
loop-rest-preserved c =
    two_digits (vec_items c.loop-rest.bytes) _ c.loop-rest.rest.now c.in-Some-Some.high c.in-Some-Some.low (search rules)
    (sym c.in-Some-Some.ensures) (sym c.in-Some-Some.ensures') c.in_ok-push.ensures.items
    ∙ c.loop-rest.invariant
