-- The chain gives a one or a nought for each wire: their sum is how many are picked, and no more than there are wires.
use Rattle.std.proofs.Common.{cond, arith, ◌∙◌, rules}
use borrow.Author.Tests.{tests}
use Rattle.std.specs.List.{range_with_len}
use Rattle.std.proofs.lemmas.List.FromFn.{length-range_with_len}
use Rattle.std.proofs.lemmas.List.Sums.{count_by-le-length}
use Rattle.std.proofs.lemmas.Iterator.{YieldsList-from_range, YieldsList-from_map}
use Rattle.std.proofs.lemmas.Iterator.Consumers.{sum_by_from_yields_List, fits_by_from_yields_list}
use Rattle.wires.specs.Wires.{is_output}
use Rattle.wires.specs.Read.{wiring_of}
use Rattle.wires.proofs.Scans.{where_counted}
use Rattle.wires.proofs.Circuit.count_outputs.Goals as goal

pub sum-requires-clause-fits : goal.sum-requires-clause-fits
sum-requires-clause-fits c =
    let p = is_output (wiring_of c.args.self.now) in
    let n = c.args.self.now.wires in
    let few = count_by-le-length p (range_with_len 0 n) in
    let long = length-range_with_len 0 n in
    fits_by_from_yields_list (λ w. cond (p w) 1 0) (range_with_len 0 n) c.map.result 65536
    (YieldsList-from_map _ _ (YieldsList-from_range 0 n n c.map.ensures.source (omega arith)) c.map.ensures.closure (λ x r q k. search (rules, tests)))
    (omega (arith, few, long))

pub returns : goal.returns
returns c =
    let p = is_output (wiring_of c.args.self.now) in
    let n = c.args.self.now.wires in
    sum_by_from_yields_List (λ w. cond (p w) 1 0) (range_with_len 0 n) c.map.result c.sum.result c.sum.ensures.ran
    (YieldsList-from_map _ _ (YieldsList-from_range 0 n n c.map.ensures.source (omega arith)) c.map.ensures.closure (λ x r q k. search (rules, tests)))
    ∙ where_counted p n
