-- The chain gives a one or a nought for each entry: their sum is how many are counted, and no more than there are entries.
use Rattle.std.proofs.Common.{◌≡◌, cond, length, arith, rules}
use borrow.Author.Tests.{tests}
use Rattle.std.proofs.lemmas.List.Sums.{count_by-le-length}
use Rattle.std.proofs.lemmas.Iterator.{YieldsList-from_slice, YieldsList-from_map}
use Rattle.std.proofs.lemmas.Iterator.Consumers.{sum_by_from_yields_List, fits_by_from_yields_list}
use Rattle.ledger.specs.Entries.{is_waiting}
use Rattle.ledger.proofs.Counts.{picked_all}
use Rattle.ledger.proofs.Ledger.count_waiting.Goals as goal

pub sum-requires-clause-fits : goal.sum-requires-clause-fits
sum-requires-clause-fits c =
    let es = c.args.self.now.entries in
    let long : length es ≡ 512 = search rules in
    let few = count_by-le-length is_waiting es in
    fits_by_from_yields_list (λ e. cond (is_waiting e) 1 0) es c.map.result 65536
    (YieldsList-from_map _ _ (YieldsList-from_slice es (search rules)) c.map.ensures.closure (λ x r q k. search (rules, tests)))
    (omega (arith, long, few))

pub returns : goal.returns
returns c =
    let es = c.args.self.now.entries in
    picked_all is_waiting c.args.self.now 512 c.sum.result (search rules)
    (sum_by_from_yields_List (λ e. cond (is_waiting e) 1 0) es c.map.result c.sum.result c.sum.ensures.ran
    (YieldsList-from_map _ _ (YieldsList-from_slice es (search rules)) c.map.ensures.closure (λ x r q k. search (rules, tests))))
