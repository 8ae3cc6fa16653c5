use Rattle.std.proofs.Common.{ℕ, not, is_some, arith, rules}
use borrow.Author.Tests.{tests}
use Rattle.std.proofs.lemmas.Iterator.{YieldsList-from_range, YieldsList-from_zip}
use Rattle.std.proofs.lemmas.Iterator.Consumers.{YieldsList-at, YieldsList-from_filter}
use Rattle.std.proofs.lemmas.Iterator.Search.{find_from_yields_List}
use Rattle.wires.specs.Wires.{is_output}
use Rattle.wires.specs.Read.{wiring_of}
use Rattle.server.specs.Outputs.{kept_bit}
use Rattle.server.proofs.NumberedWires.{lowest_by_find}
use Rattle.server.proofs.outputs.unread_output.Goals as goal

pub returns : goal.returns
returns c =
    let circuit = wiring_of c.args.form.now.circuit in
    let F = c.args.form.now.bytes.now in
    let n = circuit.wires in
    let neither = λ (output : ℕ × ℕ). not (is_some (kept_bit circuit F c.args.words.now output.0 output.1)) in
    lowest_by_find 16 (is_output circuit) neither n c.find.result
    (find_from_yields_List neither _ _ _ c.find.ensures.ran
    (YieldsList-from_zip
    (YieldsList-at c.zip.ensures.first
    (YieldsList-from_filter _ (is_output circuit) (YieldsList-from_range 0 n n c.filter.ensures.source (omega arith)) c.filter.ensures.closure (λ x b q k. search (rules, tests))))
    (YieldsList-from_range 0 n n c.zip.ensures.second (omega arith)))
    (λ x b q k. search (rules, tests)))
