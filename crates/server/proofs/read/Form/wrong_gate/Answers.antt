use Rattle.std.proofs.Common.{ℕ, not, arith, rules}
use borrow.Author.Tests.{tests}
use Rattle.std.proofs.lemmas.Iterator.{YieldsList-from_range, YieldsList-from_zip}
use Rattle.std.proofs.lemmas.Iterator.Consumers.{YieldsList-at, YieldsList-from_filter}
use Rattle.std.proofs.lemmas.Iterator.Search.{find_from_yields_List}
use Rattle.slices.specs.Little.{short_at}
use Rattle.wires.specs.Wires.{class_at, is_garbled}
use Rattle.wires.specs.Read.{wiring_of}
use Rattle.form.specs.Read.{gates_stated, control_word_at}
use Rattle.server.specs.Faults.{controls_sound}
use Rattle.server.proofs.NumberedWires.{lowest_by_find}
use Rattle.server.proofs.read.Form.wrong_gate.Goals as goal

pub returns : goal.returns
returns c =
    let circuit = wiring_of c.args.self.now.circuit in
    let F = c.args.self.now.bytes.now in
    let n = circuit.wires in
    let wrong = λ (gate : ℕ × ℕ). not (controls_sound (class_at circuit gate.0) (control_word_at F (short_at F 0) (gates_stated F) gate.1)) in
    lowest_by_find 14 (is_garbled circuit) wrong n c.find.result
    (find_from_yields_List wrong _ _ _ c.find.ensures.ran
    (YieldsList-from_zip
    (YieldsList-at c.zip.ensures.first
    (YieldsList-from_filter _ (is_garbled circuit) (YieldsList-from_range 0 n n c.filter.ensures.source (omega arith)) c.filter.ensures.closure (λ x b q k. search (rules, tests))))
    (YieldsList-from_range 0 n n c.zip.ensures.second (omega arith)))
    (λ x b q k. search (rules, tests)))
