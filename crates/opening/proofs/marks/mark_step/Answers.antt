use Rattle.std.proofs.Common.{◌≡◌, ℕ, ◌*◌, List, [], ◌++◌, take, drop, sym, refl, ap, ◌∙◌, subst, arith}
use Rattle.std.proofs.lemmas.Bool.{cond-false}
use Rattle.label.specs.Labels.{Label}
use Rattle.label.specs.Hashes.{HashFunction, Asked}
use Rattle.wires.specs.Wires.{Wiring, is_output}
use Rattle.wires.specs.Read.{wiring_of}
use Rattle.garbling.specs.Marks.{marks_ask_at}
use Rattle.garbling.specs.Words.{labels_kept}
use Rattle.opening.specs.Rows.{Rows}
use Rattle.opening.specs.MarkSteps.{MarkPair, false_bytes, true_bytes, marks_at}
use Rattle.opening.proofs.TwoRows.{rows_more}
use Rattle.opening.proofs.WireSteps.{count_stays, count_rises, has_place, with_more, with_none}
use Rattle.opening.proofs.SoMarked.{none_found, marks_are, found_is, asks_are}
use Rattle.opening.proofs.marks.mark_step.Goals as goal

pub returns-then-not-is_output : goal.returns-then-not-is_output
returns-then-not-is_output g c =
    let circuit : Wiring = wiring_of c.args.table.now.circuit in
    let f : HashFunction = g.H.Hash.function c.args.hash.now in
    let ls : List Label = labels_kept c.args.work.now circuit.wires in
    let w : ℕ = c.args.wire in
    let passed = sym (rw c.circuit-circuit.ensures at c.if-not-is_output.ensures) in
    record {
      next = count_stays (is_output circuit) w c.args.so_far.next c.requires.index passed;
      equal = none_found circuit f c.args.delta ls w c.args.so_far.equal passed;
      rows = λ ps long so_far.
          with_none (λ is. Rows false_bytes true_bytes (16 * c.args.table.now.outputs) is c.args.marks.now) (is_output circuit w) ps
          (marks_at circuit f c.args.delta ls w) passed so_far;
      bytes = refl;
      kept = refl;
      asked = subst (λ qs. Asked g.H.Hash.asks qs c.args.hash.now c.args.hash.now)
          (sym (cond-false (is_output circuit w) (marks_ask_at circuit c.args.delta ls w) [] passed)) refl;
    }

pub write_item-requires : goal.write_item-requires
write_item-requires g c =
    let circuit : Wiring = wiring_of c.args.table.now.circuit in
    let picked = sym (rw c.circuit-circuit.ensures at c.if-not-is_output.ensures) in
    let place = has_place (is_output circuit) c.args.wire c.args.so_far.next c.requires.index circuit.wires picked c.requires.within in
    (omega arith, (omega arith, (omega (arith, place, c.args.table.now.marks, c.outputs.ensures), omega arith)))

pub overflow_add-result : goal.overflow_add-result
overflow_add-result g c =
    let circuit : Wiring = wiring_of c.args.table.now.circuit in
    let picked = sym (rw c.circuit-circuit.ensures at c.if-not-is_output.ensures) in
    let place = has_place (is_output circuit) c.args.wire c.args.so_far.next c.requires.index circuit.wires picked c.requires.within in
    let fits = c.outputs.type_inv in
    omega (arith, place, c.args.table.now.marks, c.outputs.ensures, fits)

pub returns : goal.returns
returns g c =
    let circuit : Wiring = wiring_of c.args.table.now.circuit in
    let f : HashFunction = g.H.Hash.function c.args.hash.now in
    let Δ : Label = c.args.delta in
    let ls : List Label = labels_kept c.args.work.now circuit.wires in
    let w : ℕ = c.args.wire in
    let k : ℕ = c.args.so_far.next in
    let pair : MarkPair = c.query_marks.result in
    let bs : List ℕ = c.args.marks.now in
    let cs : List ℕ = c.write_item.new.rows in
    let base : ℕ = 16 * c.args.table.now.outputs in
    let picked = sym (rw c.circuit-circuit.ensures at c.if-not-is_output.ensures) in
    let label = rw c.circuit-circuit.ensures at c.label_below-label.ensures in
    let value = rw c.circuit-circuit.ensures at c.query_marks.ensures.value in
    let asked = rw c.circuit-circuit.ensures at c.query_marks.ensures.asked in
    let second = rw c.outputs.ensures at c.write_item.ensures.second in
    let are : pair ≡ marks_at circuit f Δ ls w = marks_are circuit f Δ ls w c.label_below-label.result pair label value in
    record {
      next = count_rises (is_output circuit) w k c.requires.index picked;
      equal = found_is circuit f Δ ls w pair c.same_mark.result c.args.so_far.equal c.first_equal.result picked are
          c.same_mark.ensures c.first_equal.ensures;
      rows = λ ps long so_far.
          with_more (λ is. Rows false_bytes true_bytes base is cs) (is_output circuit w) ps pair (marks_at circuit f Δ ls w) picked are
          (rows_more false_bytes true_bytes 16 16 base k ps pair bs cs (λ p. refl) (λ p. refl) so_far long
          (c.write_item.ensures.first ∙ ap (λ xs. take (16 * k) bs ++ xs) c.to_bytes-first.ensures.value)
          (second ∙ ap (λ xs. take (16 * k) (drop base bs) ++ xs) c.to_bytes-second.ensures.value));
      bytes = c.write_item.ensures.len;
      kept = c.query_marks.ensures.kept;
      asked = subst (λ qs. Asked g.H.Hash.asks qs c.args.hash.now c.query_marks.new.hash)
          (asks_are circuit Δ ls w c.label_below-label.result picked label) asked;
    }
