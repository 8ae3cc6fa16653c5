use Rattle.std.proofs.Common.{◌≡◌, ℕ, ◌+◌, ◌*◌, ◌<◌, List, ◌++◌, length, take, drop, refl, ap, ◌∙◌, subst, arith}
use Rattle.slices.specs.Little.{short_bytes}
use Rattle.label.specs.Hashes.{Asked}
use Rattle.wires.specs.Wires.{Wiring, is_garbled}
use Rattle.wires.specs.Read.{wiring_of}
use Rattle.gate.specs.declared.garble.SentGate.{SentGate}
use Rattle.garbling.specs.declared.garble.MadeWire.{MadeWire}
use Rattle.garbling.specs.Garbling.{gate_from}
use Rattle.garbling.specs.Words.{labels_kept}
use Rattle.garbling.specs.Steps.{made_from, made_asks}
use Rattle.form.specs.Layout.{ciphertext_bytes, control_bytes}
use Rattle.opening.specs.Rows.{Rows}
use Rattle.opening.proofs.TwoRows.{rows_more}
use Rattle.opening.proofs.WireSteps.{made_same, not_garbled, is_garbled_lem, gate_is, label_kept, length-kept, count_stays, count_rises, has_place, with_more, with_none}
use Rattle.opening.proofs.gates.garble_step.Goals as goal

pub write_item-requires : goal.write_item-requires
write_item-requires g c =
    let circuit : Wiring = wiring_of c.args.table.now.circuit in
    let garbled = is_garbled_lem circuit c.args.drawn.now (g.H.Hash.function c.args.hash.now) c.args.work.now c.args.wire c.args.next c.requires.index _ c.in-Some.sent
    (made_same c.args.drawn.now (g.H.Hash.function c.args.hash.now) (labels_kept c.args.work.now c.args.wire) c.args.wire c.args.next c.garble_wire-made.result _ _ c.circuit-circuit.ensures c.garble_wire-made.ensures.value) c.in-Some.is in
    let place = has_place (is_garbled circuit) c.args.wire c.args.next c.requires.index circuit.wires garbled c.requires.within in
    (omega arith, (omega arith, (omega (arith, place, c.args.table.now.gates, c.garbled.ensures), omega arith)))

pub overflow_add-result : goal.overflow_add-result
overflow_add-result g c =
    let circuit : Wiring = wiring_of c.args.table.now.circuit in
    let garbled = is_garbled_lem circuit c.args.drawn.now (g.H.Hash.function c.args.hash.now) c.args.work.now c.args.wire c.args.next c.requires.index _ c.in-Some.sent
    (made_same c.args.drawn.now (g.H.Hash.function c.args.hash.now) (labels_kept c.args.work.now c.args.wire) c.args.wire c.args.next c.garble_wire-made.result _ _ c.circuit-circuit.ensures c.garble_wire-made.ensures.value) c.in-Some.is in
    let place = has_place (is_garbled circuit) c.args.wire c.args.next c.requires.index circuit.wires garbled c.requires.within in
    let fits = c.garbled.type_inv in
    omega (arith, place, c.args.table.now.gates, c.garbled.ensures, fits)

pub returns-in-Some : goal.returns-in-Some
returns-in-Some g c =
    let circuit : Wiring = wiring_of c.args.table.now.circuit in
    let f = g.H.Hash.function c.args.hash.now in
    let T : List ℕ = c.args.drawn.now in
    let ws : List ℕ = c.args.work.now in
    let w : ℕ = c.args.wire in
    let k : ℕ = c.args.next in
    let made : MadeWire = c.garble_wire-made.result in
    let sent : SentGate = c.in-Some.sent in
    let bs : List ℕ = c.args.gates.now in
    let cs : List ℕ = c.write_item.new.rows in
    let base : ℕ = 24 * c.args.table.now.garbled in
    let room : 2 * w + 1 < length ws = omega (arith, c.requires.within, c.requires.words) in
    let value : made ≡ made_from circuit T f (labels_kept ws w) w k =
    made_same T f (labels_kept ws w) w k made _ _ c.circuit-circuit.ensures c.garble_wire-made.ensures.value in
    let second = rw c.garbled.ensures at c.write_item.ensures.second in
    let garbled = is_garbled_lem circuit T f ws w k c.requires.index made sent value c.in-Some.is in
    record {
      next = count_rises (is_garbled circuit) w k c.requires.index garbled;
      labels = ap (λ zs. labels_kept zs (w + 1)) c.keep_label.ensures
          ∙ label_kept circuit T f ws w k c.requires.index made value room;
      rows = λ gs long so_far.
          with_more (λ is. Rows ciphertext_bytes control_bytes base is cs) (is_garbled circuit w) gs
          sent (gate_from circuit T f (labels_kept ws w) w).sent garbled
          (gate_is circuit T f ws w k c.requires.index made sent value c.in-Some.is)
          (rows_more ciphertext_bytes control_bytes 24 2 base k gs sent bs cs (λ s. refl) (λ s. refl) so_far long
          (c.write_item.ensures.first ∙ ap (λ xs. take (24 * k) bs ++ xs) c.ciphertext_bytes-ciphertexts.ensures)
          (second ∙ ap (λ xs. take (2 * k) (drop base bs) ++ xs) (c.to_le_bytes-word.ensures ∙ ap short_bytes c.control_word.ensures)));
      words = ap length c.keep_label.ensures ∙ length-kept ws w made.label;
      bytes = c.write_item.ensures.len;
      kept = c.garble_wire-made.ensures.kept;
      asked = subst (λ d. Asked g.H.Hash.asks (made_asks (wiring_of d) T (labels_kept ws w) w) c.args.hash.now c.garble_wire-made.new.hash)
          c.circuit-circuit.ensures c.garble_wire-made.ensures.asked;
    }

pub returns-in-None : goal.returns-in-None
returns-in-None g c =
    let circuit : Wiring = wiring_of c.args.table.now.circuit in
    let f = g.H.Hash.function c.args.hash.now in
    let T : List ℕ = c.args.drawn.now in
    let ws : List ℕ = c.args.work.now in
    let w : ℕ = c.args.wire in
    let k : ℕ = c.args.next in
    let made : MadeWire = c.garble_wire-made.result in
    let room : 2 * w + 1 < length ws = omega (arith, c.requires.within, c.requires.words) in
    let value : made ≡ made_from circuit T f (labels_kept ws w) w k =
    made_same T f (labels_kept ws w) w k made _ _ c.circuit-circuit.ensures c.garble_wire-made.ensures.value in
    let passed = not_garbled circuit T f ws w k c.requires.index made value c.in-None.is in
    record {
      next = count_stays (is_garbled circuit) w k c.requires.index passed;
      labels = ap (λ zs. labels_kept zs (w + 1)) c.keep_label.ensures
          ∙ label_kept circuit T f ws w k c.requires.index made value room;
      rows = λ gs long so_far.
          with_none (λ is. Rows ciphertext_bytes control_bytes (24 * c.args.table.now.garbled) is c.args.gates.now) (is_garbled circuit w) gs
          (gate_from circuit T f (labels_kept ws w) w).sent passed so_far;
      words = ap length c.keep_label.ensures ∙ length-kept ws w made.label;
      bytes = refl;
      kept = c.garble_wire-made.ensures.kept;
      asked = subst (λ d. Asked g.H.Hash.asks (made_asks (wiring_of d) T (labels_kept ws w) w) c.args.hash.now c.garble_wire-made.new.hash)
          c.circuit-circuit.ensures c.garble_wire-made.ensures.asked;
    }
