-- A garbled circuit, evaluated, gives the outputs of the plain circuit.
use Rattle.std.proofs.Common.{◌≡◌, ℕ, ◌<◌, ◌≤◌, Bool, true, false, ◌&&◌, List, [], map, length, get_or, Some, sym, ap, ◌∙◌, zero-add, arith}
use Rattle.std.proofs.lemmas.List.FromFn.{get_or-map-range_with_len}
use Rattle.label.specs.Sums.{halves}
use Rattle.label.specs.Labels.{Label}
use Rattle.label.specs.Hashes.{HashFunction}
use Rattle.wires.specs.Wires.{Wiring, class_at, truth_at, is_free, is_garbled, is_output, allowed, garbled_wires, output_wires}
use Rattle.gate.specs.Sums.{shifted}
use Rattle.circuit.specs.Accepted.{WiresSound}
use Rattle.circuit.specs.Plain.{values_of}
use Rattle.circuit.specs.Public.{PublicOf}
use Rattle.gate.specs.declared.garble.SentGate.{SentGate}
use Rattle.gate.specs.declared.garble.GarbledGate.{GarbledGate}
use Rattle.garbling.specs.Tape.{offset_in}
use Rattle.garbling.specs.Garbling.{label_in, gate_index, falses_of, gate_at}
use Rattle.garbling.specs.Marks.{Mark, same_mark, mark_of, mark_at, marks_of, equal_at, equal_below}
use Rattle.garbling.specs.Evaluation.{no_gate, read_mark, output_index, output_at}
use Rattle.circuit_laws.specs.Round.{input_labels, sent_gates, labels_met}
use Rattle.circuit_laws.specs.CircuitComputes.{RightOutputs, CircuitComputes}
use Rattle.circuit_laws.proofs.Picked.{map-where, get_or-where, none_where, map-map}
use Rattle.circuit_laws.proofs.Wired.{gate_of, active}
use Rattle.circuit_laws.proofs.Shown.{is_garbled_lem, index_shown, outputs_shown, output_wires_shown}
use Rattle.circuit_laws.proofs.Falses.{gate_listed, wired}
use Rattle.circuit_laws.proofs.LabelsMet.{met_active}
use Rattle.circuit_laws.proofs.MarksRead.{read_bit}

module _ (c : Wiring) (sound : WiresSound allowed c c.wires) (d : Wiring) (shown : PublicOf c d) (T : List ℕ) (f : HashFunction) where
  abbrev F : ℕ → Label
  F w = label_in (falses_of c T f) w

  -- The gate that the server finds in its place is the one that was garbled.
  pub gate_found : (w : ℕ) → w < d.wires → d.inputs ≤ w → is_free (class_at d w) ≡ false
      → get_or (sent_gates c T f) (gate_index d w) no_gate ≡ (gate_of d (truth_at c) T f F w).sent
  gate_found w below gate not-Free =
      let b : w < c.wires = omega (arith, shown.wires) in
      let g : c.inputs ≤ w = omega (arith, shown.inputs) in
      let picked : is_garbled c w ≡ true = is_garbled_lem c w g (ap is_free (sym (shown.classes w b g)) ∙ not-Free) in
      ap (λ (k : ℕ). get_or (sent_gates c T f) k no_gate) (index_shown c d shown w (omega arith))
      ∙ ap (λ (l : List SentGate). get_or l (gate_index c w) no_gate) (map-map (λ (g : GarbledGate). g.sent) (gate_at c T f) (garbled_wires c))
      ∙ get_or-where (is_garbled c) (λ k. (gate_at c T f k).sent) c.wires w no_gate b picked
      ∙ ap (λ (g : GarbledGate). g.sent) (gate_listed c T f sound d shown w b g)

  module _ (x : List Bool) where
    abbrev V : ℕ → Bool
    V w = get_or (values_of c x) w false

    pub input_found : (w : ℕ) → w < d.inputs → label_in (input_labels c T f x) w ≡ shifted halves (offset_in T) (F w) (get_or x w false)
    input_found w below =
        get_or-map-range_with_len (λ k. shifted halves (offset_in T) (F k) (get_or x k false)) 0 c.inputs w w (0, 0) (omega (arith, shown.inputs)) (zero-add w)

    -- On each wire the server meets the label of its value.
    pub labels_right : (w : ℕ) → w < d.wires → label_in (labels_met c d T f x) w ≡ active (offset_in T) F V w
    labels_right =
        met_active d f (sent_gates c T f) (input_labels c T f x) (truth_at c) (λ w. get_or x w false) T F V (wired c T f sound d shown x) input_found gate_found

    abbrev marks : Bool → List Mark
    marks b = marks_of c f (offset_in T) (falses_of c T f) b

    mark_found : (b : Bool) (w : ℕ) → w < c.wires → is_output c w ≡ true
        → get_or (marks b) (output_index d w) (0, 0) ≡ mark_at c f (offset_in T) (falses_of c T f) b w
    mark_found b w below output =
        ap (λ (l : List ℕ). get_or (marks b) (length l) (0, 0)) (outputs_shown c d shown w (omega arith))
        ∙ get_or-where (is_output c) (mark_at c f (offset_in T) (falses_of c T f) b) c.wires w (0, 0) below output

    output_read : equal_below c f (offset_in T) (falses_of c T f) c.wires ≡ [] → (w : ℕ) → w < c.wires → is_output c w ≡ true
        → output_at d f (marks false) (marks true) (labels_met c d T f x) w ≡ Some (V w)
    output_read told w below output =
        let mark : Bool → Mark = λ b. mark_at c f (offset_in T) (falses_of c T f) b w in
        let apart : same_mark (mark false) (mark true) ≡ false =
        sym (ap (λ (b : Bool). b && same_mark (mark false) (mark true)) output)
        ∙ none_where (equal_at c f (offset_in T) (falses_of c T f)) c.wires told w below in
        (λ i. read_mark (mark_found false w below output i) (mark_found true w below output i)
        (mark_of f (shown.wires i) w (labels_right w (omega (arith, shown.wires)) i)))
        ∙ read_bit mark apart (V w)

    pub right_outputs : RightOutputs c d T f x
    right_outputs = record {
      labels = λ w below. labels_right w (omega (arith, shown.wires));
      outputs = λ told.
          ap (map (output_at d f (marks false) (marks true) (labels_met c d T f x))) (output_wires_shown c d shown)
          ∙ map-where (is_output c) c.wires _ (λ w. Some (V w)) (output_read told)
          ∙ sym (map-map Some V (output_wires c));
    }

pub circuit_computes : CircuitComputes
circuit_computes s accepted d shown T f x = right_outputs _ accepted.wires d shown T f x
