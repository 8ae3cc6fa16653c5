-- The server's side: from one label for each input and the garbled gates that were sent, a label for each wire, wire by wire, and the outputs by their marks.
use Rattle.std.specs.Prelude.{ℕ, zero, suc, Bool, true, false, cond, List, [], ◌∷◌, ◌++◌, map, length, get_or, Some, None, Option, slice_index_or}
use Rattle.std.specs.List.{flat_map}
use Rattle.label.specs.Sums.{halves}
use Rattle.label.specs.Labels.{Label}
use Rattle.label.specs.Hashes.{HashFunction, Question}
use Rattle.wires.specs.Wires.{Wiring, first_at, second_at, class_at, is_input, is_free, is_output, wires_where, garbled_wires, output_wires}
use Rattle.gate.specs.declared.garble.SentGate.{SentGate}
use Rattle.gate.specs.Classes.{parity_of}
use Rattle.gate.specs.Sums.{sum_of}
use Rattle.gate.specs.Gates.{three_questions, evaluated_gate}
use Rattle.garbling.specs.Tweaks.{gate_tweak}
use Rattle.garbling.specs.Garbling.{label_in, gate_index}
use Rattle.garbling.specs.Marks.{Mark, same_mark, mark_of, mark_questions}

-- A gate of which nothing was sent.
abbrev pub no_gate : SentGate
no_gate = record { ciphertexts = []; controls = [] }

-- The label met on gate w, from those met below.
abbrev pub gate_met : Wiring → HashFunction → List SentGate → List Label → ℕ → Label
gate_met c f gs below w =
    let g : SentGate = get_or gs (gate_index c w) no_gate in
    evaluated_gate f (parity_of (class_at c w)) g.ciphertexts g.controls
    (label_in below (first_at c w)) (label_in below (second_at c w)) (gate_tweak w)

-- The label met on wire w: an input's is given, a free gate's is the sum of its pair's, another's comes of evaluating it.
abbrev pub met_from : Wiring → HashFunction → List SentGate → List Label → List Label → ℕ → Label
met_from c f gs inputs below w =
    cond (is_input c w) (label_in inputs w)
    (cond (is_free (class_at c w)) (sum_of halves (label_in below (first_at c w)) (label_in below (second_at c w))) (gate_met c f gs below w))

-- The labels met on the wires below n, wire by wire.
unfoldable pub met_below : Wiring → HashFunction → List SentGate → List Label → ℕ → List Label
met_below c f gs inputs zero = []
met_below c f gs inputs (suc w) = met_below c f gs inputs w ++ (met_from c f gs inputs (met_below c f gs inputs w) w ∷ [])

-- The labels met on all wires.
abbrev pub met_of : Wiring → HashFunction → List SentGate → List Label → List Label
met_of c f gs inputs = met_below c f gs inputs c.wires

-- What is asked of the hash for gate w, and for all that are garbled, in this order.
abbrev pub evaluate_asks_at : Wiring → HashFunction → List SentGate → List Label → ℕ → List Question
evaluate_asks_at c f gs inputs w =
    three_questions (label_in (met_below c f gs inputs w) (first_at c w)) (label_in (met_below c f gs inputs w) (second_at c w)) (gate_tweak w)

abbrev pub evaluate_asks : Wiring → HashFunction → List SentGate → List Label → List Question
evaluate_asks c f gs inputs = flat_map (evaluate_asks_at c f gs inputs) (garbled_wires c)

-- How many outputs come before wire w: the place of its marks.
abbrev pub output_index : Wiring → ℕ → ℕ
output_index c w = length (wires_where (is_output c) w)

-- The bit that a mark stands for, the false mark tried first; none where it is neither.
abbrev pub read_mark : Mark → Mark → Mark → Option Bool
read_mark falseMark trueMark mark = cond (same_mark mark falseMark) (Some false) (cond (same_mark mark trueMark) (Some true) None)

-- The bit of output w, from the labels met and the false and the true marks that were sent.
abbrev pub output_at : Wiring → HashFunction → List Mark → List Mark → List Label → ℕ → Option Bool
output_at c f falses trues ls w =
    read_mark (slice_index_or falses (output_index c w) (0, 0)) (slice_index_or trues (output_index c w) (0, 0)) (mark_of f c.wires w (label_in ls w))

-- The bits of all outputs, in rising wire order.
abbrev pub outputs_read : Wiring → HashFunction → List Mark → List Mark → List Label → List (Option Bool)
outputs_read c f falses trues ls = map (output_at c f falses trues ls) (output_wires c)

-- What is asked of the hash for the outputs: two questions each.
abbrev pub output_asks : Wiring → List Label → List Question
output_asks c ls = flat_map (λ w. mark_questions c.wires w (label_in ls w)) (output_wires c)
