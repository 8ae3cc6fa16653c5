-- One wire of a garbling, and one of an evaluation.
use Rattle.std.specs.Prelude.{ℕ, cond, List, [], Some, None}
use Rattle.label.specs.Labels.{Label}
use Rattle.label.specs.Hashes.{HashFunction, Question}
use Rattle.label.specs.Sums.{halves}
use Rattle.wires.specs.Wires.{Wiring, first_at, second_at, class_at, is_input, is_free, is_garbled}
use Rattle.gate.specs.declared.garble.GarbledGate.{GarbledGate}
use Rattle.gate.specs.declared.garble.SentGate.{SentGate}
use Rattle.gate.specs.Classes.{parity_of}
use Rattle.gate.specs.Sums.{sum_of}
use Rattle.gate.specs.Gates.{gate_questions, three_questions, evaluated_gate}
use Rattle.garbling.specs.declared.garble.MadeWire.{MadeWire}
use Rattle.garbling.specs.Tweaks.{gate_tweak}
use Rattle.garbling.specs.Tape.{offset_in, input_in}
use Rattle.garbling.specs.Garbling.{label_in, gate_with}

-- The label of an input, or of a free gate, from the false labels below.
abbrev pub plain_from : Wiring → List ℕ → List Label → ℕ → Label
plain_from c T below w =
    cond (is_input c w) (input_in T w) (sum_of halves (label_in below (first_at c w)) (label_in below (second_at c w)))

-- What is made of a garbled gate, and of a label alone.
abbrev pub made_gate : GarbledGate → MadeWire
made_gate g = record { label = g.label; gate = Some g.sent }

abbrev pub made_label : Label → MadeWire
made_label l = record { label = l; gate = None }

-- What is made of wire w, with k garbled gates before it: a garbled gate, or a label alone.
abbrev pub made_from : Wiring → List ℕ → HashFunction → List Label → ℕ → ℕ → MadeWire
made_from c T f below w k = cond (is_garbled c w) (made_gate (gate_with c T f below w k)) (made_label (plain_from c T below w))

-- What is asked for it.
abbrev pub made_asks : Wiring → List ℕ → List Label → ℕ → List Question
made_asks c T below w =
    cond (is_garbled c w) (gate_questions (offset_in T) (label_in below (first_at c w)) (label_in below (second_at c w)) (gate_tweak w)) []

-- The label met on wire w, from those met below: an input's own, a free gate's sum, another's from the gate g that was sent.
abbrev pub met_with : Wiring → HashFunction → SentGate → Label → List Label → ℕ → Label
met_with c f g own below w =
    cond (is_input c w) own
    (cond (is_free (class_at c w)) (sum_of halves (label_in below (first_at c w)) (label_in below (second_at c w)))
    (evaluated_gate f (parity_of (class_at c w)) g.ciphertexts g.controls
    (label_in below (first_at c w)) (label_in below (second_at c w)) (gate_tweak w)))

-- What is asked for it.
abbrev pub met_asks : Wiring → List Label → ℕ → List Question
met_asks c below w =
    cond (is_garbled c w) (three_questions (label_in below (first_at c w)) (label_in below (second_at c w)) (gate_tweak w)) []
