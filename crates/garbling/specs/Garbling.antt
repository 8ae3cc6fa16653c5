-- A circuit garbled: from the drawn bytes T and the hash function f, the false label of each wire, wire by wire, and the garbled gates.
use Rattle.std.specs.Prelude.{ℕ, zero, suc, cond, List, [], ◌∷◌, ◌++◌, map, length, slice_index_or}
use Rattle.std.specs.List.{flat_map}
use Rattle.label.specs.Sums.{halves}
use Rattle.label.specs.Labels.{Label}
use Rattle.label.specs.Hashes.{HashFunction, Question}
use Rattle.wires.specs.Wires.{Wiring, first_at, second_at, truth_at, class_at, is_input, is_free, is_garbled, wires_where, garbled_wires}
use Rattle.gate.specs.declared.garble.GarbledGate.{GarbledGate}
use Rattle.gate.specs.Classes.{parity_of}
use Rattle.gate.specs.Sums.{sum_of}
use Rattle.gate.specs.Gates.{garbled_gate, gate_questions}
use Rattle.garbling.specs.Tweaks.{gate_tweak}
use Rattle.garbling.specs.Tape.{offset_in, input_in, dice_in}

-- The label of wire w in a list of labels.
abbrev pub label_in : List Label → ℕ → Label
label_in ls w = slice_index_or ls w (0, 0)

-- How many garbled gates come before wire w: the place of its dice, its ciphertexts and its control word.
abbrev pub gate_index : Wiring → ℕ → ℕ
gate_index c w = length (wires_where (is_garbled c) w)

-- Gate w garbled, as the k-th that is, from the false labels of the wires below.
abbrev pub gate_with : Wiring → List ℕ → HashFunction → List Label → ℕ → ℕ → GarbledGate
gate_with c T f below w k =
    garbled_gate f (parity_of (class_at c w)) (truth_at c w) (dice_in T c.inputs k) (offset_in T)
    (label_in below (first_at c w)) (label_in below (second_at c w)) (gate_tweak w)

abbrev pub gate_from : Wiring → List ℕ → HashFunction → List Label → ℕ → GarbledGate
gate_from c T f below w = gate_with c T f below w (gate_index c w)

-- The false label of wire w, from those below: an input's is drawn, a free gate's is the sum of its pair's, another's comes of garbling it.
abbrev pub false_from : Wiring → List ℕ → HashFunction → List Label → ℕ → Label
false_from c T f below w =
    cond (is_input c w) (input_in T w)
    (cond (is_free (class_at c w)) (sum_of halves (label_in below (first_at c w)) (label_in below (second_at c w))) (gate_from c T f below w).label)

-- The false labels of the wires below n, wire by wire.
unfoldable pub falses_below : Wiring → List ℕ → HashFunction → ℕ → List Label
falses_below c T f zero = []
falses_below c T f (suc w) = falses_below c T f w ++ (false_from c T f (falses_below c T f w) w ∷ [])

-- The false labels of all wires.
abbrev pub falses_of : Wiring → List ℕ → HashFunction → List Label
falses_of c T f = falses_below c T f c.wires

-- Gate w garbled, and all that are, in rising wire order.
abbrev pub gate_at : Wiring → List ℕ → HashFunction → ℕ → GarbledGate
gate_at c T f w = gate_from c T f (falses_below c T f w) w

abbrev pub gates_of : Wiring → List ℕ → HashFunction → List GarbledGate
gates_of c T f = map (gate_at c T f) (garbled_wires c)

-- What is asked of the hash for gate w, and for all that are garbled, in this order.
abbrev pub garble_asks_at : Wiring → List ℕ → HashFunction → ℕ → List Question
garble_asks_at c T f w =
    gate_questions (offset_in T) (label_in (falses_below c T f w) (first_at c w)) (label_in (falses_below c T f w) (second_at c w)) (gate_tweak w)

abbrev pub garble_asks : Wiring → List ℕ → HashFunction → List Question
garble_asks c T f = flat_map (garble_asks_at c T f) (garbled_wires c)
