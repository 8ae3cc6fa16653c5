-- A round: a circuit is garbled from drawn bytes and a hash, and the server evaluates what was sent on one label for each input.
use Rattle.std.specs.Prelude.{ℕ, Bool, false, List, map, slice_index_or}
use Rattle.std.specs.List.{range_with_len}
use Rattle.label.specs.Sums.{halves}
use Rattle.label.specs.Labels.{Label}
use Rattle.label.specs.Hashes.{HashFunction}
use Rattle.wires.specs.Wires.{Wiring}
use Rattle.gate.specs.Sums.{shifted}
use Rattle.gate.specs.declared.garble.SentGate.{SentGate}
use Rattle.gate.specs.declared.garble.GarbledGate.{GarbledGate}
use Rattle.garbling.specs.Tape.{offset_in}
use Rattle.garbling.specs.Garbling.{label_in, falses_of, gates_of}
use Rattle.garbling.specs.Evaluation.{met_of}

-- The labels of the input bits x: of bit 0 the false label, of bit 1 the true one.
abbrev pub input_labels : Wiring → List ℕ → HashFunction → List Bool → List Label
input_labels c T f x = map (λ w. shifted halves (offset_in T) (label_in (falses_of c T f) w) (slice_index_or x w false)) (range_with_len 0 c.inputs)

-- What is sent of all garbled gates.
abbrev pub sent_gates : Wiring → List ℕ → HashFunction → List SentGate
sent_gates c T f = map (λ (g : GarbledGate). g.sent) (gates_of c T f)

-- The labels that the server meets on all wires, where it knows the circuit d.
abbrev pub labels_met : Wiring → Wiring → List ℕ → HashFunction → List Bool → List Label
labels_met c d T f x = met_of d f (sent_gates c T f) (input_labels c T f x)
