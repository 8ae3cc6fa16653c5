-- What the server sees of a whole circuit, and that it tells nothing of truth tables and input bits beyond the public table and the outputs.
use Rattle.std.specs.Prelude.{◌≡◌, ℕ, ◌+◌, ◌*◌, ◌≤◌, Bool, true, false, List, ◌++◌}
use mathlib.Core.Equiv.{Fiber}
use Rattle.label.specs.Labels.{Label}
use Rattle.label.specs.Hashes.{HashFunction}
use Rattle.label.specs.Rows.{table_function}
use Rattle.label.specs.declared.hash.Answer.{Answer}
use Rattle.label.specs.declared.rows.Row.{Row}
use Rattle.wires.specs.Wires.{Wiring}
use Rattle.gate.specs.Gates.{answers_to}
use Rattle.gate_laws.specs.Many.{EquallyMany}
use Rattle.circuit.specs.Accepted.{Accepted}
use Rattle.circuit.specs.Check.{table_wiring}
use Rattle.circuit.specs.Plain.{plain_outputs}
use Rattle.circuit.specs.Public.{public_table}
use Rattle.gate.specs.declared.garble.SentGate.{SentGate}
use Rattle.garbling.specs.Tape.{offset_in, drawn_for}
use Rattle.garbling.specs.Garbling.{falses_of}
use Rattle.garbling.specs.Marks.{Mark, marks_of}
use Rattle.garbling.specs.Evaluation.{evaluate_asks, output_asks}
use Rattle.circuit_laws.specs.Chance.{Opened}
use Rattle.circuit_laws.specs.Round.{input_labels, sent_gates, labels_met}

-- All that the server gets beside the public table: what is sent of the garbled gates, the marks of the outputs, one label for each
-- input, and the answers of the hash to its own questions, in the order asked.
pub record ServerView : Type 0 where
  pub gates : List SentGate
  pub false_marks : List Mark
  pub true_marks : List Mark
  pub labels : List Label
  pub answers : List Answer

-- The circuit that the server knows.
abbrev pub public_of : Wiring → Wiring
public_of c = table_wiring (public_table c)

-- The answers that the server meets for the garbled gates, and those for the outputs, each in the order asked.
abbrev pub gate_answers : Wiring → Wiring → List ℕ → HashFunction → List Bool → List Answer
gate_answers c d T f x = answers_to f (evaluate_asks d f (sent_gates c T f) (input_labels c T f x))

abbrev pub output_answers : Wiring → Wiring → List ℕ → HashFunction → List Bool → List Answer
output_answers c d T f x = answers_to f (output_asks d (labels_met c d T f x))

-- What the server sees, where circuit c is garbled from the drawn bytes T and the hash f, the labels of the input bits x are released, and the server knows circuit d.
abbrev pub view_of : Wiring → Wiring → List ℕ → HashFunction → List Bool → ServerView
view_of c d T f x = record {
  gates = sent_gates c T f;
  false_marks = marks_of c f (offset_in T) (falses_of c T f) false;
  true_marks = marks_of c f (offset_in T) (falses_of c T f) true;
  labels = input_labels c T f x;
  answers = gate_answers c d T f x ++ output_answers c d T f x;
}

-- The same, with the bytes drawn from a place of the tape on, an answer table for the hash, and the public circuit.
abbrev pub server_view : Wiring → List Bool → ℕ → List ℕ → List Row → ServerView
server_view c x place tape rows = view_of c (public_of c) (drawn_for c tape place) (table_function rows) x

-- The pairs of a tape and an answer table, of these sizes and with a done opening, that show the view.
abbrev pub CircuitCauses : Wiring → List Bool → ℕ → ℕ → ℕ → ServerView → Type 0
CircuitCauses c x place bytes rows view = Fiber (λ (o : Opened c place bytes rows). server_view c x place o.0.0.0 o.0.1.0) view

-- How many rows an answer table needs, so that no tweak of a circuit of n wires lies past its last.
abbrev pub rows_for : ℕ → ℕ
rows_for n = 5 * n + 2

-- Two accepted tables with one public table, and input bits for each such that the outputs are equal: for every length of the tape, place
-- and number of rows, each view has equally many causes under the one and under the other.
abbrev pub CircuitBlind : Type 0
CircuitBlind =
    (s s' : List ℕ) → Accepted s → Accepted s'
    → let c : Wiring = table_wiring s in
    let c' : Wiring = table_wiring s' in
    public_table c ≡ public_table c'
    → (x x' : List Bool) → plain_outputs c x ≡ plain_outputs c' x'
    → (place bytes rows : ℕ) → rows_for c.wires ≤ rows
    → (view : ServerView) → EquallyMany (CircuitCauses c x place bytes rows view) (CircuitCauses c' x' place bytes rows view)
