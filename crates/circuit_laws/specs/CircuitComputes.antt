-- A whole circuit, garbled and then evaluated: on every wire the server comes to the label of the wire's value, and reads the outputs of the plain circuit.
use Rattle.std.specs.Prelude.{◌≡◌, ℕ, ◌<◌, Bool, true, false, List, [], map, Some, slice_index_or}
use Rattle.label.specs.Sums.{halves}
use Rattle.label.specs.Hashes.{HashFunction}
use Rattle.wires.specs.Wires.{Wiring}
use Rattle.gate.specs.Sums.{shifted}
use Rattle.circuit.specs.Accepted.{Accepted}
use Rattle.circuit.specs.Check.{table_wiring}
use Rattle.circuit.specs.Plain.{values_of, plain_outputs}
use Rattle.circuit.specs.Public.{PublicOf}
use Rattle.garbling.specs.Tape.{offset_in}
use Rattle.garbling.specs.Garbling.{label_in, falses_of}
use Rattle.garbling.specs.Marks.{marks_of, equal_below}
use Rattle.garbling.specs.Evaluation.{outputs_read}
use Rattle.circuit_laws.specs.Round.{labels_met}

-- Of circuit c, garbled from the drawn bytes T and the hash f, and evaluated over circuit d on the labels of the input bits x.
pub record RightOutputs (c d : Wiring) (T : List ℕ) (f : HashFunction) (x : List Bool) : Type 0 where
  -- On each wire stands the label of its value: the false label, with the offset added where the value is 1.
  pub labels : (w : ℕ) → w < c.wires
      → label_in (labels_met c d T f x) w ≡ shifted halves (offset_in T) (label_in (falses_of c T f) w) (slice_index_or (values_of c x) w false)
  -- Where no output has two equal marks, all outputs are read, and they are those of the plain circuit.
  pub outputs : equal_below c f (offset_in T) (falses_of c T f) c.wires ≡ []
      → outputs_read d f (marks_of c f (offset_in T) (falses_of c T f) false) (marks_of c f (offset_in T) (falses_of c T f) true) (labels_met c d T f x)
      ≡ map Some (plain_outputs c x)

-- For every accepted table, every circuit that shows its public part, all drawn bytes, every hash and all input bits.
abbrev pub CircuitComputes : Type 0
CircuitComputes =
    (s : List ℕ) → Accepted s → (d : Wiring) → PublicOf (table_wiring s) d
    → (T : List ℕ) (f : HashFunction) (x : List Bool) → RightOutputs (table_wiring s) d T f x
