-- The Monday round: an AND of one wire a side, under a small answer table. It meets every premise of what is proved of circuits.
use Rattle.std.specs.Prelude.{◌≡◌, ℕ, ◌+◌, ◌*◌, ◌≤◌, Bool, true, false, List, [], ◌∷◌, ◌++◌, map, Some, Option}
use Rattle.std.specs.List.{range_with_len}
use Rattle.label.specs.Labels.{label_bytes}
use Rattle.label.specs.Hashes.{HashFunction}
use Rattle.label.specs.Rows.{table_function}
use Rattle.label.specs.declared.rows.Row.{Row}
use Rattle.wires.specs.Wires.{Wiring}
use Rattle.gate_laws.specs.Monday.{monday_answer, zero_pair}
use Rattle.circuit.specs.Accepted.{Accepted}
use Rattle.circuit.specs.Check.{table_wiring}
use Rattle.circuit.specs.Plain.{plain_outputs}
use Rattle.circuit.specs.Public.{public_table}
use Rattle.garbling.specs.Evaluation.{outputs_read}
use Rattle.garbling.specs.Tape.{drawn_for}
use Rattle.circuit_laws.specs.Chance.{Done}
use Rattle.circuit_laws.specs.Round.{labels_met}
use Rattle.circuit_laws.specs.CircuitBlind.{ServerView, public_of, server_view, rows_for, CircuitCauses}

-- Three wires: an input of each side, and an output of class odd with this truth table, which reads both.
abbrev pub odd_table : ℕ → List ℕ
odd_table truth = 3 ∷ 0 ∷ 2 ∷ 0 ∷ 0 ∷ 1 ∷ (160 + truth) ∷ 0 ∷ 0 ∷ 0 ∷ 0 ∷ 0 ∷ 0 ∷ 0 ∷ 0 ∷ 0 ∷ 0 ∷ 1 ∷ 0 ∷ []

-- AND, and the circuit that has NOR in its place: their public tables are equal.
abbrev pub and_table : List ℕ
and_table = odd_table 8

abbrev pub nor_table : List ℕ
nor_table = odd_table 1

-- The tape: the offset, a label and a permute bit for each input, the dice.
abbrev pub monday_tape : List ℕ
monday_tape = label_bytes (1, 2) ++ label_bytes (16, 32) ++ (0 ∷ []) ++ label_bytes (64, 128) ++ (1 ∷ []) ++ (0 ∷ [])

-- 17 rows: row r answers 2r to colour 0 and 2r + 1 to colour 1.
abbrev pub monday_rows : List Row
monday_rows = map (λ r. record { zero = monday_answer (2 * r); one = monday_answer (2 * r + 1) }) (range_with_len 0 17)

abbrev pub bits : Bool → Bool → List Bool
bits u v = u ∷ v ∷ []

-- What the server sees of a round with this table and these input bits.
abbrev pub monday_view : List ℕ → Bool → Bool → ServerView
monday_view s u v = server_view (table_wiring s) (bits u v) 0 monday_tape monday_rows

-- What it reads at the output.
abbrev pub monday_read : List ℕ → Bool → Bool → List (Option Bool)
monday_read s u v =
    let c : Wiring = table_wiring s in
    let T : List ℕ = drawn_for c monday_tape 0 in
    let f : HashFunction = table_function monday_rows in
    outputs_read (public_of c) f (monday_view s u v).false_marks (monday_view s u v).true_marks (labels_met c (public_of c) T f (bits u v))

-- A table that is accepted, whose opening is done, and whose views have a cause.
pub record Playable (s : List ℕ) : Type 0 where
  pub accepted : Accepted s
  pub done : Done (table_wiring s) 0 monday_tape monday_rows
  pub cause : (u v : Bool) → CircuitCauses (table_wiring s) (bits u v) 0 51 17 (monday_view s u v)

pub record MondayRound : Type 0 where
  -- Both circuits meet what is asked of tables and openings.
  pub and : Playable and_table
  pub nor : Playable nor_table
  -- The answer table is long enough.
  pub rows : rows_for 3 ≤ 17
  -- All four pairs of bits are read as the plain circuit has them.
  pub no_no : (plain_outputs (table_wiring and_table) (bits false false) ≡ false ∷ []) × (monday_read and_table false false ≡ Some false ∷ [])
  pub no_yes : (plain_outputs (table_wiring and_table) (bits false true) ≡ false ∷ []) × (monday_read and_table false true ≡ Some false ∷ [])
  pub yes_no : (plain_outputs (table_wiring and_table) (bits true false) ≡ false ∷ []) × (monday_read and_table true false ≡ Some false ∷ [])
  pub yes_yes : (plain_outputs (table_wiring and_table) (bits true true) ≡ true ∷ []) × (monday_read and_table true true ≡ Some true ∷ [])
  -- Secrets with one public table and equal outputs: other bits of the same circuit, and other bits of another circuit.
  pub same_table : plain_outputs (table_wiring and_table) (bits false false) ≡ plain_outputs (table_wiring and_table) (bits false true)
  pub other_table : (public_table (table_wiring and_table) ≡ public_table (table_wiring nor_table))
      × (plain_outputs (table_wiring and_table) (bits true true) ≡ plain_outputs (table_wiring nor_table) (bits false false))
  -- What is seen: ciphertexts and controls, the marks, and the labels of two pairs of bits.
  pub gates : (u v : Bool) → (monday_view and_table u v).gates ≡ record {
    ciphertexts = 306 ∷ 435 ∷ 482 ∷ [];
    controls = zero_pair ∷ zero_pair ∷ zero_pair ∷ record { low = true; high = false } ∷ zero_pair ∷ [];
  } ∷ []
  pub marks : (u v : Bool) → ((monday_view and_table u v).false_marks ≡ (7680, 8192) ∷ []) × ((monday_view and_table u v).true_marks ≡ (7936, 8448) ∷ [])
  pub labels : ((monday_view and_table false false).labels ≡ (16, 32) ∷ (65, 130) ∷ []) × ((monday_view and_table true true).labels ≡ (17, 34) ∷ (64, 128) ∷ [])
