-- The gate of the Monday round: an AND of one wire a side, on wire 2, under a small answer table.
use Rattle.std.specs.Prelude.{◌≡◌, ℕ, ◌+◌, ◌*◌, ◌/◌, ◌%◌, true, false, [], ◌∷◌, map, ◌==◌}
use Rattle.std.specs.List.{range_with_len}
use Rattle.label.specs.Labels.{Label}
use Rattle.label.specs.Hashes.{HashFunction}
use Rattle.label.specs.Rows.{table_function}
use Rattle.label.specs.declared.hash.Answer.{Answer}
use Rattle.label.specs.declared.xor.ControlPair.{ControlPair}
use Rattle.gate.specs.declared.views.Parity.TheVariants.{Odd}
use Rattle.gate.specs.declared.garble.GarbledGate.{GarbledGate}
use Rattle.gate.specs.Gates.{garbled_gate, evaluated_gate}

-- The answer for a number: 256 times it, and its two low bits.
abbrev pub monday_answer : ℕ → Answer
monday_answer k = record { word = 256 * k; pair = record { low = (k % 2 == 1); high = (k / 2 % 2 == 1) } }

-- 17 rows: row r answers 2r to colour 0 and 2r + 1 to colour 1.
abbrev pub monday_hash : HashFunction
monday_hash = table_function (map (λ r. record { zero = monday_answer (2 * r); one = monday_answer (2 * r + 1) }) (range_with_len 0 17))

-- Truth table 8, dice 0, offset (1, 2), false labels (16, 32) and (65, 130), tweaks from 6 on.
abbrev pub monday_gate : GarbledGate
monday_gate = garbled_gate monday_hash Odd 8 0 (1, 2) (16, 32) (65, 130) 6

abbrev pub monday_output : Label → Label → Label
monday_output A B = evaluated_gate monday_hash Odd monday_gate.sent.ciphertexts monday_gate.sent.controls A B 6

abbrev pub zero_pair : ControlPair
zero_pair = record { low = false; high = false }

-- Its false label, ciphertexts and controls, and what the server comes to under all four pairs of answers.
pub record MondayGate : Type 0 where
  pub label : monday_gate.label ≡ (7232, 7712)
  pub ciphertexts : monday_gate.sent.ciphertexts ≡ 306 ∷ 435 ∷ 482 ∷ []
  pub controls : monday_gate.sent.controls ≡ zero_pair ∷ zero_pair ∷ zero_pair ∷ record { low = true; high = false } ∷ zero_pair ∷ []
  pub no_no : monday_output (16, 32) (65, 130) ≡ (7232, 7712)
  pub no_yes : monday_output (16, 32) (64, 128) ≡ (7232, 7712)
  pub yes_no : monday_output (17, 34) (65, 130) ≡ (7232, 7712)
  pub yes_yes : monday_output (17, 34) (64, 128) ≡ (7233, 7714)
