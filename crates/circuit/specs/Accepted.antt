-- What an accepted table is: every condition that a table has to meet, side by side.
use Rattle.std.specs.Prelude.{◌≡◌, ℕ, ◌+◌, ◌*◌, ◌<◌, ◌≤◌, Bool, true, false, List, length}
use Rattle.wires.specs.declared.Class.{Class}
use Rattle.wires.specs.Wires.{Wiring, bit, kind_at, first_at, second_at, side_at, truth_at, class_at, allowed, output_wires}
use Rattle.circuit.specs.Check.{most_wires, most_inputs, most_outputs, sides, table_wiring}

-- An input has a side, no other bits but bit 7, and the pair 0, 0.
pub record InputSound (c : Wiring) (w : ℕ) : Type 0 where
  pub side : side_at c w < sides
  pub first : first_at c w ≡ 0
  pub second : second_at c w ≡ 0

-- A gate has bit 6 clear, reads lower wires only, and has a truth table that the rule allows to its class.
pub record GateSound (rule : Class → ℕ → Bool) (c : Wiring) (w : ℕ) : Type 0 where
  pub clear : bit (kind_at c w) 6 ≡ false
  pub first : first_at c w < w
  pub second : second_at c w < w
  pub truth : rule (class_at c w) (truth_at c w) ≡ true

-- The sizes are within their limits.
pub record SizesSound (n m : ℕ) : Type 0 where
  pub some_wire : 1 ≤ n
  pub few_wires : n ≤ most_wires
  pub some_input : 1 ≤ m
  pub few_inputs : m ≤ most_inputs
  pub among_wires : m ≤ n

-- Every wire is sound.
pub record WiresSound (rule : Class → ℕ → Bool) (c : Wiring) (n : ℕ) : Type 0 where
  pub inputs : (w : ℕ) → w < n → w < c.inputs → InputSound c w
  pub gates : (w : ℕ) → w < n → c.inputs ≤ w → GateSound rule c w

pub record Accepted (s : List ℕ) : Type 0 where
  pub sizes : SizesSound (table_wiring s).wires (table_wiring s).inputs
  pub whole : length s ≡ 4 + 5 * (table_wiring s).wires
  pub wires : WiresSound allowed (table_wiring s) (table_wiring s).wires
  pub some_output : 1 ≤ length (output_wires (table_wiring s))
  pub few_outputs : length (output_wires (table_wiring s)) ≤ most_outputs
