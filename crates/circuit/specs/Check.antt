-- What makes a circuit table faulty, and which fault is named: number and place of the first.
use Rattle.std.specs.Prelude.{ℕ, zero, suc, ◌+◌, ◌*◌, Bool, true, false, cond, not, ◌&&◌, List, length, drop, Some, None, Option, ◌==◌, nat_le, nat_lt}
use Rattle.slices.specs.Little.{short_at}
use Rattle.wires.specs.declared.Class.{Class}
use Rattle.wires.specs.Wires.{bit, Wiring, kind_at, first_at, second_at, side_at, truth_at, class_at, is_input, allowed, output_wires}

-- The limits.
abbrev pub most_wires : ℕ
most_wires = 1536

abbrev pub most_inputs : ℕ
most_inputs = 512

abbrev pub most_outputs : ℕ
most_outputs = 256

abbrev pub sides : ℕ
sides = 2

-- A fault is told by its number and its place.
abbrev pub Fault : Type 0
Fault = ℕ × ℕ

-- This fault, unless the test holds; then the faults after it.
abbrev pub unless : Bool → Fault → Option Fault → Option Fault
unless true f rest = rest
unless false f rest = Some f

-- The first of two faults.
abbrev pub or_else : Option Fault → Option Fault → Option Fault
or_else None rest = rest
or_else (Some f) rest = Some f

-- The number of wires and of inputs.
abbrev pub sizes_fault : ℕ → ℕ → Option Fault
sizes_fault n m =
    unless (nat_le 1 n && nat_le n most_wires) (2, 0) (unless (nat_le 1 m && nat_le m most_inputs && nat_le m n) (3, 0) None)

-- An input's bits but bit 7 are a side, and its pair is 0, 0.
abbrev pub input_fault : Wiring → ℕ → Option Fault
input_fault c w = unless (nat_lt (side_at c w) sides) (5, w) (unless (first_at c w == 0 && second_at c w == 0) (6, w) None)

-- A gate's bit 6 is 0, its pair lies below it, and its truth table is one that the rule allows to its class.
abbrev pub gate_fault : (Class → ℕ → Bool) → Wiring → ℕ → Option Fault
gate_fault rule c w =
    unless (not (bit (kind_at c w) 6)) (5, w)
    (unless (nat_lt (first_at c w) w && nat_lt (second_at c w) w) (6, w) (unless (rule (class_at c w) (truth_at c w)) (7, w) None))

abbrev pub wire_fault : (Class → ℕ → Bool) → Wiring → ℕ → Option Fault
wire_fault rule c w = cond (is_input c w) (input_fault c w) (gate_fault rule c w)

-- The fault of the lowest faulty wire below w.
unfoldable pub lowest_fault : (Class → ℕ → Bool) → Wiring → ℕ → Option Fault
lowest_fault rule c zero = None
lowest_fault rule c (suc w) = or_else (lowest_fault rule c w) (wire_fault rule c w)

-- A table: n and m, 16 bits each; then the arrays.
abbrev pub table_wiring : List ℕ → Wiring
table_wiring s = record { wires = short_at s 0; inputs = short_at s 2; arrays = drop 4 s }

-- The number of outputs.
abbrev pub outputs_fault : ℕ → Option Fault
outputs_fault o = unless (nat_le 1 o && nat_le o most_outputs) (8, 0) None

-- The first fault of a table, if it has one: sizes, length, the wires, the number of outputs.
abbrev pub table_fault : List ℕ → Option Fault
table_fault s =
    let c : Wiring = table_wiring s in
    unless (nat_le 4 (length s)) (1, 0)
    (or_else (sizes_fault c.wires c.inputs)
    (unless (length s == 4 + 5 * c.wires) (4, 0)
    (or_else (lowest_fault allowed c c.wires) (outputs_fault (length (output_wires c))))))
