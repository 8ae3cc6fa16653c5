-- What makes the bytes of a form faulty, and which fault is named: number and place of the first.
use Rattle.std.specs.Prelude.{ℕ, Bool, true, false, not, ◌&&◌, ◌||◌, List, length, None, Option, ◌==◌, nat_le, nat_lt}
use Rattle.slices.specs.Little.{short_at}
use Rattle.wires.specs.declared.Class.{Class}
use Rattle.wires.specs.declared.Class.TheVariants.{Free, Even, Odd, Hidden}
use Rattle.wires.specs.Wires.{Wiring, bit, class_at, is_garbled, output_wires, garbled_wires}
use Rattle.circuit.specs.declared.check.TruthRule.TheVariants.{Blank}
use Rattle.circuit.specs.Check.{Fault, unless, or_else, most_outputs, sizes_fault, lowest_fault}
use Rattle.circuit.specs.Read.{rule_of}
use Rattle.garbling.specs.Garbling.{gate_index}
use Rattle.form.specs.Layout.{form_length}
use Rattle.form.specs.Read.{form_wiring, gates_stated, outputs_stated, control_word_at}
use Rattle.server.specs.Lowest.{lowest_where}

-- The numbers of outputs and of garbled gates: those of the circuit, against those that the form states.
abbrev pub counts_fault : Wiring → List ℕ → Option Fault
counts_fault c F =
    unless (nat_le 1 (length (output_wires c)) && (nat_le (length (output_wires c)) most_outputs && length (output_wires c) == outputs_stated F)) (8, 0)
    (unless (length (garbled_wires c) == gates_stated F) (9, 0) None)

abbrev pub is_hidden : Class → Bool
is_hidden Free = false
is_hidden Even = false
is_hidden Odd = false
is_hidden Hidden = true

-- The high bits of the five control pairs are zero.
abbrev pub highs_clear : ℕ → Bool
highs_clear word = not (bit word 1) && (not (bit word 3) && (not (bit word 5) && (not (bit word 7) && not (bit word 9))))

-- A control word has ten bits, and in even and odd gates none of the high ones.
abbrev pub controls_sound : Class → ℕ → Bool
controls_sound k word = nat_lt word 1024 && (is_hidden k || highs_clear word)

-- Whether wire w is a gate whose control word, the k-th of the form, has bits that must be zero.
abbrev pub controls_wrong : Wiring → List ℕ → ℕ → ℕ → Bool
controls_wrong c F w k = is_garbled c w && not (controls_sound (class_at c w) (control_word_at F (short_at F 0) (gates_stated F) k))

abbrev pub controls_fault : Wiring → List ℕ → Option Fault
controls_fault c F = lowest_where 14 (λ w. controls_wrong c F w (gate_index c w)) c.wires

-- What follows the sizes and the length: the wires, with their truth tables blank, the two numbers, the control words.
abbrev pub parts_fault : Wiring → List ℕ → Option Fault
parts_fault c F = or_else (lowest_fault (rule_of Blank) c c.wires) (or_else (counts_fault c F) (controls_fault c F))

-- The first fault of a form whose circuit is c: the sizes, the length, and what follows them.
abbrev pub fault_of : Wiring → List ℕ → Option Fault
fault_of c F =
    unless (nat_le 8 (length F)) (1, 0)
    (or_else (sizes_fault c.wires c.inputs)
    (unless (length F == form_length c.wires (gates_stated F) (outputs_stated F)) (4, 0) (parts_fault c F)))

-- The first fault of a form, if it has one.
abbrev pub form_fault : List ℕ → Option Fault
form_fault F = fault_of (form_wiring F) F
