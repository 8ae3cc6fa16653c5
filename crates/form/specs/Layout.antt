-- The form: what the schools send of a garbled circuit, in bytes.
use Rattle.std.specs.Prelude.{ℕ, ◌+◌, ◌*◌, List, ◌++◌, length, slice_index}
use Rattle.std.specs.List.{flat_map}
use Rattle.slices.specs.Little.{short_bytes, word_bytes}
use Rattle.label.specs.Labels.{label_bytes}
use Rattle.wires.specs.Wires.{Wiring}
use Rattle.circuit.specs.Public.{public_arrays}
use Rattle.gate.specs.declared.garble.SentGate.{SentGate}
use Rattle.garbling.specs.Marks.{Mark}
use Rattle.form.specs.Controls.{control_word}

-- The numbers of wires, of inputs, of garbled gates and of outputs, 16 bits each.
abbrev pub size_bytes : ℕ → ℕ → ℕ → ℕ → List ℕ
size_bytes n m q o = short_bytes n ++ (short_bytes m ++ (short_bytes q ++ short_bytes o))

-- The three ciphertexts of a gate, and its control word.
abbrev pub ciphertext_bytes : SentGate → List ℕ
ciphertext_bytes g =
    word_bytes (slice_index g.ciphertexts 0) ++ (word_bytes (slice_index g.ciphertexts 1) ++ word_bytes (slice_index g.ciphertexts 2))

abbrev pub control_bytes : SentGate → List ℕ
control_bytes g = short_bytes (control_word g.controls)

-- All garbled gates: the ciphertexts of each, then the control word of each.
abbrev pub gate_bytes : List SentGate → List ℕ
gate_bytes gs = flat_map ciphertext_bytes gs ++ flat_map control_bytes gs

-- The marks of all outputs: the false ones, then the true ones.
abbrev pub mark_bytes : List Mark → List Mark → List ℕ
mark_bytes falses trues = flat_map label_bytes falses ++ flat_map label_bytes trues

-- A form: the sizes, the public kinds and pairs of the circuit, the garbled gates, the marks.
abbrev pub form_of : Wiring → List SentGate → List Mark → List Mark → List ℕ
form_of c gs falses trues =
    size_bytes c.wires c.inputs (length gs) (length falses) ++ (public_arrays c ++ (gate_bytes gs ++ mark_bytes falses trues))

-- Its length, for n wires, q garbled gates and o outputs.
abbrev pub form_length : ℕ → ℕ → ℕ → ℕ
form_length n q o = 8 + 5 * n + 26 * q + 32 * o
