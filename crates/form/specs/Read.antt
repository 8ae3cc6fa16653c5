-- A form read: what stands where.
use Rattle.std.specs.Prelude.{ℕ, ◌+◌, ◌*◌, List, [], ◌∷◌, map, drop}
use Rattle.std.specs.List.{range_with_len}
use Rattle.slices.specs.Little.{short_at, word_at}
use Rattle.label.specs.Labels.{label_at}
use Rattle.wires.specs.Wires.{Wiring}
use Rattle.gate.specs.declared.garble.SentGate.{SentGate}
use Rattle.garbling.specs.Marks.{Mark}
use Rattle.form.specs.Controls.{controls_in}

-- The public circuit of a form: its sizes, and the arrays after them.
abbrev pub form_wiring : List ℕ → Wiring
form_wiring F = record { wires = short_at F 0; inputs = short_at F 2; arrays = drop 8 F }

-- The numbers of garbled gates and of outputs that it states.
abbrev pub gates_stated : List ℕ → ℕ
gates_stated F = short_at F 4

abbrev pub outputs_stated : List ℕ → ℕ
outputs_stated F = short_at F 6

-- Where the ciphertexts begin, the control words, the false marks and the true marks, for n wires, q garbled gates and o outputs.
abbrev pub ciphertexts_from : ℕ → ℕ
ciphertexts_from n = 8 + 5 * n

abbrev pub controls_from : ℕ → ℕ → ℕ
controls_from n q = 8 + 5 * n + 24 * q

abbrev pub false_marks_from : ℕ → ℕ → ℕ
false_marks_from n q = 8 + 5 * n + 26 * q

abbrev pub true_marks_from : ℕ → ℕ → ℕ → ℕ
true_marks_from n q o = 8 + 5 * n + 26 * q + 16 * o

-- The control word of the k-th gate.
abbrev pub control_word_at : List ℕ → ℕ → ℕ → ℕ → ℕ
control_word_at F n q k = short_at F (controls_from n q + 2 * k)

-- The k-th garbled gate, and all of them.
abbrev pub gate_at : List ℕ → ℕ → ℕ → ℕ → SentGate
gate_at F n q k = record {
  ciphertexts = word_at F (ciphertexts_from n + 24 * k) ∷ word_at F (ciphertexts_from n + 24 * k + 8) ∷ word_at F (ciphertexts_from n + 24 * k + 16) ∷ [];
  controls = controls_in (control_word_at F n q k);
}

abbrev pub gates_in : List ℕ → List SentGate
gates_in F = map (gate_at F (short_at F 0) (gates_stated F)) (range_with_len 0 (gates_stated F))

-- The k-th mark of those that begin at a place, and all of them.
abbrev pub marks_from : List ℕ → ℕ → ℕ → List Mark
marks_from F place o = map (λ k. label_at F (place + 16 * k)) (range_with_len 0 o)

abbrev pub false_marks_in : List ℕ → List Mark
false_marks_in F = marks_from F (false_marks_from (short_at F 0) (gates_stated F)) (outputs_stated F)

abbrev pub true_marks_in : List ℕ → List Mark
true_marks_in F = marks_from F (true_marks_from (short_at F 0) (gates_stated F) (outputs_stated F)) (outputs_stated F)
