-- A form is read back as it was written.
use Rattle.std.specs.Prelude.{◌≡◌, ℕ, ◌^◌, ◌<◌, List, length, get_or, slice_index, slice_index_or}
use Rattle.wires.specs.Wires.{Wiring}
use Rattle.circuit.specs.Public.{PublicOf}
use Rattle.gate.specs.declared.garble.SentGate.{SentGate}
use Rattle.garbling.specs.Marks.{Mark}
use Rattle.garbling.specs.Evaluation.{no_gate}
use Rattle.form.specs.Controls.{control_word}
use Rattle.form.specs.Layout.{form_of, form_length}
use Rattle.form.specs.Read.{form_wiring, gates_stated, outputs_stated, control_word_at, gates_in, false_marks_in, true_marks_in}

-- A gate that a form can hold: three ciphertexts of 64 bits and five control pairs.
pub record GateFits (g : SentGate) : Type 0 where
  pub three : length g.ciphertexts ≡ 3
  pub words : (k : ℕ) → k < 3 → slice_index g.ciphertexts k < 2 ^ 64
  pub five : length g.controls ≡ 5

-- A mark that a form can hold: two words of 64 bits.
pub record MarkFits (mark : Mark) : Type 0 where
  pub first : mark.0 < 2 ^ 64
  pub second : mark.1 < 2 ^ 64

-- What a form can hold: numbers of 16 bits, such gates, and as many true marks as false ones.
pub record FormFits (c : Wiring) (gs : List SentGate) (falses trues : List Mark) : Type 0 where
  pub wires : c.wires < 2 ^ 16
  pub inputs : c.inputs < 2 ^ 16
  pub gates : length gs < 2 ^ 16
  pub outputs : length falses < 2 ^ 16
  pub alike : length trues ≡ length falses
  pub each_gate : (k : ℕ) → k < length gs → GateFits (slice_index_or gs k no_gate)
  pub each_false : (k : ℕ) → k < length falses → MarkFits (slice_index_or falses k (0, 0))
  pub each_true : (k : ℕ) → k < length trues → MarkFits (slice_index_or trues k (0, 0))

-- The bytes F read as a form: the public part of c, these gates and these marks, control words with no other bits than their pairs', and nothing after them.
pub record ReadsBack (c : Wiring) (gs : List SentGate) (falses trues : List Mark) (F : List ℕ) : Type 0 where
  pub long : length F ≡ form_length c.wires (length gs) (length falses)
  pub gate_count : gates_stated F ≡ length gs
  pub output_count : outputs_stated F ≡ length falses
  pub circuit : PublicOf c (form_wiring F)
  pub gates : gates_in F ≡ gs
  pub control_words : (k : ℕ) → k < length gs → control_word_at F c.wires (length gs) k ≡ control_word (get_or gs k no_gate).controls
  pub false_marks : false_marks_in F ≡ falses
  pub true_marks : true_marks_in F ≡ trues

-- Writing and reading are inverse.
abbrev pub FormBack : Type 0
FormBack =
    (c : Wiring) (gs : List SentGate) (falses trues : List Mark)
    → FormFits c gs falses trues → ReadsBack c gs falses trues (form_of c gs falses trues)
