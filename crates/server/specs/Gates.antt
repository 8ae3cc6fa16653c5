-- The garbled gates of a form, one by one: blank past the last.
use Rattle.std.specs.Prelude.{ℕ, cond, List, [], ◌∷◌, nat_lt}
use Rattle.label.specs.Sums.{pairs}
use Rattle.slices.specs.Little.{short_at}
use Rattle.gate.specs.declared.garble.SentGate.{SentGate}
use Rattle.form.specs.Read.{gates_stated, gate_at}

-- A gate of zeros.
abbrev pub blank_gate : SentGate
blank_gate = record { ciphertexts = 0 ∷ 0 ∷ 0 ∷ []; controls = pairs.o ∷ pairs.o ∷ pairs.o ∷ pairs.o ∷ pairs.o ∷ [] }

-- The k-th gate that was sent.
abbrev pub sent_at : List ℕ → ℕ → SentGate
sent_at F k = cond (nat_lt k (gates_stated F)) (gate_at F (short_at F 0) (gates_stated F) k) blank_gate
