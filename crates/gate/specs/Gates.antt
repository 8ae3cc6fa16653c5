-- One gate under a hash: garbled from its false labels, evaluated on the labels met.
use Rattle.std.specs.Prelude.{ℕ, ◌+◌, ◌%◌, ◌^◌, Bool, true, false, not, List, [], ◌∷◌, map, get_or}
use Rattle.label.specs.Sums.{halves, pairs, pair_plus}
use Rattle.label.specs.Labels.{Label, colour_of}
use Rattle.label.specs.Hashes.{HashFunction, Question}
use Rattle.label.specs.Rows.{blank_answer}
use Rattle.label.specs.declared.hash.Answer.{Answer}
use Rattle.label.specs.declared.xor.ControlPair.{ControlPair}
use Rattle.gate.specs.declared.views.Parity.{Parity}
use Rattle.gate.specs.declared.views.Parity.TheVariants.{Even, Odd, Hidden}
use Rattle.gate.specs.declared.views.Truth.{Truth}
use Rattle.gate.specs.declared.views.Dice.{Dice}
use Rattle.gate.specs.declared.views.View.{View}
use Rattle.gate.specs.declared.garble.GarbledGate.{GarbledGate}
use Rattle.gate.specs.Views.{by_colours, dice_of, if_hidden}
use Rattle.gate.specs.Numbers.{Five, Six, back_left, back_right, five_in, listed}
use Rattle.gate.specs.Sums.{Three, three_in, shifted, sum_of, garbled, controls, evaluated}

-- The tweak k after the first of a gate.
abbrev pub tweak_after : ℕ → ℕ → ℕ
tweak_after t k = (t + k) % 2 ^ 32

-- What a garbler asks, in its order: the labels of the first wire, colour 0 before 1, then those of the second, then their sums.
abbrev pub six_questions : Label → Label → Label → ℕ → List Question
six_questions Δ A B t =
    let S : Label = sum_of halves A B in
    (A, t) ∷ (shifted halves Δ A true, t)
    ∷ (B, tweak_after t 1) ∷ (shifted halves Δ B true, tweak_after t 1)
    ∷ (S, tweak_after t 2) ∷ (shifted halves Δ S true, tweak_after t 2) ∷ []

-- What the server asks: its first label, its second, their sum.
abbrev pub three_questions : Label → Label → ℕ → List Question
three_questions A B t = (A, t) ∷ (B, tweak_after t 1) ∷ (sum_of halves A B, tweak_after t 2) ∷ []

abbrev pub answers_to : HashFunction → List Question → List Answer
answers_to f qs = map (λ q. f q.0 q.1) qs

-- Six answers, and three, in an array of the code: their words and their control pairs.
abbrev pub six_words : List Answer → Six ℕ
six_words rs = record {
  a0 = (get_or rs 0 blank_answer).word;
  a1 = (get_or rs 1 blank_answer).word;
  b0 = (get_or rs 2 blank_answer).word;
  b1 = (get_or rs 3 blank_answer).word;
  s0 = (get_or rs 4 blank_answer).word;
  s1 = (get_or rs 5 blank_answer).word;
}

abbrev pub six_pairs : List Answer → Six ControlPair
six_pairs rs = record {
  a0 = (get_or rs 0 blank_answer).pair;
  a1 = (get_or rs 1 blank_answer).pair;
  b0 = (get_or rs 2 blank_answer).pair;
  b1 = (get_or rs 3 blank_answer).pair;
  s0 = (get_or rs 4 blank_answer).pair;
  s1 = (get_or rs 5 blank_answer).pair;
}

abbrev pub three_words : List Answer → Three ℕ
three_words rs = record { a = (get_or rs 0 blank_answer).word; b = (get_or rs 1 blank_answer).word; s = (get_or rs 2 blank_answer).word }

abbrev pub three_pairs : List Answer → Three ControlPair
three_pairs rs = record { a = (get_or rs 0 blank_answer).pair; b = (get_or rs 1 blank_answer).pair; s = (get_or rs 2 blank_answer).pair }

-- In even and odd gates every high control bit counts as zero.
abbrev pub trimmed : Parity → ControlPair → ControlPair
trimmed c k = record { low = k.low; high = if_hidden c k.high }

abbrev pub trimmed_five : Parity → Five ControlPair → Five ControlPair
trimmed_five c n = record { n1 = trimmed c n.n1; n2 = trimmed c n.n2; n3 = trimmed c n.n3; n4 = trimmed c n.n4; n5 = trimmed c n.n5 }

abbrev pub low_bit : ControlPair
low_bit = record { low = true; high = false }

abbrev pub high_bit : ControlPair
high_bit = record { low = false; high = true }

-- The label of colour 0, from the false label.
abbrev pub colourless : Label → Label → Label
colourless Δ A = shifted halves Δ A (colour_of A)

-- A garbled gate, from truth by colour, dice, the offset, the labels of colour 0, and the six answers.
abbrev pub assembled : Parity → Truth → Dice → Label → Label → Label → List Answer → GarbledGate
assembled c t d Δ A B rs =
    let n : Five ℕ = garbled halves c t d Δ A B (six_words rs) in
    let k : Five ControlPair = controls pairs low_bit high_bit c t d (six_pairs rs) in
    record { label = (n.n1, n.n2); sent = record { ciphertexts = n.n3 ∷ n.n4 ∷ n.n5 ∷ []; controls = listed (trimmed_five c k) } }

-- Garbling: from parity, truth table, dice byte, offset, the pair's false labels, and the answers to the six questions.
abbrev pub gate_from : Parity → ℕ → ℕ → Label → Label → Label → List Answer → GarbledGate
gate_from c g d Δ A B rs = assembled c (by_colours g (colour_of A) (colour_of B)) (dice_of d) Δ (colourless Δ A) (colourless Δ B) rs

abbrev pub gate_questions : Label → Label → Label → ℕ → List Question
gate_questions Δ A B t = six_questions Δ (colourless Δ A) (colourless Δ B) t

abbrev pub garbled_gate : HashFunction → Parity → ℕ → ℕ → Label → Label → Label → ℕ → GarbledGate
garbled_gate f c g d Δ A B t = gate_from c g d Δ A B (answers_to f (gate_questions Δ A B t))

-- γ or ε of a view, from a high control bit and the colour: nothing in an even gate, public in an odd one.
abbrev pub corner_from : Parity → Bool → Bool → Bool
corner_from Even high i = false
corner_from Odd high i = not i
corner_from Hidden high i = high

-- The view, from the control numbers and the pairs met.
abbrev pub view_from : Parity → Five ControlPair → Three ControlPair → Bool → Bool → View
view_from c k w i j =
    let l : ControlPair = pair_plus (pair_plus (back_left pairs k i j) w.a) w.s in
    let r : ControlPair = pair_plus (pair_plus (back_right pairs k i j) w.b) w.s in
    record { alpha = l.low; beta = r.low; gamma = corner_from c l.high i; epsilon = corner_from c r.high j }

-- Evaluating: from parity, ciphertexts, control numbers, the labels met, and the answers to the three questions.
abbrev pub label_from : Parity → List ℕ → List ControlPair → Label → Label → List Answer → Label
label_from c ciphertexts ks A B rs =
    let i : Bool = colour_of A in
    let j : Bool = colour_of B in
    evaluated halves (three_in halves ciphertexts) (view_from c (five_in pairs ks) (three_pairs rs) i j) A B (three_words rs) i j

abbrev pub evaluated_gate : HashFunction → Parity → List ℕ → List ControlPair → Label → Label → ℕ → Label
evaluated_gate f c ciphertexts ks A B t = label_from c ciphertexts ks A B (answers_to f (three_questions A B t))
