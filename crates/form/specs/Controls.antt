-- A control word: the five control pairs of a gate in 16 bits.
use Rattle.std.specs.Prelude.{ℕ, ◌+◌, ◌*◌, List, [], ◌∷◌, slice_index_or}
use Rattle.label.specs.Sums.{pairs}
use Rattle.label.specs.declared.xor.ControlPair.{ControlPair}
use Rattle.wires.specs.Wires.{bit, number}

-- The number of a control pair: its low bit counts one, its high bit two.
abbrev pub pair_number : ControlPair → ℕ
pair_number k = number k.low + 2 * number k.high

-- Pair e stands at bits 2e and 2e + 1; the others are zero.
abbrev pub control_word : List ControlPair → ℕ
control_word ks =
    pair_number (slice_index_or ks 0 pairs.o) + 4 * pair_number (slice_index_or ks 1 pairs.o) + 16 * pair_number (slice_index_or ks 2 pairs.o)
    + 64 * pair_number (slice_index_or ks 3 pairs.o) + 256 * pair_number (slice_index_or ks 4 pairs.o)

-- Pair e of a control word, and all five.
abbrev pub pair_in : ℕ → ℕ → ControlPair
pair_in word e = record { low = bit word (2 * e); high = bit word (2 * e + 1) }

abbrev pub controls_in : ℕ → List ControlPair
controls_in word = pair_in word 0 ∷ pair_in word 1 ∷ pair_in word 2 ∷ pair_in word 3 ∷ pair_in word 4 ∷ []
