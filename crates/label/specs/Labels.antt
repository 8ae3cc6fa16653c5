-- Labels: a left and a right half of 64 bits.
use Rattle.std.specs.Prelude.{ℕ, ◌+◌, ◌%◌, Bool, List, ◌++◌, ◌==◌}
use Rattle.slices.specs.Little.{word_bytes, word_at}

abbrev pub Label : Type 0
Label = ℕ × ℕ

-- The colour of a label: bit 0 of its left half.
abbrev pub colour_of : Label → Bool
colour_of l = l.0 % 2 == 1

-- A label in 16 bytes: left before right, each little-endian.
abbrev pub label_bytes : Label → List ℕ
label_bytes l = word_bytes l.0 ++ word_bytes l.1

-- The label of the 16 bytes at p.
abbrev pub label_at : List ℕ → ℕ → Label
label_at s p = (word_at s p, word_at s (p + 8))
