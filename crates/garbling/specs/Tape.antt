-- The random tape: how many bytes an opening needs of it, and what it draws from them.
use Rattle.std.specs.Prelude.{ℕ, ◌+◌, ◌*◌, ◌/◌, Bool, true, false, List, length, take, drop, slice_index}
use Rattle.label.specs.Sums.{halves}
use Rattle.label.specs.Labels.{Label, label_at}
use Rattle.wires.specs.Wires.{Wiring, bit, number, garbled_wires}
use Rattle.gate.specs.Sums.{shifted}

-- 16 bytes for the offset; for each of m inputs 16 for a label and one for its permute bit; one for the dice of each of q garbled gates.
abbrev pub need : ℕ → ℕ → ℕ
need m q = 16 + 17 * m + q

-- The bytes that are drawn: so many, from a place of the tape on.
abbrev pub drawn : List ℕ → ℕ → ℕ → List ℕ
drawn tape place size = take size (drop place tape)

-- How many bytes an opening of circuit c draws, and which, from a place of the tape on.
abbrev pub need_of : Wiring → ℕ
need_of c = need c.inputs (length (garbled_wires c))

abbrev pub drawn_for : Wiring → List ℕ → ℕ → List ℕ
drawn_for c tape place = drawn tape place (need_of c)

-- A label with its colour set to this bit.
abbrev pub coloured : Bool → Label → Label
coloured b l = (l.0 / 2 * 2 + number b, l.1)

-- In the drawn bytes T: the offset, of colour 1.
abbrev pub offset_in : List ℕ → Label
offset_in T = coloured true (label_at T 0)

-- The permute bit of input w.
abbrev pub permute_in : List ℕ → ℕ → Bool
permute_in T w = bit (slice_index T (32 + 17 * w)) 0

-- The false label of input w: one of colour 0, with the offset added where the permute bit is set.
abbrev pub input_in : List ℕ → ℕ → Label
input_in T w = shifted halves (offset_in T) (coloured false (label_at T (16 + 17 * w))) (permute_in T w)

-- The dice byte of the k-th garbled gate, after m inputs.
abbrev pub dice_in : List ℕ → ℕ → ℕ → ℕ
dice_in T m k = slice_index T (16 + 17 * m + k)
