-- Little-endian numbers: the low byte comes first.
use Rattle.std.specs.Prelude.{ℕ, zero, suc, ◌+◌, ◌*◌, ◌/◌, ◌%◌, List, [], ◌∷◌, map, slice_index}
use Rattle.std.specs.List.{range_with_len}

-- The number of some bytes, the lowest first.
unfoldable pub little : List ℕ → ℕ
little [] = 0
little (b ∷ bs) = b + 256 * little bs

-- The n low bytes of a number, the lowest first.
unfoldable pub bytes_of : ℕ → ℕ → List ℕ
bytes_of zero x = []
bytes_of (suc n) x = x % 256 ∷ bytes_of n (x / 256)

-- The n bytes at p, 0 past the end.
abbrev pub bytes_at : ℕ → List ℕ → ℕ → List ℕ
bytes_at n s p = map (λ i. slice_index s (p + i)) (range_with_len 0 n)

-- A number of 16 bits: its two bytes, and the number of the two bytes at p.
abbrev pub short_bytes : ℕ → List ℕ
short_bytes x = x % 256 ∷ x / 256 % 256 ∷ []

abbrev pub short_at : List ℕ → ℕ → ℕ
short_at s p = slice_index s p + slice_index s (p + 1) * 256

-- A number of 64 bits: its eight bytes, and the number of the eight bytes at p.
abbrev pub word_bytes : ℕ → List ℕ
word_bytes x =
    x % 256 ∷ x / 256 % 256 ∷ x / 65536 % 256 ∷ x / 16777216 % 256
    ∷ x / 4294967296 % 256 ∷ x / 1099511627776 % 256 ∷ x / 281474976710656 % 256 ∷ x / 72057594037927936 % 256 ∷ []

abbrev pub word_at : List ℕ → ℕ → ℕ
word_at s p =
    slice_index s p + slice_index s (p + 1) * 256 + slice_index s (p + 2) * 65536 + slice_index s (p + 3) * 16777216
    + slice_index s (p + 4) * 4294967296 + slice_index s (p + 5) * 1099511627776 + slice_index s (p + 6) * 281474976710656
    + slice_index s (p + 7) * 72057594037927936
