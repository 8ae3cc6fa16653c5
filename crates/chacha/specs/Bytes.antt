-- Words in bytes, little-endian, as RFC 8439 reads and writes them.
use Rattle.std.specs.Prelude.{ℕ, ◌*◌, List, [], ◌∷◌, ◌++◌, map, take, drop}
use Rattle.std.specs.List.{range_with_len}
use Rattle.slices.specs.Little.{little, bytes_of}

-- The four bytes at p.
unfoldable pub four_at : List ℕ → ℕ → List ℕ
four_at s p = take 4 (drop p s)

-- The word of the four bytes at p.
abbrev pub word_at : List ℕ → ℕ → ℕ
word_at s p = little (four_at s p)

-- The first n words of some bytes, which RFC 8439 reads one after another.
abbrev pub words_in : ℕ → List ℕ → List ℕ
words_in n s = map (λ i. word_at s (4 * i)) (range_with_len 0 n)

-- Words as bytes, four bytes each.
abbrev pub serialised : List ℕ → List ℕ
serialised [] = []
serialised (w ∷ ws) = bytes_of 4 w ++ serialised ws
