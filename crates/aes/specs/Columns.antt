-- A state in four words, one for each column: what the code's rounds work on.
use Rattle.std.specs.Prelude.{ℕ, zero, suc, ◌+◌, List, [], ◌∷◌, ◌++◌, bit_xor, slice_index}
use Rattle.std.specs.Simd.Lanes.{zip2}
use Rattle.aes.specs.Fips197.{◌•◌, s_box, mix_column, bytes_of, word_of}

-- byte r of a word
abbrev pub byte_of : ℕ → ℕ → ℕ
byte_of w r = slice_index (bytes_of w) r

-- the column of the four bytes at i in a block
abbrev pub column_at : List ℕ → ℕ → List ℕ
column_at block i = slice_index block i ∷ slice_index block (i + 1) ∷ slice_index block (i + 2) ∷ slice_index block (i + 3) ∷ []

-- the sum of two columns of bytes
abbrev pub add_columns : List ℕ → List ℕ → List ℕ
add_columns x y = zip2 bit_xor x y

-- what the byte x in row r, substituted, adds to a mixed column
abbrev pub mixed_row : ℕ → ℕ → ℕ
mixed_row zero x = word_of (2 • s_box x) (s_box x) (s_box x) (3 • s_box x)
mixed_row (suc zero) x = word_of (3 • s_box x) (2 • s_box x) (s_box x) (s_box x)
mixed_row (suc (suc zero)) x = word_of (s_box x) (3 • s_box x) (2 • s_box x) (s_box x)
mixed_row (suc (suc (suc r))) x = word_of (s_box x) (s_box x) (3 • s_box x) (2 • s_box x)

-- the column that the bytes of a in row 0, b in row 1, c in row 2 and d in row 3 come to: substituted, mixed, and with the key's word added
abbrev pub mixed_column : ℕ → ℕ → ℕ → ℕ → ℕ → List ℕ
mixed_column a b c d key = add_columns (mix_column (s_box (byte_of a 0)) (s_box (byte_of b 1)) (s_box (byte_of c 2)) (s_box (byte_of d 3))) (bytes_of key)

-- the same in the last round, which does not mix
abbrev pub last_column : ℕ → ℕ → ℕ → ℕ → ℕ → List ℕ
last_column a b c d key = add_columns (s_box (byte_of a 0) ∷ s_box (byte_of b 1) ∷ s_box (byte_of c 2) ∷ s_box (byte_of d 3) ∷ []) (bytes_of key)

-- the state of four columns
abbrev pub state_of : List ℕ → List ℕ
state_of s = bytes_of (slice_index s 0) ++ bytes_of (slice_index s 1) ++ bytes_of (slice_index s 2) ++ bytes_of (slice_index s 3)
