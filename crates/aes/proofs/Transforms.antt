-- A round of FIPS 197 in its four columns: substituting and shifting brings column j the bytes of row 0 of column j, row 1 of column
-- j + 1, row 2 of column j + 2 and row 3 of column j + 3.
use Rattle.std.proofs.Common.{◌≡◌, ℕ, ◌+◌, ◌*◌, List, [], ◌∷◌, get_or, ap, ◌∙◌}
use lib.Bits.{bit_xor}
use Rattle.aes.specs.Fips197.{sub_bytes, shift_rows, mix_columns, bytes_of, round_key, add_round_key}
use Rattle.aes.specs.Columns.{add_columns, column_at, mixed_column, last_column, state_of}
use Rattle.aes.proofs.Words.{bytes_xor}

-- the four bytes of each of four columns
abbrev joined : List ℕ → List ℕ → List ℕ → List ℕ → List ℕ
joined p q r s =
    get_or p 0 0 ∷ get_or p 1 0 ∷ get_or p 2 0 ∷ get_or p 3 0 ∷ get_or q 0 0 ∷ get_or q 1 0 ∷ get_or q 2 0 ∷ get_or q 3 0
    ∷ get_or r 0 0 ∷ get_or r 1 0 ∷ get_or r 2 0 ∷ get_or r 3 0 ∷ get_or s 0 0 ∷ get_or s 1 0 ∷ get_or s 2 0 ∷ get_or s 3 0 ∷ []

module _ (a b c d : ℕ) (w : List ℕ) (k p q r s : ℕ) where
  pub mixed_state : bytes_of p ≡ mixed_column a b c d (get_or w (4 * k + 0) 0) → bytes_of q ≡ mixed_column b c d a (get_or w (4 * k + 1) 0)
      → bytes_of r ≡ mixed_column c d a b (get_or w (4 * k + 2) 0) → bytes_of s ≡ mixed_column d a b c (get_or w (4 * k + 3) 0)
      → state_of (p ∷ q ∷ r ∷ s ∷ []) ≡ add_round_key (mix_columns (shift_rows (sub_bytes (state_of (a ∷ b ∷ c ∷ d ∷ []))))) (round_key w k)
  unfolding add_round_key mix_columns shift_rows sub_bytes round_key
  mixed_state hp hq hr hs = λ i. joined (hp i) (hq i) (hr i) (hs i)

  pub shifted_state : bytes_of p ≡ last_column a b c d (get_or w (4 * k + 0) 0) → bytes_of q ≡ last_column b c d a (get_or w (4 * k + 1) 0)
      → bytes_of r ≡ last_column c d a b (get_or w (4 * k + 2) 0) → bytes_of s ≡ last_column d a b c (get_or w (4 * k + 3) 0)
      → state_of (p ∷ q ∷ r ∷ s ∷ []) ≡ add_round_key (shift_rows (sub_bytes (state_of (a ∷ b ∷ c ∷ d ∷ [])))) (round_key w k)
  unfolding add_round_key shift_rows sub_bytes round_key
  shifted_state hp hq hr hs = λ i. joined (hp i) (hq i) (hr i) (hs i)

-- a column of the block with the key's word added
pub first_column : (block : List ℕ) (i p key : ℕ) → bytes_of p ≡ column_at block i
    → bytes_of (bit_xor p key) ≡ add_columns (column_at block i) (bytes_of key)
first_column block i p key e = bytes_xor p key ∙ ap (λ (l : List ℕ). add_columns l (bytes_of key)) e

-- the first round adds its key to the block's columns
pub first_state : (block w : List ℕ) (p q r s : ℕ)
    → bytes_of p ≡ add_columns (column_at block 0) (bytes_of (get_or w 0 0)) → bytes_of q ≡ add_columns (column_at block 4) (bytes_of (get_or w 1 0))
    → bytes_of r ≡ add_columns (column_at block 8) (bytes_of (get_or w 2 0)) → bytes_of s ≡ add_columns (column_at block 12) (bytes_of (get_or w 3 0))
    → state_of (p ∷ q ∷ r ∷ s ∷ []) ≡ add_round_key block (round_key w 0)
unfolding add_round_key round_key
first_state block w p q r s hp hq hr hs = λ i. joined (hp i) (hq i) (hr i) (hs i)
