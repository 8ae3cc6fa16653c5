-- Words and their bytes: a word of four bytes has those bytes, and the bytes of a sum of words are the sums of the bytes.
use Rattle.std.proofs.Common.{◌≡◌, ℕ, zero, suc, ◌+◌, ◌*◌, ◌/◌, ◌%◌, ◌^◌, ◌<◌, List, [], ◌∷◌, get_or, ap, ◌∙◌, ap₂, div-one, mod-lt, arith, lit<}
use lib.Bits.{bit_or, bit_xor, or_self, or_shifted_r, xor_shr, xor_mod}
use Rattle.std.specs.Int.{rotate_right, w32}
use Rattle.aes.specs.Field.{times}
use Rattle.aes.specs.Fips197.{◌•◌, affine_bit, s_box, mix_column, bytes_of, word_of, rot_word, sub_word}
use Rattle.aes.specs.Columns.{byte_of, add_columns, mixed_row}
use Rattle.aes.proofs.Polynomials.{remainder_lt}

-- four entries that are equal one by one
pub four : {a b c d a' b' c' d' : ℕ} → a ≡ a' → b ≡ b' → c ≡ c' → d ≡ d'
    → ◌≡◌ {A = List ℕ} (a ∷ b ∷ c ∷ d ∷ []) (a' ∷ b' ∷ c' ∷ d' ∷ [])
four p q r s = λ i. p i ∷ q i ∷ r i ∷ s i ∷ []

-- the bytes of a word of four bytes
pub bytes_word : (a b c d : ℕ) → a < 256 → b < 256 → c < 256 → d < 256 → bytes_of (word_of a b c d) ≡ a ∷ b ∷ c ∷ d ∷ []
bytes_word a b c d ha hb hc hd = four (omega arith) (omega arith) (omega arith) (omega arith)

-- a byte of a sum is the sum of the bytes
byte_xor : (v w k : ℕ) → bit_xor v w / 2 ^ k % 256 ≡ bit_xor (v / 2 ^ k % 256) (w / 2 ^ k % 256)
byte_xor v w k = ap (λ (x : ℕ). x % 256) (xor_shr v w k) ∙ xor_mod (v / 2 ^ k) (w / 2 ^ k) 8

pub bytes_xor : (v w : ℕ) → bytes_of (bit_xor v w) ≡ add_columns (bytes_of v) (bytes_of w)
bytes_xor v w = four (byte_xor v w 24) (byte_xor v w 16) (byte_xor v w 8) (xor_mod v w 8)

-- ---- the values of FIPS 197's functions are bytes

pub •_lt : (a b : ℕ) → a • b < 256
unfolding ◌•◌ times
•_lt a b = remainder_lt 8 27 (lit< tt) 16 _

affine_lt : (b i : ℕ) → affine_bit b i < 2
unfolding affine_bit
affine_lt b i = mod-lt _ (lit< tt)

pub s_box-lt : (a : ℕ) → s_box a < 256
unfolding s_box
s_box-lt a = omega (arith, affine_lt)

-- a word turned by one, two and three places
module _ (a b c d : ℕ) (ha : a < 256) (hb : b < 256) (hc : c < 256) (hd : d < 256) where
  turned_one : rotate_right w32 (word_of a b c d) 8 ≡ word_of d a b c
  turned_one =
      let high : (word_of a b c d * 2 ^ 24) % 2 ^ 32 ≡ d * 2 ^ 24 = omega arith in
      let low : word_of a b c d / 2 ^ 8 ≡ a * 65536 + b * 256 + c = omega arith in
      ap₂ bit_or low high ∙ or_shifted_r d 24 (a * 65536 + b * 256 + c) (omega arith) ∙ (omega arith)

  turned_two : rotate_right w32 (word_of a b c d) 16 ≡ word_of c d a b
  turned_two =
      let high : (word_of a b c d * 2 ^ 16) % 2 ^ 32 ≡ (c * 256 + d) * 2 ^ 16 = omega arith in
      let low : word_of a b c d / 2 ^ 16 ≡ a * 256 + b = omega arith in
      ap₂ bit_or low high ∙ or_shifted_r (c * 256 + d) 16 (a * 256 + b) (omega arith) ∙ (omega arith)

  turned_three : rotate_right w32 (word_of a b c d) 24 ≡ word_of b c d a
  turned_three =
      let high : (word_of a b c d * 2 ^ 8) % 2 ^ 32 ≡ (b * 65536 + c * 256 + d) * 2 ^ 8 = omega arith in
      let low : word_of a b c d / 2 ^ 24 ≡ a = omega arith in
      ap₂ bit_or low high ∙ or_shifted_r (b * 65536 + c * 256 + d) 8 a ha ∙ (omega arith)

-- and by none
turned_none : (w : ℕ) → w < 2 ^ 32 → rotate_right w32 w 0 ≡ w
turned_none w h =
    let high : (w * 1) % 2 ^ 32 ≡ w = omega arith in
    ap₂ bit_or (div-one w) high ∙ or_self w

-- row 0's word turned is that of row r
pub turned_row : (r x w : ℕ) → r < 4 → w ≡ mixed_row 0 x → rotate_right w32 w (8 * r) ≡ mixed_row r x
turned_row zero x w h e =
    turned_none w (let s = s_box x in let p = •_lt 2 s in let q = s_box-lt x in let t = •_lt 3 s in omega arith) ∙ e
turned_row (suc zero) x w h e =
    let s = s_box x in
    ap (λ (v : ℕ). rotate_right w32 v 8) e ∙ turned_one (2 • s) s s (3 • s) (•_lt 2 s) (s_box-lt x) (s_box-lt x) (•_lt 3 s)
turned_row (suc (suc zero)) x w h e =
    let s = s_box x in
    ap (λ (v : ℕ). rotate_right w32 v 16) e ∙ turned_two (2 • s) s s (3 • s) (•_lt 2 s) (s_box-lt x) (s_box-lt x) (•_lt 3 s)
turned_row (suc (suc (suc zero))) x w h e =
    let s = s_box x in
    ap (λ (v : ℕ). rotate_right w32 v 24) e ∙ turned_three (2 • s) s s (3 • s) (•_lt 2 s) (s_box-lt x) (s_box-lt x) (•_lt 3 s)
turned_row (suc (suc (suc (suc r)))) x w h e = absurd (omega arith)

-- a word turned by one place and substituted, byte by byte
pub turned_is : (w : ℕ) → sub_word (rot_word w) ≡ word_of (s_box (byte_of w 1)) (s_box (byte_of w 2)) (s_box (byte_of w 3)) (s_box (byte_of w 0))
unfolding sub_word rot_word
turned_is w =
    ap (λ (l : List ℕ). word_of (s_box (get_or l 0 0)) (s_box (get_or l 1 0)) (s_box (get_or l 2 0)) (s_box (get_or l 3 0)))
    (bytes_word (byte_of w 1) (byte_of w 2) (byte_of w 3) (byte_of w 0) (omega arith) (omega arith) (omega arith) (omega arith))

-- ---- the sum of four table entries

module _ (a b c d : ℕ) where
  pub mixed_bytes : (p q r s key : ℕ)
      → p ≡ mixed_row 0 a → q ≡ mixed_row 1 b → r ≡ mixed_row 2 c → s ≡ mixed_row 3 d
      → bytes_of (bit_xor (bit_xor (bit_xor (bit_xor p q) r) s) key)
      ≡ add_columns (mix_column (s_box a) (s_box b) (s_box c) (s_box d)) (bytes_of key)
  mixed_bytes p q r s key ep eq er es =
      bytes_xor (bit_xor (bit_xor (bit_xor p q) r) s) key
      ∙ ap (λ (l : List ℕ). add_columns l (bytes_of key))
      (bytes_xor (bit_xor (bit_xor p q) r) s
      ∙ ap₂ add_columns
      (bytes_xor (bit_xor p q) r
      ∙ ap₂ add_columns
      (bytes_xor p q
      ∙ ap₂ add_columns
      (ap bytes_of ep ∙ bytes_word (2 • s_box a) (s_box a) (s_box a) (3 • s_box a) (•_lt 2 (s_box a)) (s_box-lt a) (s_box-lt a) (•_lt 3 (s_box a)))
      (ap bytes_of eq ∙ bytes_word (3 • s_box b) (2 • s_box b) (s_box b) (s_box b) (•_lt 3 (s_box b)) (•_lt 2 (s_box b)) (s_box-lt b) (s_box-lt b)))
      (ap bytes_of er ∙ bytes_word (s_box c) (3 • s_box c) (2 • s_box c) (s_box c) (s_box-lt c) (•_lt 3 (s_box c)) (•_lt 2 (s_box c)) (s_box-lt c)))
      (ap bytes_of es ∙ bytes_word (s_box d) (s_box d) (3 • s_box d) (2 • s_box d) (s_box-lt d) (s_box-lt d) (•_lt 3 (s_box d)) (•_lt 2 (s_box d))))
