-- AES-128 encryption as FIPS 197 states it, in its order and with its names, spelled as names are here. A byte is a number below 256, a word [a0, a1, a2, a3] is
-- the number with a0 as its highest byte, and a state is the list of its 16 bytes, column after column.
use Rattle.std.specs.Prelude.{ℕ, zero, suc, ◌+◌, ◌-◌, ◌*◌, ◌/◌, ◌%◌, ◌^◌, cond, List, [], ◌∷◌, ◌++◌, map, ◌==◌, bit_xor, slice_index}
use Rattle.std.specs.List.{range_with_len}
use Rattle.aes.specs.Field.{times}

-- multiplication in GF(2^8), modulo x^8 + x^4 + x^3 + x + 1
infixl 72 ◌•◌
unfoldable pub ◌•◌ : ℕ → ℕ → ℕ
a • b = times 8 0x11b a b

-- a to the power 2^(n+1) - 2, by n steps of p ↦ (a • p)²
unfoldable pub powered : ℕ → ℕ → ℕ
powered zero a = 1
powered (suc n) a = let p = a • powered n a in p • p

-- the multiplicative inverse in GF(2^8), and 0 of 0: a to the power 254
unfoldable pub inverse : ℕ → ℕ
inverse a = powered 7 a

-- bit i of b
abbrev pub bit : ℕ → ℕ → ℕ
bit b i = b / 2 ^ i % 2

-- bit i of the affine transformation over GF(2), with the constant c = 0x63
unfoldable pub affine_bit : ℕ → ℕ → ℕ
affine_bit b i =
    (bit b i + bit b ((i + 4) % 8) + bit b ((i + 5) % 8) + bit b ((i + 6) % 8) + bit b ((i + 7) % 8) + bit 0x63 i) % 2

-- the S-box: the inverse, then the affine transformation
unfoldable pub s_box : ℕ → ℕ
s_box a =
    let b = inverse a in
    affine_bit b 0 + affine_bit b 1 * 2 + affine_bit b 2 * 4 + affine_bit b 3 * 8 + affine_bit b 4 * 16 + affine_bit b 5 * 32
    + affine_bit b 6 * 64 + affine_bit b 7 * 128

-- the state whose byte in row r and column c is f r c, and that byte of a state
abbrev pub state : (ℕ → ℕ → ℕ) → List ℕ
state f = map (λ i. f (i % 4) (i / 4)) (range_with_len 0 16)

abbrev pub byte_at : List ℕ → ℕ → ℕ → ℕ
byte_at s r c = slice_index s (r + 4 * c)

-- each byte through the S-box
unfoldable pub sub_bytes : List ℕ → List ℕ
sub_bytes s = state (λ r c. s_box (byte_at s r c))

-- row r turned left by r places
unfoldable pub shift_rows : List ℕ → List ℕ
shift_rows s = state (λ r c. byte_at s r ((c + r) % 4))

-- a column times the matrix whose rows are 2, 3, 1, 1 and its turns
abbrev pub mix_column : ℕ → ℕ → ℕ → ℕ → List ℕ
mix_column s0 s1 s2 s3 =
    bit_xor (bit_xor (bit_xor (2 • s0) (3 • s1)) s2) s3
    ∷ bit_xor (bit_xor (bit_xor s0 (2 • s1)) (3 • s2)) s3
    ∷ bit_xor (bit_xor (bit_xor s0 s1) (2 • s2)) (3 • s3)
    ∷ bit_xor (bit_xor (bit_xor (3 • s0) s1) s2) (2 • s3)
    ∷ []

-- each column mixed
unfoldable pub mix_columns : List ℕ → List ℕ
mix_columns s = state (λ r c. slice_index (mix_column (byte_at s 0 c) (byte_at s 1 c) (byte_at s 2 c) (byte_at s 3 c)) r)

-- the four bytes of a word, and the word of four bytes
abbrev pub bytes_of : ℕ → List ℕ
bytes_of w = w / 16777216 % 256 ∷ w / 65536 % 256 ∷ w / 256 % 256 ∷ w % 256 ∷ []

abbrev pub word_of : ℕ → ℕ → ℕ → ℕ → ℕ
word_of a0 a1 a2 a3 = a0 * 16777216 + a1 * 65536 + a2 * 256 + a3

-- the round key of a round: the words w[4·round .. 4·round+3] of the key schedule, each a column
unfoldable pub round_key : List ℕ → ℕ → List ℕ
round_key w round = state (λ r c. slice_index (bytes_of (slice_index w (4 * round + c))) r)

-- the sum of a state and a round key, byte by byte
unfoldable pub add_round_key : List ℕ → List ℕ → List ℕ
add_round_key s k = state (λ r c. bit_xor (byte_at s r c) (byte_at k r c))

-- the state after the rounds 0 .. n, of which each but round 0 substitutes, shifts, mixes and adds its round key
unfoldable pub rounds : ℕ → List ℕ → List ℕ → List ℕ
rounds zero block w = add_round_key block (round_key w 0)
rounds (suc n) block w = add_round_key (mix_columns (shift_rows (sub_bytes (rounds n block w)))) (round_key w (suc n))

-- the cipher of a block under a key schedule w of 44 words; the last of the 10 rounds does not mix
unfoldable pub cipher : List ℕ → List ℕ → List ℕ
cipher block w = add_round_key (shift_rows (sub_bytes (rounds 9 block w))) (round_key w 10)

-- the word [a1, a2, a3, a0] of [a0, a1, a2, a3]
unfoldable pub rot_word : ℕ → ℕ
rot_word w = word_of (slice_index (bytes_of w) 1) (slice_index (bytes_of w) 2) (slice_index (bytes_of w) 3) (slice_index (bytes_of w) 0)

-- each byte of a word through the S-box
unfoldable pub sub_word : ℕ → ℕ
sub_word w =
    word_of (s_box (slice_index (bytes_of w) 0)) (s_box (slice_index (bytes_of w) 1)) (s_box (slice_index (bytes_of w) 2)) (s_box (slice_index (bytes_of w) 3))

-- x to the power n in GF(2^8)
unfoldable pub x_power : ℕ → ℕ
x_power zero = 1
x_power (suc n) = 2 • x_power n

-- the round constant [x^(j-1), 0, 0, 0]
unfoldable pub rcon : ℕ → ℕ
rcon j = word_of (x_power (j - 1)) 0 0 0

-- word i of the key schedule, from the word before it, temp, and the word four places before it
abbrev pub scheduled : ℕ → ℕ → ℕ → ℕ
scheduled i temp before = bit_xor before (cond (i % 4 == 0) (bit_xor (sub_word (rot_word temp)) (rcon (i / 4))) temp)

-- word i of the key schedule, from the words before it
unfoldable pub next_word : List ℕ → ℕ → ℕ
next_word w i = scheduled i (slice_index w (i - 1)) (slice_index w (i - 4))

-- word i of the key
abbrev pub key_word : List ℕ → ℕ → ℕ
key_word key i = word_of (slice_index key (4 * i)) (slice_index key (4 * i + 1)) (slice_index key (4 * i + 2)) (slice_index key (4 * i + 3))

-- the first 4 + n words of the key schedule
unfoldable pub schedule : ℕ → List ℕ → List ℕ
schedule zero key = key_word key 0 ∷ key_word key 1 ∷ key_word key 2 ∷ key_word key 3 ∷ []
schedule (suc n) key = schedule n key ++ next_word (schedule n key) (n + 4) ∷ []

-- the key schedule of a key of 16 bytes: 44 words
unfoldable pub key_expansion : List ℕ → List ℕ
key_expansion key = schedule 40 key
