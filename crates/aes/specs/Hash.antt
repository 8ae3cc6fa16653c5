-- The hash of wire labels: AES-128 under a fixed key, of the label with the tweak's multiples added, and with that label doubled added.
use Rattle.std.specs.Prelude.{ℕ, ◌/◌, ◌%◌, List, ◌++◌, take, drop, ◌==◌, bit_xor, slice_index}
use Rattle.std.specs.Simd.Lanes.{zip2, number_l, digits_l}
use Rattle.label.specs.Hashes.{HashFunction}
use Rattle.label.specs.declared.hash.Answer.{Answer}
use Rattle.aes.specs.Field.{times}
use Rattle.aes.specs.Fips197.{key_expansion, cipher}

-- multiplication in GF(2^64), modulo z^64 + z^4 + z^3 + z + 1
unfoldable pub times64 : ℕ → ℕ → ℕ
times64 a b = times 64 0x1_0000_0000_0000_001b a b

-- the key material: a key of AES-128, and two numbers of GF(2^64)
pub record Material : Type 0 where
  pub key : List ℕ
  pub u1 : ℕ
  pub u2 : ℕ

-- the key material in 32 bytes: 16 of the key, 8 of u1 and 8 of u2, both little-endian
abbrev pub material_in : List ℕ → Material
material_in bytes =
    record { key = take 16 bytes; u1 = number_l 256 (take 8 (drop 16 bytes)); u2 = number_l 256 (take 8 (drop 24 bytes)) }

-- the 16 bytes of two halves, each little-endian
abbrev pub bytes_of_halves : ℕ → ℕ → List ℕ
bytes_of_halves left right = digits_l 256 8 left ++ digits_l 256 8 right

-- the 16 bytes that the halves y and z of the label with the tweak's multiples come to
unfoldable pub hashed : List ℕ → ℕ → ℕ → List ℕ
hashed key y z = zip2 bit_xor (cipher (bytes_of_halves y z) (key_expansion key)) (bytes_of_halves (times64 y 2) (times64 z 2))

-- the word and the control pair in such bytes
abbrev pub read : List ℕ → Answer
read r = record { word = number_l 256 (take 8 r); pair = record { low = (slice_index r 8 % 2 == 1); high = (slice_index r 8 / 2 % 2 == 1) } }

-- the answer for a label (left, right) and a tweak
unfoldable pub answer_of : Material → HashFunction
answer_of m label tweak = read (hashed m.key (bit_xor label.0 (times64 m.u1 tweak)) (bit_xor label.1 (times64 m.u2 tweak)))
