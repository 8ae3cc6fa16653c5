-- Little-endian numbers and their bytes, over any width: one is read back from the other.
use Rattle.std.proofs.Common.{◌≡◌, ℕ, zero, suc, ◌+◌, ◌*◌, ◌/◌, ◌%◌, ◌^◌, ◌<◌, List, [], ◌∷◌, ◌++◌, length, sym, refl, ap, ◌∙◌, mod-eq_of_lt, mul_assoc, pow-suc, mul_left_comm, arith}
use native.Mathlib.Nat.{mod-one, div-div-eq-div-mul}
use lib.Arith.{mod-mul}
use Rattle.slices.specs.Little.{little, bytes_of}

-- a power of 256 is above 0
pos : (n : ℕ) → 0 < 256 ^ n
pos zero = omega arith
pos (suc n) = rw pow-suc (let h = pos n in omega arith)

-- the number of a number's n bytes
pub little-bytes_of : (n x : ℕ) → little (bytes_of n x) ≡ x % 256 ^ n
unfolding little bytes_of
little-bytes_of zero x = sym (mod-one x)
little-bytes_of (suc n) x =
    let h = pos n in
    let e = mod-mul x {m = 256 ^ n} {c = 256} h (omega arith) in
    rw (little-bytes_of n (x / 256), pow-suc) (omega (arith, e))

-- a number is read back from as many bytes as it fills
pub little-back : (n x : ℕ) → x < 256 ^ n → little (bytes_of n x) ≡ x
little-back n x h = little-bytes_of n x ∙ mod-eq_of_lt h

-- the number of some bytes and then others
pub little-append : (xs ys : List ℕ) → little (xs ++ ys) ≡ little xs + 256 ^ length xs * little ys
unfolding little
little-append [] ys = omega arith
little-append (x ∷ xs) ys =
    let swap = mul_left_comm (256 ^ length xs) 256 (little ys) in
    rw (little-append xs ys, pow-suc, mul_assoc) (omega (arith, swap))

-- n bytes are n long
pub length-bytes_of : (n x : ℕ) → length (bytes_of n x) ≡ n
unfolding bytes_of
length-bytes_of zero x = refl
length-bytes_of (suc n) x = ap suc (length-bytes_of n (x / 256))

-- two numbers, one after the other, are read back as one
pub little-pair :
    (m n x y : ℕ) → x < 256 ^ m → y < 256 ^ n → little (bytes_of m x ++ bytes_of n y) ≡ x + 256 ^ m * y
little-pair m n x y p q =
    little-append (bytes_of m x) (bytes_of n y) ∙ rw (length-bytes_of m x, little-back m x p, little-back n y q)

-- the high word of a number of 64 bits is that of its bytes 4 to 7
pub little-high : (x : ℕ) → x < 2 ^ 64 → little (bytes_of 4 (x / 256 / 256 / 256 / 256)) ≡ x / 2 ^ 32
little-high x h = little-back 4 (x / 256 / 256 / 256 / 256) (omega arith) ∙ simp div-div-eq-div-mul

-- every one is a byte
abbrev pub Bytes : List ℕ → Type 0
Bytes [] = Unit {0}
Bytes (b ∷ bs) = (b < 256) × Bytes bs

-- some bytes are those of their number
pub bytes_of-little : (bs : List ℕ) → Bytes bs → bytes_of (length bs) (little bs) ≡ bs
unfolding little bytes_of
bytes_of-little [] h = refl
bytes_of-little (b ∷ bs) (hb, hs) =
    let low : (b + 256 * little bs) % 256 ≡ b = omega arith in
    let high : (b + 256 * little bs) / 256 ≡ little bs = omega arith in
    rw (low, high, bytes_of-little bs hs)

-- the bytes of a word, each by one division
pub bytes_of-four : (x : ℕ) → bytes_of 4 x ≡ x % 256 ∷ x / 256 % 256 ∷ x / 65536 % 256 ∷ x / 16777216 % 256 ∷ []
unfolding bytes_of
bytes_of-four x = simp div-div-eq-div-mul
