-- What is read from a sum of 16 bytes and the bytes of two halves: the word is the sum of the words, and the control pair is that of the
-- sum of the ninth byte and the second half. So the code's answer is the hash's.
use Rattle.std.proofs.Common.{◌≡◌, ℕ, zero, suc, ◌/◌, ◌%◌, ◌^◌, ◌<◌, eqb, List, [], ◌∷◌, length, get_or, take, sym, refl, ap, ◌∙◌, subst, ap₂, arith, lit<, length-take}
use lib.Bits.{bit_xor, xor_shr, xor_mod}
use lib.Lanes.{zip2, number_l, digits_l}
use Rattle.std.proofs.lemmas.Simd.{get_or-zip2, Each1-chunk}
use Rattle.slices.specs.Little.{word_at}
use Rattle.label.specs.Labels.{label_bytes, label_at}
use Rattle.label.specs.Sums.{label_plus}
use Rattle.label.specs.declared.hash.Answer.{Answer}
use Rattle.aes.specs.Fips197.{key_expansion, cipher}
use Rattle.aes.specs.Hash.{times64, Material, bytes_of_halves, hashed, read, answer_of}
use Rattle.aes.proofs.Ciphertexts.{Bytes, cipher_bytes, cipher_length}
use Rattle.aes.proofs.Endian.{number_xor, digits-below, number_digits, word_is, halves_is}

-- a word and the control pair of a number's two low bits
abbrev answer : ℕ → ℕ → Answer
answer word control = record { word = word; pair = record { low = eqb (control % 2) 1; high = eqb (control / 2 % 2) 1 } }

-- the two low bits of a sum are those of the sum of two numbers with the same low bits
low_of : (a b c d : ℕ) → a % 2 ≡ c % 2 → b % 2 ≡ d % 2 → bit_xor a b % 2 ≡ bit_xor c d % 2
low_of a b c d e f = xor_mod a b 1 ∙ ap₂ bit_xor e f ∙ sym (xor_mod c d 1)

high_of : (a b c d : ℕ) → a / 2 % 2 ≡ c / 2 % 2 → b / 2 % 2 ≡ d / 2 % 2 → bit_xor a b / 2 % 2 ≡ bit_xor c d / 2 % 2
high_of a b c d e f =
    ap (λ (v : ℕ). v % 2) (xor_shr a b 1) ∙ low_of (a / 2) (b / 2) (c / 2) (d / 2) e f ∙ sym (ap (λ (v : ℕ). v % 2) (xor_shr c d 1))

-- a front of sums is the sums of the fronts
take-zip2 : (f : ℕ → ℕ → ℕ) (n : ℕ) (xs ys : List ℕ) → take n (zip2 f xs ys) ≡ zip2 f (take n xs) (take n ys)
take-zip2 f zero xs ys = refl
take-zip2 f (suc n) [] ys = refl
take-zip2 f (suc n) (x ∷ xs) [] = refl
take-zip2 f (suc n) (x ∷ xs) (y ∷ ys) = ap (λ (l : List ℕ). f x y ∷ l) (take-zip2 f n xs ys)

module _ (xs : List ℕ) (long : length xs ≡ 16) (bytes : Bytes xs) (y z : ℕ) (hy : y < 2 ^ 64) where
  -- the first word, the ninth byte, and its two low bits
  first_is : number_l 256 (take 8 (zip2 bit_xor xs (bytes_of_halves y z))) ≡ bit_xor (word_at xs 0) y
  first_is =
      let eight : length (take 8 xs) ≡ 8 = simp length-take (omega arith) in
      ap (number_l 256) (take-zip2 bit_xor 8 xs (bytes_of_halves y z))
      ∙ number_xor (take 8 xs) (digits_l 256 8 y) eight (Each1-chunk (λ x. x < 256) 0 8 xs bytes) (digits-below 8 y)
      ∙ ap₂ bit_xor (sym (word_is xs 0 (omega arith))) (number_digits 8 y hy)

  byte_is : get_or (zip2 bit_xor xs (bytes_of_halves y z)) 8 0 ≡ bit_xor (get_or xs 8 0) (z % 256)
  byte_is = get_or-zip2 bit_xor xs (bytes_of_halves y z) 8 0 0 0 (omega arith) (lit< tt)

  low_is : get_or (zip2 bit_xor xs (bytes_of_halves y z)) 8 0 % 2 ≡ bit_xor (word_at xs 8) z % 2
  low_is = ap (λ (v : ℕ). v % 2) byte_is ∙ low_of (get_or xs 8 0) (z % 256) (word_at xs 8) z (omega arith) (omega arith)

  high_is : get_or (zip2 bit_xor xs (bytes_of_halves y z)) 8 0 / 2 % 2 ≡ bit_xor (word_at xs 8) z / 2 % 2
  high_is = ap (λ (v : ℕ). v / 2 % 2) byte_is ∙ high_of (get_or xs 8 0) (z % 256) (word_at xs 8) z (omega arith) (omega arith)

  read_is : read (zip2 bit_xor xs (bytes_of_halves y z)) ≡ answer (bit_xor (word_at xs 0) y) (bit_xor (word_at xs 8) z)
  read_is = λ i. record { word = first_is i; pair = record { low = eqb (low_is i) 1; high = eqb (high_is i) 1 } }

-- the answer from what the code computes: the multiples p and q of the tweak, the masked label, its block and ciphertext, and the
-- doubled halves s and t
pub answer_is : (m : Material) (label masked : ℕ × ℕ) (tweak p q s t : ℕ) (block text : List ℕ) (read-text sum : ℕ × ℕ)
    → p ≡ times64 m.u1 tweak → q ≡ times64 m.u2 tweak → masked ≡ label_plus label (p, q)
    → block ≡ label_bytes masked → text ≡ cipher block (key_expansion m.key) → read-text ≡ label_at text 0
    → s ≡ times64 masked.0 2 → t ≡ times64 masked.1 2 → s < 2 ^ 64 → sum ≡ label_plus read-text (s, t)
    → answer sum.0 sum.1 ≡ answer_of m label tweak
unfolding hashed answer_of
answer_is m label masked tweak p q s t block text read-text sum ep eq em eb et er es eu below ea =
    let w : List ℕ = key_expansion m.key in
    let y : ℕ = bit_xor label.0 p in
    let z : ℕ = bit_xor label.1 q in
    let long : length text ≡ 16 = ap length et ∙ cipher_length block w in
    let bytes : Bytes text = subst Bytes (sym et) (cipher_bytes block w) in
    let text-is : text ≡ cipher (bytes_of_halves y z) w = et ∙ ap (λ (b : List ℕ). cipher b w) (eb ∙ ap label_bytes em ∙ halves_is y z) in
    let first : s ≡ times64 y 2 = es ∙ ap (λ (l : ℕ × ℕ). times64 l.0 2) em in
    let second : t ≡ times64 z 2 = eu ∙ ap (λ (l : ℕ × ℕ). times64 l.1 2) em in
    ap (λ (l : ℕ × ℕ). answer l.0 l.1) (ea ∙ ap (λ (l : ℕ × ℕ). label_plus l (s, t)) er)
    ∙ sym (read_is text long bytes s t below)
    ∙ (λ i. read (zip2 bit_xor (text-is i) (bytes_of_halves (first i) (second i))))
    ∙ (λ i. read (hashed m.key (bit_xor label.0 (ep i)) (bit_xor label.1 (eq i))))
