-- Little-endian numbers: the bytes of a number make it up again, and the number of sums of bytes is the sum of the numbers.
use Rattle.std.proofs.Common.{◌≡◌, ℕ, zero, suc, ◌+◌, ◌*◌, ◌/◌, ◌%◌, ◌^◌, ◌<◌, ◌≤◌, List, [], ◌∷◌, ◌++◌, length, get_or, take, drop, sym, refl, ap, ◌∙◌, ap₂, add-zero, mod-lt, pow-suc, arith, lit<, length-take, length-drop, get_or-take, get_or-drop}
use lib.Bits.{bit_xor, xor_block}
use lib.Lanes.{zip2, number_l, digits_l, Each1}
use Rattle.std.proofs.lemmas.List.FromFn.{fill_by_all}
use Rattle.slices.specs.Little.{word_at}
use Rattle.label.specs.Labels.{label_bytes}

-- the number of the sums of bytes
pub number_xor : (xs ys : List ℕ) → length xs ≡ length ys → Each1 (λ x. x < 256) xs → Each1 (λ y. y < 256) ys
    → number_l 256 (zip2 bit_xor xs ys) ≡ bit_xor (number_l 256 xs) (number_l 256 ys)
number_xor [] [] e hx hy = refl
number_xor [] (y ∷ ys) e hx hy = absurd (omega arith)
number_xor (x ∷ xs) [] e hx hy = absurd (omega arith)
number_xor (x ∷ xs) (y ∷ ys) e hx hy =
    let same : length xs ≡ length ys = omega arith in
    let left : number_l 256 xs * 2 ^ 8 + x ≡ x + 256 * number_l 256 xs = omega arith in
    let right : number_l 256 ys * 2 ^ 8 + y ≡ y + 256 * number_l 256 ys = omega arith in
    ap (λ (n : ℕ). bit_xor x y + 256 * n) (number_xor xs ys same hx.1 hy.1)
    ∙ (omega arith)
    ∙ sym (xor_block 8 (number_l 256 xs) (number_l 256 ys) x y hx.0 hy.0)
    ∙ ap₂ bit_xor left right

-- the bytes of a number are bytes
pub digits-below : (n x : ℕ) → Each1 (λ y. y < 256) (digits_l 256 n x)
digits-below zero x = tt
digits-below (suc n) x = (mod-lt x (lit< tt), digits-below n (x / 256))

-- and they make it up again
pub number_digits : (n x : ℕ) → x < 256 ^ n → number_l 256 (digits_l 256 n x) ≡ x
number_digits zero x h = omega arith
number_digits (suc n) x h =
    let h' : x < 256 ^ n * 256 = rw pow-suc at h in
    ap (λ (m : ℕ). x % 256 + 256 * m) (number_digits n (x / 256) (omega arith)) ∙ (omega arith)

-- the bytes of a number of 64 bits, each by one quotient
pub digits-is : (x : ℕ) → digits_l 256 8 x
    ≡ x % 256 ∷ x / 256 % 256 ∷ x / 65536 % 256 ∷ x / 16777216 % 256 ∷ x / 4294967296 % 256 ∷ x / 1099511627776 % 256
    ∷ x / 281474976710656 % 256 ∷ x / 72057594037927936 % 256 ∷ []
digits-is x =
    let p : x / 256 / 256 ≡ x / 65536 = omega arith in
    let q : x / 256 / 256 / 256 ≡ x / 16777216 = omega arith in
    let r : x / 256 / 256 / 256 / 256 ≡ x / 4294967296 = omega arith in
    let s : x / 256 / 256 / 256 / 256 / 256 ≡ x / 1099511627776 = omega arith in
    let t : x / 256 / 256 / 256 / 256 / 256 / 256 ≡ x / 281474976710656 = omega arith in
    let u : x / 256 / 256 / 256 / 256 / 256 / 256 / 256 ≡ x / 72057594037927936 = omega arith in
    λ i. x % 256 ∷ x / 256 % 256 ∷ p i % 256 ∷ q i % 256 ∷ r i % 256 ∷ s i % 256 ∷ t i % 256 ∷ u i % 256 ∷ []

-- the number of eight bytes, each by its place
pub number_is : (xs : List ℕ) → length xs ≡ 8 → number_l 256 xs
    ≡ get_or xs 0 0 + get_or xs 1 0 * 256 + get_or xs 2 0 * 65536 + get_or xs 3 0 * 16777216 + get_or xs 4 0 * 4294967296
    + get_or xs 5 0 * 1099511627776 + get_or xs 6 0 * 281474976710656 + get_or xs 7 0 * 72057594037927936
number_is xs long = ap (number_l 256) (fill_by_all (λ k. get_or xs k 0) xs 8 0 long (λ k h. refl)) ∙ (omega arith)

-- the number of the eight bytes at p, as it is read in one go
pub word_is : (xs : List ℕ) (p : ℕ) → p + 8 ≤ length xs → word_at xs p ≡ number_l 256 (take 8 (drop p xs))
word_is xs p h =
    let ys : List ℕ = take 8 (drop p xs) in
    let long : length ys ≡ 8 = simp (length-take, length-drop) (omega arith) in
    let at : (k : ℕ) → k < 8 → get_or ys k 0 ≡ get_or xs (p + k) 0 = λ k l. get_or-take 8 (drop p xs) k 0 l ∙ get_or-drop p xs k 0 in
    let b0 : get_or ys 0 0 ≡ get_or xs p 0 = at 0 (lit< tt) ∙ ap (λ (k : ℕ). get_or xs k 0) (add-zero p) in
    let b1 = at 1 (lit< tt) in
    let b2 = at 2 (lit< tt) in
    let b3 = at 3 (lit< tt) in
    let b4 = at 4 (lit< tt) in
    let b5 = at 5 (lit< tt) in
    let b6 = at 6 (lit< tt) in
    let b7 = at 7 (lit< tt) in
    sym
    (number_is ys long
    ∙ (λ i. b0 i + b1 i * 256 + b2 i * 65536 + b3 i * 16777216 + b4 i * 4294967296 + b5 i * 1099511627776 + b6 i * 281474976710656 + b7 i * 72057594037927936))

-- and the bytes of two numbers, as they are written in one go
pub halves_is : (x y : ℕ) → label_bytes (x, y) ≡ digits_l 256 8 x ++ digits_l 256 8 y
halves_is x y = sym (ap₂ (λ (l m : List ℕ). l ++ m) (digits-is x) (digits-is y))
