-- Products in GF(2^64): the doubling by a shift, and the product with a tweak, coefficient after coefficient.
use Rattle.std.proofs.Common.{◌≡◌, ℕ, suc, ◌+◌, ◌-◌, ◌*◌, ◌/◌, ◌%◌, ◌^◌, ◌<◌, sym, refl, ap, ◌∙◌, mod-lt, div-one, arith, lit<, lit≤, pow_pos, shr-shr}
use native.Mathlib.Nat.{mod-one}
use lib.Bits.{bit_xor, xor_shifted}
use lib.Pow.{mod-pow-add}
use Rattle.aes.specs.Hash.{times64}
use Rattle.aes.proofs.Polynomials.{horner, doubled, times_is, times_two, reduced_is, horner_lt, horner_short, times_xor, times_zero}

-- twice a: shifted by one, and the bit that leaves put back as z^4 + z^3 + z + 1
pub twice_is : (a : ℕ) → a < 2 ^ 64 → bit_xor ((a * 2) % 2 ^ 64) (a / 2 ^ 63 * 27) ≡ times64 a 2
unfolding times64 doubled
twice_is a h =
    sym
    (times_two 64 27 (lit< tt) a h (lit≤ tt)
    ∙ reduced_is 64 27 (lit< tt) (a * 2) (omega arith)
    ∙ ap (λ (q : ℕ). bit_xor ((a * 2) % 2 ^ 64) (q * 27)) (omega arith))

-- the product of a with the tweak's coefficients from i on
abbrev pub high_product : ℕ → ℕ → ℕ → ℕ
high_product a tweak i = horner 64 (2 ^ 64 + 27) (32 - i) a (tweak / 2 ^ i)

-- with none of them, with one more, and with all of them
pub high_none : (a tweak : ℕ) → 0 ≡ high_product a tweak 32
unfolding horner
high_none a tweak = refl

pub high_more : (a tweak i sum : ℕ) → a < 2 ^ 64 → i < 32 → sum ≡ high_product a tweak (i + 1)
    → bit_xor (tweak / 2 ^ i % 2 * a) (times64 sum 2) ≡ high_product a tweak i
unfolding horner times64
high_more a tweak i sum ha below e =
    let more : suc (32 - (i + 1)) ≡ 32 - i = omega arith in
    let fits : sum < 2 ^ 64 = rw e (horner_lt 64 27 (lit< tt) (32 - (i + 1)) a (tweak / 2 ^ (i + 1)) ha) in
    ap (bit_xor (tweak / 2 ^ i % 2 * a))
    (times_two 64 27 (lit< tt) sum fits (lit≤ tt)
    ∙ ap (doubled 64 (2 ^ 64 + 27)) (e ∙ ap (horner 64 (2 ^ 64 + 27) (32 - (i + 1)) a) (sym (shr-shr tweak i 1))))
    ∙ ap (λ (n : ℕ). horner 64 (2 ^ 64 + 27) n a (tweak / 2 ^ i)) more

pub high_all : (a tweak : ℕ) → a < 2 ^ 64 → tweak < 2 ^ 32 → high_product a tweak 0 ≡ times64 a tweak
unfolding times64
high_all a tweak ha ht =
    ap (horner 64 (2 ^ 64 + 27) 32 a) (div-one tweak)
    ∙ sym (times_is 64 27 (lit< tt) a tweak ha ∙ horner_short 64 27 (lit< tt) 32 32 a tweak ht)

-- ---- the product from a table of multiples, four coefficients of the tweak at a time

-- the product with the tweak's 4·j low coefficients: with none, and with four more
pub low_none : (a tweak : ℕ) → a < 2 ^ 64 → 0 ≡ times64 a (tweak % 2 ^ (4 * 0))
unfolding times64
low_none a tweak ha = sym (ap (times64 a) (mod-one tweak) ∙ times_zero 64 27 (lit< tt) a ha)

pub low_more : (a tweak j sum : ℕ) → a < 2 ^ 64 → sum ≡ times64 a (tweak % 2 ^ (4 * j))
    → bit_xor (times64 a (tweak / 2 ^ (4 * j) % 16 * 2 ^ (4 * j))) sum ≡ times64 a (tweak % 2 ^ (4 * (j + 1)))
unfolding times64
low_more a tweak j sum ha e =
    let k : ℕ = 4 * j in
    ap (bit_xor (times64 a (tweak / 2 ^ k % 16 * 2 ^ k))) e
    ∙ sym (times_xor 64 27 (lit< tt) a (tweak / 2 ^ k % 16 * 2 ^ k) (tweak % 2 ^ k) ha)
    ∙ ap (times64 a)
    (xor_shifted (tweak / 2 ^ k % 16) k (tweak % 2 ^ k) (mod-lt tweak (pow_pos k))
    ∙ sym (mod-pow-add tweak 4 k)
    ∙ ap (λ (n : ℕ). tweak % 2 ^ n) (omega arith))
