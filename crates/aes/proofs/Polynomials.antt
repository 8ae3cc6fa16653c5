-- Laws of the product in GF(2^d), modulo 2^d + t with t below 2^d: long division is linear, so the product can be had by Horner's rule,
-- one doubling in the field for each coefficient of the second factor.
use Rattle.std.proofs.Common.{◌≡◌, ℕ, zero, suc, ◌+◌, ◌-◌, ◌*◌, ◌/◌, ◌%◌, ◌^◌, ◌<◌, ◌≤◌, Bool, true, false, cond, ltb, sym, refl, ap, ◌∙◌, subst, ap₂, add-zero, add-suc, mod-lt, mod-eq_of_lt, suc-add, one-mul, pow-suc, zero-add, zero-mul, arith, lit<, pow_pos, pow_mono, ltb-false, ltb-true, lt-ltb}
use native.Mathlib.Nat.{div-eq_of_lt}
use lib.Bits.{bit_xor, xor_comm, xor_assoc, xor_self, xor_zero_r, xor_block, xor_lt, xor_shr, xor_mod}
use lib.Pow.{high, low}
use Rattle.std.proofs.lemmas.Nat.{div_below}
use Rattle.aes.specs.Field.{product, reduced, remainder, times}

-- sums regrouped
pub xor_swap : (a b c e : ℕ) → bit_xor (bit_xor a b) (bit_xor c e) ≡ bit_xor (bit_xor a c) (bit_xor b e)
xor_swap a b c e =
    xor_assoc a b (bit_xor c e)
    ∙ ap (bit_xor a) (sym (xor_assoc b c e) ∙ ap (λ (x : ℕ). bit_xor x e) (xor_comm b c) ∙ xor_assoc c b e)
    ∙ sym (xor_assoc a c (bit_xor b e))

-- a coefficient, 0 or 1, times a number
digit_xor : (p q t : ℕ) → p < 2 → q < 2 → bit_xor p q * t ≡ bit_xor (p * t) (q * t)
digit_xor zero q t hp hq = sym (ap (λ (x : ℕ). bit_xor x (q * t)) (zero-mul t))
digit_xor (suc zero) zero t hp hq = sym (ap (bit_xor (1 * t)) (zero-mul t) ∙ xor_zero_r (1 * t))
digit_xor (suc zero) (suc zero) t hp hq = zero-mul t ∙ sym (xor_self (1 * t))
digit_xor (suc zero) (suc (suc q)) t hp hq = absurd (omega arith)
digit_xor (suc (suc p)) q t hp hq = absurd (omega arith)

-- such a product is no greater than the number
digit_lt : (p t m : ℕ) → p < 2 → t < m → p * t < m
digit_lt zero t m hp ht = rw zero-mul (omega arith)
digit_lt (suc zero) t m hp ht = rw one-mul ht
digit_lt (suc (suc p)) t m hp ht = absurd (omega arith)

-- what a number doubled becomes in the field, and Horner's rule for the product of a with the n low coefficients of b
unfoldable pub doubled : ℕ → ℕ → ℕ → ℕ
doubled d m a = reduced d m (a * 2)

unfoldable pub horner : ℕ → ℕ → ℕ → ℕ → ℕ → ℕ
horner d m zero a b = 0
horner d m (suc n) a b = bit_xor (b % 2 * a) (doubled d m (horner d m n a (b / 2)))

module _ (d t : ℕ) (ht : t < 2 ^ d) where
  abbrev modulus : ℕ
  modulus = 2 ^ d + t

  -- a number of degree at most d in two parts, of which the higher is a coefficient
  pub reduced_is : (x : ℕ) → x < 2 ^ d * 2 → reduced d modulus x ≡ bit_xor (x % 2 ^ d) (x / 2 ^ d * t)
  unfolding reduced
  reduced_is x hx = go (ltb x (2 ^ d)) refl
    where
      go : (v : Bool) → ltb x (2 ^ d) ≡ v → cond (ltb x (2 ^ d)) x (bit_xor x modulus) ≡ bit_xor (x % 2 ^ d) (x / 2 ^ d * t)
      go true e =
          let h : x < 2 ^ d = ltb-true x (2 ^ d) e in
          ap (λ (v : Bool). cond v x (bit_xor x modulus)) e ∙ sym (xor_zero_r x)
          ∙ ap₂ bit_xor (sym (mod-eq_of_lt h)) (sym (zero-mul t) ∙ ap (λ (q : ℕ). q * t) (sym (div-eq_of_lt h)))
      go false e =
          let h : 2 ^ d ≤ x = ltb-false x (2 ^ d) e in
          let y : ℕ = x - 2 ^ d in
          let hy : y < 2 ^ d = omega arith in
          let ex : x ≡ 1 * 2 ^ d + y = rw one-mul (omega arith) in
          let em : modulus ≡ 1 * 2 ^ d + t = rw one-mul refl in
          ap (λ (v : Bool). cond v x (bit_xor x modulus)) e ∙ ap₂ bit_xor ex em ∙ xor_block d 1 1 y t hy ht
          ∙ (rw (zero-mul, zero-add) refl)
          ∙ ap₂ bit_xor
          (sym (ap (λ (v : ℕ). v % 2 ^ d) ex ∙ low 1 d hy))
          (sym (ap (λ (v : ℕ). v / 2 ^ d * t) ex ∙ ap (λ (q : ℕ). q * t) (high 1 d hy) ∙ one-mul t))

  -- the higher part is 0 or 1
  top_lt : (x : ℕ) → x < 2 ^ d * 2 → x / 2 ^ d < 2
  top_lt x hx = div_below x (2 ^ d) 2 (pow_pos d) (omega arith)

  -- what is reduced has degree below d
  pub reduced_lt : (x : ℕ) → x < 2 ^ d * 2 → reduced d modulus x < 2 ^ d
  reduced_lt x hx =
      subst (λ (v : ℕ). v < 2 ^ d) (sym (reduced_is x hx))
      (xor_lt d (x % 2 ^ d) (x / 2 ^ d * t) (mod-lt x (pow_pos d)) (digit_lt (x / 2 ^ d) t (2 ^ d) (top_lt x hx) ht))

  -- what has degree below d stays
  pub reduced_low : (x : ℕ) → x < 2 ^ d → reduced d modulus x ≡ x
  unfolding reduced
  reduced_low x hx = ap (λ (v : Bool). cond v x (bit_xor x modulus)) (lt-ltb x (2 ^ d) hx)

  -- the step of the long division is linear
  reduced_xor : (x y : ℕ) → x < 2 ^ d * 2 → y < 2 ^ d * 2 → reduced d modulus (bit_xor x y) ≡ bit_xor (reduced d modulus x) (reduced d modulus y)
  reduced_xor x y hx hy =
      reduced_is (bit_xor x y) (subst (λ (n : ℕ). bit_xor x y < n) (pow-suc 2 d) (xor_lt (suc d) x y (rw pow-suc hx) (rw pow-suc hy)))
      ∙ ap₂ bit_xor (xor_mod x y d) (ap (λ (q : ℕ). q * t) (xor_shr x y d) ∙ digit_xor (x / 2 ^ d) (y / 2 ^ d) t (top_lt x hx) (top_lt y hy))
      ∙ xor_swap (x % 2 ^ d) (y % 2 ^ d) (x / 2 ^ d * t) (y / 2 ^ d * t)
      ∙ sym (ap₂ bit_xor (reduced_is x hx) (reduced_is y hy))

  -- a remainder has degree below d
  pub remainder_lt : (n p : ℕ) → remainder d modulus n p < 2 ^ d
  unfolding remainder
  remainder_lt zero p = pow_pos d
  remainder_lt (suc n) p =
      let h : remainder d modulus n (p / 2) < 2 ^ d = remainder_lt n (p / 2) in
      reduced_lt (remainder d modulus n (p / 2) * 2 + p % 2) (omega arith)

  -- the remainder of a sum is the sum of the remainders
  remainder_xor : (n p q : ℕ) → remainder d modulus n (bit_xor p q) ≡ bit_xor (remainder d modulus n p) (remainder d modulus n q)
  unfolding remainder
  remainder_xor zero p q = refl
  remainder_xor (suc n) p q =
      let r : ℕ = remainder d modulus n (p / 2) in
      let s : ℕ = remainder d modulus n (q / 2) in
      let hr : r < 2 ^ d = remainder_lt n (p / 2) in
      let hs : s < 2 ^ d = remainder_lt n (q / 2) in
      ap (reduced d modulus)
      (ap₂ (λ (x y : ℕ). x * 2 + y)
      (ap (remainder d modulus n) (xor_shr p q 1) ∙ remainder_xor n (p / 2) (q / 2))
      (xor_mod p q 1)
      ∙ sym (xor_block 1 r s (p % 2) (q % 2) (omega arith) (omega arith)))
      ∙ reduced_xor (r * 2 + p % 2) (s * 2 + q % 2) (omega arith) (omega arith)

  -- what has degree below d is its own remainder
  remainder_low : (n p : ℕ) → p < 2 ^ n → p < 2 ^ d → remainder d modulus n p ≡ p
  unfolding remainder
  remainder_low zero p hn hp = omega arith
  remainder_low (suc n) p hn hp =
      let hm : p < 2 ^ n * 2 = rw pow-suc at hn in
      ap (λ (x : ℕ). reduced d modulus (x * 2 + p % 2)) (remainder_low n (p / 2) (omega arith) (omega arith))
      ∙ ap (reduced d modulus) (omega arith)
      ∙ reduced_low p hp

  -- the remainder of x times q is that of q, doubled in the field
  remainder_shifted : (n q : ℕ) → remainder d modulus (suc n) (q * 2) ≡ doubled d modulus (remainder d modulus n q)
  unfolding remainder doubled
  remainder_shifted n q =
      ap (reduced d modulus)
      (ap₂ (λ (x y : ℕ). remainder d modulus n x * 2 + y) (omega arith) (omega arith) ∙ add-zero (remainder d modulus n q * 2))

  -- the remainder of a product, by Horner's rule
  product_is : (n a b : ℕ) → a < 2 ^ d → remainder d modulus (d + n) (product n a b) ≡ horner d modulus n a b
  unfolding product horner
  product_is zero a b ha = remainder_low (d + 0) 0 (pow_pos (d + 0)) (pow_pos d)
  product_is (suc n) a b ha =
      let q : ℕ = product n a (b / 2) in
      let hx : b % 2 * a < 2 ^ d = digit_lt (b % 2) a (2 ^ d) (omega arith) ha in
      let more : 2 ^ d ≤ 2 ^ suc (d + n) = pow_mono (omega arith) in
      ap (λ (k : ℕ). remainder d modulus k (bit_xor (b % 2 * a) (q * 2))) (add-suc d n)
      ∙ remainder_xor (suc (d + n)) (b % 2 * a) (q * 2)
      ∙ ap₂ bit_xor
      (remainder_low (suc (d + n)) (b % 2 * a) (omega arith) hx)
      (remainder_shifted (d + n) q ∙ ap (doubled d modulus) (product_is n a (b / 2) ha))

  -- the field's product, by Horner's rule
  pub times_is : (a b : ℕ) → a < 2 ^ d → times d modulus a b ≡ horner d modulus d a b
  unfolding times
  times_is a b ha = product_is d a b ha

  -- it has degree below d
  pub horner_lt : (n a b : ℕ) → a < 2 ^ d → horner d modulus n a b < 2 ^ d
  unfolding horner doubled
  horner_lt zero a b ha = pow_pos d
  horner_lt (suc n) a b ha =
      let h : horner d modulus n a (b / 2) < 2 ^ d = horner_lt n a (b / 2) ha in
      xor_lt d (b % 2 * a) (reduced d modulus (horner d modulus n a (b / 2) * 2))
      (digit_lt (b % 2) a (2 ^ d) (omega arith) ha)
      (reduced_lt (horner d modulus n a (b / 2) * 2) (omega arith))

  -- the coefficients past b's last add nothing
  horner_none : (k a : ℕ) → horner d modulus k a 0 ≡ 0
  unfolding horner doubled
  horner_none zero a = refl
  horner_none (suc k) a =
      ap₂ (λ (x y : ℕ). bit_xor x (reduced d modulus (y * 2))) (zero-mul a) (horner_none k a) ∙ reduced_low 0 (pow_pos d)

  pub horner_short : (n k a b : ℕ) → b < 2 ^ n → horner d modulus (n + k) a b ≡ horner d modulus n a b
  unfolding horner
  horner_short zero k a b hb =
      ap₂ (λ (n x : ℕ). horner d modulus n a x) (zero-add k) (omega arith) ∙ horner_none k a
  horner_short (suc n) k a b hb =
      let hm : b < 2 ^ n * 2 = rw pow-suc at hb in
      ap (λ (l : ℕ). horner d modulus l a b) (suc-add n k)
      ∙ ap (λ (x : ℕ). bit_xor (b % 2 * a) (doubled d modulus x)) (horner_short n k a (b / 2) (omega arith))

  -- twice a number is its product with x
  pub times_two : (a : ℕ) → a < 2 ^ d → 2 ≤ d → times d modulus a 2 ≡ doubled d modulus a
  unfolding horner doubled
  times_two a ha hd =
      times_is a 2 ha
      ∙ ap (λ (n : ℕ). horner d modulus n a 2) (omega arith)
      ∙ horner_short 2 (d - 2) a 2 (lit< tt)
      ∙ ap₂ (λ (x y : ℕ). bit_xor x (reduced d modulus (y * 2))) (zero-mul a)
      (ap₂ bit_xor (one-mul a) (reduced_low 0 (pow_pos d)) ∙ xor_zero_r a)

  -- the product is linear in its second factor
  doubled_xor : (x y : ℕ) → x < 2 ^ d → y < 2 ^ d → doubled d modulus (bit_xor x y) ≡ bit_xor (doubled d modulus x) (doubled d modulus y)
  unfolding doubled
  doubled_xor x y hx hy =
      ap (reduced d modulus)
      (sym (add-zero (bit_xor x y * 2)) ∙ sym (xor_block 1 x y 0 0 (lit< tt) (lit< tt)) ∙ ap₂ bit_xor (add-zero (x * 2)) (add-zero (y * 2)))
      ∙ reduced_xor (x * 2) (y * 2) (omega arith) (omega arith)

  horner_xor : (n a b c : ℕ) → a < 2 ^ d
      → horner d modulus n a (bit_xor b c) ≡ bit_xor (horner d modulus n a b) (horner d modulus n a c)
  unfolding horner
  horner_xor zero a b c ha = refl
  horner_xor (suc n) a b c ha =
      let x : ℕ = horner d modulus n a (b / 2) in
      let y : ℕ = horner d modulus n a (c / 2) in
      ap₂ bit_xor
      (ap (λ (v : ℕ). v * a) (xor_mod b c 1) ∙ digit_xor (b % 2) (c % 2) a (omega arith) (omega arith))
      (ap (doubled d modulus) (ap (horner d modulus n a) (xor_shr b c 1) ∙ horner_xor n a (b / 2) (c / 2) ha)
      ∙ doubled_xor x y (horner_lt n a (b / 2) ha) (horner_lt n a (c / 2) ha))
      ∙ xor_swap (b % 2 * a) (c % 2 * a) (doubled d modulus x) (doubled d modulus y)

  pub times_xor : (a b c : ℕ) → a < 2 ^ d → times d modulus a (bit_xor b c) ≡ bit_xor (times d modulus a b) (times d modulus a c)
  times_xor a b c ha =
      times_is a (bit_xor b c) ha ∙ horner_xor d a b c ha ∙ sym (ap₂ bit_xor (times_is a b ha) (times_is a c ha))

  -- a product with 0
  pub times_zero : (a : ℕ) → a < 2 ^ d → times d modulus a 0 ≡ 0
  times_zero a ha = times_is a 0 ha ∙ horner_none d a
