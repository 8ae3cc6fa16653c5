-- The fields GF(2^d). A polynomial over GF(2) is a number whose bit i is the coefficient of x^i; a field's product is
-- the polynomials' product, reduced modulo a polynomial of degree d.
use Rattle.std.specs.Prelude.{ℕ, zero, suc, ◌+◌, ◌*◌, ◌/◌, ◌%◌, ◌^◌, cond, bit_xor, nat_lt}

-- the product of a and b, of which the n low coefficients count: b's lowest times a, plus x times a's product with the rest
unfoldable pub product : ℕ → ℕ → ℕ → ℕ
product zero a b = 0
product (suc n) a b = bit_xor (b % 2 * a) (product n a (b / 2) * 2)

-- p, of degree at most d, less m where p has degree d
unfoldable pub reduced : ℕ → ℕ → ℕ → ℕ
reduced d m p = cond (nat_lt p (2 ^ d)) p (bit_xor p m)

-- the remainder of p, which has n coefficients, by m, of degree d: long division, which brings down one coefficient of p after the
-- other, the highest first
unfoldable pub remainder : ℕ → ℕ → ℕ → ℕ → ℕ
remainder d m zero p = 0
remainder d m (suc n) p = reduced d m (remainder d m n (p / 2) * 2 + p % 2)

-- the product of a and b in GF(2^d), modulo m
unfoldable pub times : ℕ → ℕ → ℕ → ℕ → ℕ
times d m a b = remainder d m (d + d) (product d a b)
