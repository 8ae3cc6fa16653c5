-- Words of 32 bits, as numbers: the operations of RFC 8439, 2.1.
use Rattle.std.specs.Prelude.{ℕ, ◌+◌, ◌-◌, ◌*◌, ◌/◌, ◌%◌, ◌^◌, bit_or}

-- a + b, addition modulo 2^32.
abbrev pub plus : ℕ → ℕ → ℕ
plus a b = (a + b) % 2 ^ 32

-- a <<< n, the left roll by n bits, towards the high bits.
unfoldable pub roll : ℕ → ℕ → ℕ
roll a n = bit_or (a * 2 ^ n % 2 ^ 32) (a / 2 ^ (32 - n))
