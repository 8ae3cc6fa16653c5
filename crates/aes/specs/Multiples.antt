-- The table of a number's multiples in GF(2^64) from which its product with a tweak is added up.
use Rattle.std.specs.Prelude.{ℕ, ◌*◌, ◌/◌, ◌%◌, ◌^◌, List, map}
use Rattle.std.specs.List.{range_with_len}
use Rattle.aes.specs.Hash.{times64}

-- entry k, for the tweak's four coefficients from 4·(k / 16) on: a times the polynomial that has k % 16 for these and no other
unfoldable pub multiple : ℕ → ℕ → ℕ
multiple a k = times64 a (k % 16 * 2 ^ (4 * (k / 16)))

-- the table of 128 entries
unfoldable pub multiples : ℕ → List ℕ
multiples a = map (multiple a) (range_with_len 0 128)
