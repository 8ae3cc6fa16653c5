-- What a hexadecimal text writes.
use Rattle.std.specs.Prelude.{ℕ, ◌+◌, ◌-◌, ◌*◌, cond, ◌&&◌, List, [], ◌∷◌, Some, None, Option, nat_le}

-- The characters 0 to 9 are 48 to 57, and a to f are 97 to 102.
abbrev pub digit_of : ℕ → Option ℕ
digit_of c = cond (nat_le 48 c && nat_le c 57) (Some (c - 48)) (cond (nat_le 97 c && nat_le c 102) (Some (c - 97 + 10)) None)

-- A byte of two digits in front of others.
abbrev pub in_front : Option ℕ → Option ℕ → Option (List ℕ) → Option (List ℕ)
in_front (Some high) (Some low) (Some rest) = Some ((16 * high + low) ∷ rest)
in_front (Some high) (Some low) None = None
in_front (Some high) None rest = None
in_front None low rest = None

-- The bytes of a text: two digits each.
abbrev pub bytes_of : List ℕ → Option (List ℕ)
bytes_of [] = Some []
bytes_of (a ∷ []) = None
bytes_of (a ∷ (b ∷ rest)) = in_front (digit_of a) (digit_of b) (bytes_of rest)
