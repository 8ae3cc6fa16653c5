-- What a text writes, after the bytes that were read of it already.
use Rattle.std.proofs.Common.{◌≡◌, ℕ, ◌+◌, ◌-◌, ◌*◌, ◌≤◌, List, [], ◌∷◌, ◌++◌, length, get_or, take, drop, Some, None, Option, sym, refl, ap, ◌∙◌, append_assoc, arith}
use Rattle.std.proofs.lemmas.List.{take_all}
use Rattle.hexadecimal.specs.Digits.{in_front, bytes_of, digit_of}

abbrev pub after : List ℕ → Option (List ℕ) → Option (List ℕ)
after done (Some rest) = Some (done ++ rest)
after done None = None

-- One byte is read.
one_byte : (done : List ℕ) (high low : ℕ) (rest : Option (List ℕ))
    → after (done ++ ((16 * high + low) ∷ [])) rest ≡ after done (in_front (Some high) (Some low) rest)
one_byte done high low None = refl
one_byte done high low (Some rest) = ap Some (append_assoc done _ rest)

-- Two digits come off the front of what is left of the text.
pub two_digits : (done done' rest : List ℕ) (high low : ℕ) → 2 ≤ length rest
    → digit_of (get_or rest 0 0) ≡ Some high → digit_of (get_or rest 1 0) ≡ Some low → done' ≡ done ++ ((16 * high + low) ∷ [])
    → after done' (bytes_of (take (length rest - 2) (drop 2 rest))) ≡ after done (bytes_of rest)
two_digits done done' [] high low long h l more = absurd (omega arith)
two_digits done done' (a ∷ []) high low long h l more = absurd (omega arith)
two_digits done done' (a ∷ b ∷ rest) high low long h l more =
    (λ i. after (more i) (bytes_of (take_all (length (a ∷ b ∷ rest) - 2) rest (omega arith) i)))
    ∙ one_byte done high low (bytes_of rest) ∙ (λ i. after done (in_front (sym h i) (sym l i) (bytes_of rest)))
