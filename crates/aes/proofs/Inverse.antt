-- The inverse of FIPS 197's field is one: its product with each number but 0 is 1, by one computation over all of them.
use Rattle.std.proofs.Common.{◌≡◌, ℕ, ◌-◌, ◌<◌, List, map, get_or, replicate, sym, refl, ap, ◌∙◌, arith}
use Rattle.std.specs.List.{range_with_len}
use Rattle.std.proofs.lemmas.List.FromFn.{get_or-map-range_with_len}
use Rattle.std.proofs.lemmas.Simd.{get_or-replicate}
use Rattle.aes.specs.Field.{product, reduced, remainder, times}
use Rattle.aes.specs.Fips197.{◌•◌, powered, inverse}

all_inverse : map (λ x. x • inverse x) (range_with_len 1 255) ≡ replicate 255 1
unfolding product reduced remainder times ◌•◌ powered inverse
all_inverse = refl

pub inverts : (x : ℕ) → 0 < x → x < 256 → x • inverse x ≡ 1
inverts x above below =
    sym (get_or-map-range_with_len (λ y. y • inverse y) 1 255 (x - 1) x 0 (omega arith) (omega arith))
    ∙ ap (λ (l : List ℕ). get_or l (x - 1) 0) all_inverse
    ∙ get_or-replicate 255 (x - 1) 1 0 (omega arith)
