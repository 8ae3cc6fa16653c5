-- Pieces of one width laid end to end: where each stands, and what writing one anew gives.
use Rattle.std.proofs.Common.{◌≡◌, ℕ, zero, suc, ◌+◌, ◌*◌, ◌<◌, List, [], ◌∷◌, ◌++◌, length, get_or, take, drop, set, ap, ◌∙◌, mul-zero, zero-add, mul-suc, arith}
use lib.Seq.{take-append-add, drop-append-add}
use Rattle.std.specs.List.{flat_map}
use Rattle.std.proofs.lemmas.List.{append_assoc, length-take-le, drop_at}
use Rattle.std.proofs.lemmas.List.Concat.{get_or-flat_map}
use Rattle.slices.proofs.Widths.{length-joined}

module _ {X : Type 0} (f : X → List ℕ) (k : ℕ) (wide : (x : X) → length (f x) ≡ k) where
  -- the place of the next piece, by the width of this one
  next : (x : X) (w i : ℕ) → k * suc w + i ≡ length (f x) + (k * w + i)
  next x w i = let step = mul-suc k w in omega (arith, wide x)

  -- What stands in piece w.
  pub chunk_at : (xs : List X) (w i : ℕ) (d : ℕ) (e : X) → w < length xs → i < k
      → get_or (flat_map f xs) (k * w + i) d ≡ get_or (f (get_or xs w e)) i d
  chunk_at xs w i d e below inside =
      let start : length (flat_map f (take w xs)) ≡ k * w = length-joined f k wide (take w xs) ∙ ap (λ n. k * n) (length-take-le w xs (omega arith)) in
      let room : i < length (f (get_or xs w e)) = omega (arith, wide (get_or xs w e)) in
      rw (← start) (get_or-flat_map f xs w i e d below room)

  -- Piece w written anew.
  pub chunk_put : (xs : List X) (w : ℕ) (y : X) → w < length xs
      → take (k * w) (flat_map f xs) ++ (f y ++ drop (k * w + k) (flat_map f xs)) ≡ flat_map f (set xs w y)
  chunk_put [] w y below = absurd (omega arith)
  chunk_put (x ∷ xs) zero y below = rw (mul-zero k, zero-add) (ap (λ r. f y ++ r) (drop_at (f x) (flat_map f xs) k (wide x)))
  chunk_put (x ∷ xs) (suc w) y below =
      let start : k * suc w ≡ length (f x) + k * w = (let step = mul-suc k w in omega (arith, wide x)) in
      let end : k * suc w + k ≡ length (f x) + (k * w + k) = next x w k in
      rw (end, start, take-append-add, drop-append-add, append_assoc) (ap (λ r. f x ++ r) (chunk_put xs w y (omega arith)))
