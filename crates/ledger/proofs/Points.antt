-- A list made from a function of the place: how it is read, and what changing one place gives.
use Rattle.std.proofs.Common.{◌≡◌, ℕ, ◌<◌, ◌≢◌, ◌⊎◌, map, length, get_or, set, sym, ◌∙◌, inl, inr, zero-add, arith}
use Rattle.std.specs.List.{range_with_len}
use Rattle.std.proofs.lemmas.List.FromFn.{length-map-range_with_len, get_or-map-range_with_len, fill_by_all}
use Rattle.std.proofs.lemmas.List.{length-set, get_or-set_same, get_or-set_other}
use Rattle.std.proofs.lemmas.Bool.{cases_eq}

module _ {X : Type 0} where
  pub point_at : (f : ℕ → X) (n w : ℕ) (d : X) → w < n → get_or (map f (range_with_len 0 n)) w d ≡ f w
  point_at f n w d below = get_or-map-range_with_len f 0 n w w d below (zero-add w)

  pub point_put : (f g : ℕ → X) (n w : ℕ) (x : X) → w < n → g w ≡ x → ((v : ℕ) → v ≢ w → g v ≡ f v)
      → set (map f (range_with_len 0 n)) w x ≡ map g (range_with_len 0 n)
  point_put f g n w x below here other =
      fill_by_all g (set (map f (range_with_len 0 n)) w x) n x (length-set (map f (range_with_len 0 n)) w x ∙ length-map-range_with_len f 0 n) (λ k h. read k h (cases_eq k w))
    where
      read : (k : ℕ) → k < n → (k ≡ w) ⊎ (k ≢ w) → get_or (set (map f (range_with_len 0 n)) w x) k x ≡ g k
      read k h (inl same) =
          let inside : w < length (map f (range_with_len 0 n)) = omega (arith, length-map-range_with_len f 0 n) in
          rw same (get_or-set_same (map f (range_with_len 0 n)) w x x inside ∙ sym here)
      read k h (inr apart) = get_or-set_other (map f (range_with_len 0 n)) w k x x apart ∙ point_at f n k x h ∙ sym (other k apart)
