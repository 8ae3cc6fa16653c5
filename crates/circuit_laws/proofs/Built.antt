-- A list that is built place by place, each element from those before it: its length, and what stands at each place.
use Rattle.std.proofs.Common.{◌≡◌, ℕ, zero, suc, ◌+◌, ◌<◌, List, [], ◌∷◌, ◌++◌, length, get_or, sym, ap, ◌∙◌, inl, inr, add-one, arith}
use Rattle.std.proofs.lemmas.List.{length_push, get_or_append_left, get_or_push}
use Rattle.std.proofs.lemmas.Bool.{cases_lt}

module _ {X : Type 0} (build : ℕ → List X) (next : List X → ℕ → X) (none : build 0 ≡ [])
    (more : (w : ℕ) → build (suc w) ≡ build w ++ (next (build w) w ∷ [])) where
  pub built_length : (n : ℕ) → length (build n) ≡ n
  built_length zero = ap length none
  built_length (suc n) = ap length (more n) ∙ length_push (build n) (next (build n) n) ∙ ap (λ (k : ℕ). k + 1) (built_length n) ∙ add-one n

  -- What stands at place w was made from what stands before it.
  pub built_at : (n w : ℕ) (z : X) → w < n → get_or (build n) w z ≡ next (build w) w
  built_at zero w z below = absurd (omega arith)
  built_at (suc n) w z below = elim (cases_lt w n) [
    | inl lower ↦ ap (λ (l : List X). get_or l w z) (more n) ∙ get_or_append_left (build n) _ z w (rw (built_length n) lower) ∙ built_at n w z lower
    | inr here ↦
        let same : n ≡ w = omega arith in
        ap (λ (l : List X). get_or l w z) (more n) ∙ get_or_push (build n) _ z w (built_length n ∙ same) ∙ ap (λ (k : ℕ). next (build k) k) same
  ]

  -- What stands at a place stays there.
  pub built_stays : (n k w : ℕ) (z : X) → w < n → w < k → get_or (build n) w z ≡ get_or (build k) w z
  built_stays n k w z below below' = built_at n w z below ∙ sym (built_at k w z below')
