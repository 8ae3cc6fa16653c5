-- Steps of the loops that look for the lowest wire that a test picks.
use Rattle.std.proofs.Common.{◌≡◌, ℕ, zero, suc, ◌+◌, ◌-◌, ◌<◌, Bool, true, false, cond, Some, None, sym, refl, ap, ◌∙◌, subst, add-zero, add-suc, add-one, arith}
use Rattle.circuit.specs.Check.{Fault, or_else}
use Rattle.server.specs.Lowest.{lowest_where}

pub lowest_start : (k : ℕ) (p : ℕ → Bool) → lowest_where k p 0 ≡ None
unfolding lowest_where
lowest_start k p = refl

lowest_more : (k : ℕ) (p : ℕ → Bool) (w : ℕ) → lowest_where k p (w + 1) ≡ or_else (lowest_where k p w) (cond (p w) (Some (k, w)) None)
unfolding lowest_where
lowest_more k p w = rw add-one

-- Where neither a lower wire nor this one is picked, none so far is.
pub lowest_passed : (k : ℕ) (p : ℕ → Bool) (w : ℕ) → lowest_where k p w ≡ None → p w ≡ false → lowest_where k p (w + 1) ≡ None
lowest_passed k p w none passed =
    lowest_more k p w ∙ (λ i. or_else (none i) (cond (passed i) (Some (k, w)) None))

-- A fault that is found stays, however many wires follow.
lowest_stays : (k : ℕ) (p : ℕ → Bool) (w n : ℕ) (f : Fault) → lowest_where k p w ≡ Some f → lowest_where k p (w + n) ≡ Some f
unfolding lowest_where
lowest_stays k p w zero f found = rw add-zero found
lowest_stays k p w (suc n) f found =
    rw add-suc (ap (λ g. or_else g (cond (p (w + n)) (Some (k, w + n)) None)) (lowest_stays k p w n f found))

-- The first wire that is picked is the lowest of all; it is told as a number t.
pub lowest_found : (k : ℕ) (p : ℕ → Bool) (w n t : ℕ) → w < n → lowest_where k p w ≡ None → p w ≡ true → t ≡ w
    → lowest_where k p n ≡ Some (k, t)
lowest_found k p w n t below none picked told =
    let whole : (w + 1) + (n - (w + 1)) ≡ n = omega arith in
    let here : lowest_where k p (w + 1) ≡ Some (k, w) =
    lowest_more k p w ∙ (λ i. or_else (none i) (cond (picked i) (Some (k, w)) None)) in
    subst (λ m. lowest_where k p m ≡ Some (k, w)) whole (lowest_stays k p (w + 1) (n - (w + 1)) (k, w) here)
    ∙ (λ i. Some (k, sym told i))

-- Tests that agree below n pick one wire.
pub lowest_same : (k : ℕ) (p r : ℕ → Bool) (n : ℕ) → ((w : ℕ) → w < n → p w ≡ r w) → lowest_where k p n ≡ lowest_where k r n
unfolding lowest_where
lowest_same k p r zero alike = refl
lowest_same k p r (suc n) alike =
    λ i. or_else (lowest_same k p r n (λ w below. alike w (omega arith)) i) (cond (alike n (omega arith) i) (Some (k, n)) None)
