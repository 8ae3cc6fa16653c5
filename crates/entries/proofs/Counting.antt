-- How many wires a test picks: the same for tests that agree, one more where one wire more is picked.
use Rattle.std.proofs.Common.{◌≡◌, ℕ, zero, suc, ◌+◌, ◌<◌, ◌≤◌, Bool, true, false, ◌≢◌, ◌⊎◌, length, refl, ap, ◌∙◌, subst, inl, inr, add-zero, add-one, arith}
use Rattle.std.proofs.lemmas.Bool.{cases_eq}
use Rattle.wires.specs.Wires.{number, wires_where}
use Rattle.wires.proofs.Scans.{count_more}

-- one wire more, at the successor
more : (p : ℕ → Bool) (n : ℕ) → length (wires_where p (suc n)) ≡ length (wires_where p n) + number (p n)
more p n = subst (λ k. length (wires_where p k) ≡ length (wires_where p n) + number (p n)) (add-one n) (count_more p n)

pub count_same : (p q : ℕ → Bool) (n : ℕ) → ((v : ℕ) → v < n → p v ≡ q v) → length (wires_where p n) ≡ length (wires_where q n)
unfolding wires_where
count_same p q zero same = refl
count_same p q (suc n) same =
    let here : number (p n) ≡ number (q n) = ap number (same n (omega arith)) in
    let below = count_same p q n (λ v h. same v (omega arith)) in
    omega (arith, more p n, more q n, here, below)

pub count_flip : (p q : ℕ → Bool) (n w : ℕ) → w < n → p w ≡ false → q w ≡ true → ((v : ℕ) → v ≢ w → q v ≡ p v)
    → length (wires_where q n) ≡ length (wires_where p n) + 1
count_flip p q zero w below off on other = absurd (omega arith)
count_flip p q (suc n) w below off on other = by_place (cases_eq n w) (λ h. count_flip p q n w h off on other)
  where
    by_place : (n ≡ w) ⊎ (n ≢ w) → (w < n → length (wires_where q n) ≡ length (wires_where p n) + 1)
        → length (wires_where q (suc n)) ≡ length (wires_where p (suc n)) + 1
    by_place (inl same) earlier =
        let before = count_same q p n (λ v h. other v (omega arith)) in
        let none : number (p n) ≡ 0 = ap number (ap p same ∙ off) in
        let one : number (q n) ≡ 1 = ap number (ap q same ∙ on) in
        omega (arith, more p n, more q n, before, none, one)
    by_place (inr apart) earlier =
        let before = earlier (omega arith) in
        let here : number (q n) ≡ number (p n) = ap number (other n apart) in
        omega (arith, more p n, more q n, before, here)

-- What picks nothing from m on counts as far as m.
pub count_only : (p : ℕ → Bool) (m k : ℕ) → ((v : ℕ) → m ≤ v → p v ≡ false) → length (wires_where p (m + k)) ≡ length (wires_where p m)
count_only p m zero past = ap (λ n. length (wires_where p n)) (add-zero m)
count_only p m (suc k) past =
    let next : m + suc k ≡ suc (m + k) = omega arith in
    let none : number (p (m + k)) ≡ 0 = ap number (past (m + k) (omega arith)) in
    let before = count_only p m k past in
    ap (λ n. length (wires_where p n)) next ∙ omega (arith, more p (m + k), none, before)
