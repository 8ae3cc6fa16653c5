-- The part of a finite type where a decided fact holds is finite: its elements are numbered in their order.
use Rattle.std.proofs.Common.{◌≡◌, ℕ, zero, suc, ◌+◌, ◌<◌, ◌≤◌, sym, refl, ap, subst, arith}
use mathlib.Core.Equiv.{Iso}
use mathlib.Core.HLevel.{Σ_prop_path, is_prop→PathP}
use native.Mathlib.Bridge.{le_prop}
use native.Mathlib.Decide.{dec_lt}
use Rattle.gate_laws.proofs.Finite.{Under, Finite, under_path, finite_by}

module _ (P : ℕ → Type 0) (prop : (k : ℕ) → IsProp (P k)) (dec : (k : ℕ) → Dec (P k)) where
  abbrev one_if : {Q : Type 0} → Dec Q → ℕ
  one_if (yes p) = 1
  one_if (no n) = 0

  -- The rank of k: how many numbers below k have P.
  rank : ℕ → ℕ
  rank zero = 0
  rank (suc k) = rank k + one_if (dec k)

  rank_rises : (k n : ℕ) → k ≤ n → rank k ≤ rank n
  unfolding rank
  rank_rises k zero h = let e : k ≡ 0 = omega arith in subst (λ (z : ℕ). rank z ≤ 0) (sym e) (omega arith)
  rank_rises k (suc n) h = elim (dec_lt k (suc n)) [
    | yes l ↦ (let r : rank k ≤ rank n = rank_rises k n (omega arith) in omega arith)
    | no g ↦ (let e : k ≡ suc n = omega arith in subst (λ (z : ℕ). rank z ≤ rank n + one_if (dec n)) (sym e) (omega arith))
  ]

  counts_one : (k : ℕ) → P k → (d : Dec (P k)) → one_if d ≡ 1
  counts_one k p (yes q) = refl
  counts_one k p (no n) = absurd (n p)

  -- Past a number with P the rank is higher.
  rank_above : (k n : ℕ) → P k → k < n → rank k < rank n
  unfolding rank
  rank_above k n p h =
      let a : rank (suc k) ≤ rank n = rank_rises (suc k) n h in
      let b : one_if (dec k) ≡ 1 = counts_one k p (dec k) in
      omega arith

  -- So no two numbers with P have one rank.
  rank_apart : (k j : ℕ) → P k → P j → rank k ≡ rank j → k ≡ j
  rank_apart k j p q e = elim (dec_lt k j) [
    | yes l ↦ absurd (let a : rank k < rank j = rank_above k j p l in omega arith)
    | no g ↦ elim (dec_lt j k) [
      | yes l ↦ absurd (let a : rank j < rank k = rank_above j k q l in omega arith)
      | no g' ↦ omega arith
    ]
  ]

  -- And each rank below that of n is that of a number with P below n.
  of_rank : (n j : ℕ) → j < rank n → (k : ℕ) × (k < n) × P k × (rank k ≡ j)
  unfolding rank
  of_rank zero j h = absurd (omega arith)
  of_rank (suc n) j h = elim (dec_lt j (rank n)) [
    | yes l ↦ (let r = of_rank n j l in (r.0, (let a = r.1 in omega arith), r.2, r.3))
    | no g ↦ last (dec n) h g
  ]
    where
      last : (d : Dec (P n)) → j < rank n + one_if d → ¬ (j < rank n) → (k : ℕ) × (k < suc n) × P k × (rank k ≡ j)
      last (yes p) h g = (n, omega arith, p, omega arith)
      last (no m) h g = absurd (omega arith)

  part_path : (n : ℕ) (a b : (k : ℕ) × (k < n) × P k) → a.0 ≡ b.0 → a ≡ b
  part_path n a b e = λ i. (
    e i,
    is_prop→PathP (λ i. e i < n) (λ i. le_prop {n = suc (e i)} {m = n}) a.1 b.1 i,
    is_prop→PathP (λ i. P (e i)) (λ i. prop (e i)) a.2 b.2 i,
  )

  -- The numbers below n with P, numbered by their ranks.
  finite_below : (n : ℕ) → Finite ((k : ℕ) × (k < n) × P k)
  finite_below n = (
    rank n,
    record {
      fun = λ t. (rank t.0, rank_above t.0 n t.2 t.1);
      inv = λ j. (let r = of_rank n j.0 j.1 in (r.0, r.1, r.2));
      rinv = λ j. under_path (rank n) _ j (of_rank n j.0 j.1).3;
      linv = λ t.
          let r = of_rank n (rank t.0) (rank_above t.0 n t.2 t.1) in
          part_path n (r.0, r.1, r.2) t (rank_apart r.0 t.0 r.2 t.2 r.3);
    },
  )

pub finite_part : {A : Type 0} → Finite A → (Q : A → Type 0) → ((a : A) → IsProp (Q a)) → ((a : A) → Dec (Q a)) → Finite ((a : A) × Q a)
finite_part {A = A} F Q prop dec = finite_by numbered (finite_below P P_prop P_dec F.0)
  where
    -- The element numbered k has Q.
    P : ℕ → Type 0
    P k = (h : k < F.0) × Q (F.1.inv (k, h))

    P_prop : (k : ℕ) → IsProp (P k)
    P_prop k = λ p q. Σ_prop_path (λ (h : k < F.0). prop (F.1.inv (k, h))) (le_prop p.0 q.0)

    P_dec : (k : ℕ) → Dec (P k)
    P_dec k = elim (dec_lt k F.0) [
      | yes h ↦ elim (dec (F.1.inv (k, h))) [
        | yes q ↦ yes (h, q)
        | no n ↦ no (λ p. n (subst (λ (g : k < F.0). Q (F.1.inv (k, g))) (le_prop p.0 h) p.1))
      ]
      | no n ↦ no (λ p. n p.0)
    ]

    numbered : Iso ((a : A) × Q a) ((k : ℕ) × (k < F.0) × P k)
    numbered = record {
      fun = λ t. (let u : Under F.0 = F.1.fun t.0 in (u.0, u.1, (u.1, subst Q (sym (F.1.linv t.0)) t.1)));
      inv = λ s. (F.1.inv (s.0, s.2.0), s.2.1);
      rinv = λ s. part_path P P_prop P_dec F.0 _ s (ap (λ (u : Under F.0). u.0) (F.1.rinv (s.0, s.2.0)));
      linv = λ t. Σ_prop_path prop (F.1.linv t.0);
    }
