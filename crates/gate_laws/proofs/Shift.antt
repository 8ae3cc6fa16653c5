-- The three answers that the server does not meet, moved so that the last three numbers of a gate stay.
use Rattle.std.proofs.Common.{◌≡◌, Bool, true, false, cond, List, [], ◌∷◌, refl}
use Rattle.label.specs.Sums.{Group, Laws, ◌⊻◌}
use Rattle.label.proofs.Solve.{Exp, exps, var, add, eval, solve}
use Rattle.gate.specs.Numbers.{Six, mixed}
use Rattle.gate.specs.Sums.{Three, last_three}
use Rattle.gate_laws.specs.GateLaw.{met}
use Rattle.gate_laws.proofs.Variables.{same, answers, four, six_then, four_then}

-- Of each row the answer that is not met at colours i and j gets something added.
abbrev pub moved : (X : Group) → Bool → Bool → Three X.El → Six X.El → Six X.El
moved X i j δ w = record {
  a0 = cond i (X.◌⊕◌ w.a0 δ.a) w.a0;
  a1 = cond i w.a1 (X.◌⊕◌ w.a1 δ.a);
  b0 = cond j (X.◌⊕◌ w.b0 δ.b) w.b0;
  b1 = cond j w.b1 (X.◌⊕◌ w.b1 δ.b);
  s0 = cond (i ⊻ j) (X.◌⊕◌ w.s0 δ.s) w.s0;
  s1 = cond (i ⊻ j) w.s1 (X.◌⊕◌ w.s1 δ.s);
}

abbrev no_answers : (X : Group) → Six X.El
no_answers X = record { a0 = X.o; a1 = X.o; b0 = X.o; b1 = X.o; s0 = X.o; s1 = X.o }

-- By how much the last three numbers differ, where K and M are added to the answers and where K' and M' are.
abbrev pub gap : (X : Group) → (K M K' M' : Bool → Bool → X.El) → Three X.El
gap X K M K' M' =
    let n : Three X.El = last_three (mixed X (no_answers X) K M) in
    let n' : Three X.El = last_three (mixed X (no_answers X) K' M') in
    record { a = X.◌⊕◌ n.a n'.a; b = X.◌⊕◌ n.b n'.b; s = X.◌⊕◌ n.s n'.s }

-- The last three numbers after the move and before it: K, M, K' and M' are variables 6 to 21.
abbrev after : Bool → Bool → Three Exp
after i j = last_three (mixed exps (moved exps i j (gap exps (four 6) (four 10) (four 14) (four 18)) answers) (four 14) (four 18))

abbrev before : Three Exp
before = last_three (mixed exps answers (four 6) (four 10))

numbers_same : (i j : Bool) → (same (after i j).a before.a ≡ true) × (same (after i j).b before.b ≡ true) × (same (after i j).s before.s ≡ true)
numbers_same true true = (refl, refl, refl)
numbers_same true false = (refl, refl, refl)
numbers_same false true = (refl, refl, refl)
numbers_same false false = (refl, refl, refl)

module _ (X : Group) (L : Laws X) where
  abbrev values : (w : Six X.El) (K M K' M' : Bool → Bool → X.El) → List X.El
  values w K M K' M' = six_then w (four_then K (four_then M (four_then K' (four_then M' []))))

  abbrev three_at : List X.El → Three Exp → Three X.El
  three_at ρ e = record { a = eval X ρ e.a; b = eval X ρ e.b; s = eval X ρ e.s }

  kept_at : (i j : Bool) (ρ : List X.El) → three_at ρ (after i j) ≡ three_at ρ before
  kept_at i j ρ =
      let h = numbers_same i j in
      λ k. record {
        a = solve X L ρ (after i j).a before.a h.0 k;
        b = solve X L ρ (after i j).b before.b h.1 k;
        s = solve X L ρ (after i j).s before.s h.2 k;
      }

  -- Moved by the gap, the answers give under K' and M' the last three numbers that they gave under K and M.
  pub numbers_kept : (i j : Bool) (w : Six X.El) (K M K' M' : Bool → Bool → X.El)
      → last_three (mixed X (moved X i j (gap X K M K' M') w) K' M') ≡ last_three (mixed X w K M)
  numbers_kept true true w K M K' M' = kept_at true true (values w K M K' M')
  numbers_kept true false w K M K' M' = kept_at true false (values w K M K' M')
  numbers_kept false true w K M K' M' = kept_at false true (values w K M K' M')
  numbers_kept false false w K M K' M' = kept_at false false (values w K M K' M')

  -- The gap is the same the other way.
  pub gap_back : (K M K' M' : Bool → Bool → X.El) → gap X K' M' K M ≡ gap X K M K' M'
  gap_back K M K' M' =
      let n : Three X.El = last_three (mixed X (no_answers X) K M) in
      let n' : Three X.El = last_three (mixed X (no_answers X) K' M') in
      λ k. record { a = L.comm n'.a n.a k; b = L.comm n'.b n.b k; s = L.comm n'.s n.s k }

  twice : (a d : X.El) → X.◌⊕◌ (X.◌⊕◌ a d) d ≡ a
  twice a d = solve X L (a ∷ d ∷ []) (add (add (var 0) (var 1)) (var 1)) (var 0) refl

  -- Moved twice, each answer is back.
  pub moved_twice : (i j : Bool) (δ : Three X.El) (w : Six X.El) → moved X i j δ (moved X i j δ w) ≡ w
  moved_twice true true δ w = λ k. record { a0 = twice w.a0 δ.a k; a1 = w.a1; b0 = twice w.b0 δ.b k; b1 = w.b1; s0 = w.s0; s1 = twice w.s1 δ.s k }
  moved_twice true false δ w = λ k. record { a0 = twice w.a0 δ.a k; a1 = w.a1; b0 = w.b0; b1 = twice w.b1 δ.b k; s0 = twice w.s0 δ.s k; s1 = w.s1 }
  moved_twice false true δ w = λ k. record { a0 = w.a0; a1 = twice w.a1 δ.a k; b0 = twice w.b0 δ.b k; b1 = w.b1; s0 = twice w.s0 δ.s k; s1 = w.s1 }
  moved_twice false false δ w = λ k. record { a0 = w.a0; a1 = twice w.a1 δ.a k; b0 = w.b0; b1 = twice w.b1 δ.b k; s0 = w.s0; s1 = twice w.s1 δ.s k }

-- What is met is not moved.
pub met_kept : (X : Group) (i j : Bool) (δ : Three X.El) (w : Six X.El) → met (moved X i j δ w) i j ≡ met w i j
met_kept X true true δ w = refl
met_kept X true false δ w = refl
met_kept X false true δ w = refl
met_kept X false false δ w = refl
