-- A view's value by the basis of views, and the compressed controls by what each bit adds: at all bits, and so for every group.
use Rattle.std.proofs.Common.{◌≡◌, Bool, true, List, [], ◌∷◌, refl}
use Rattle.label.specs.Sums.{Group, Laws}
use Rattle.label.proofs.Solve.{Exp, exps, var, add}
use Rattle.label.proofs.Every.{every, every_at}
use Rattle.gate.specs.declared.views.Parity.{Parity}
use Rattle.gate.specs.declared.views.Parity.TheVariants.{Even, Odd, Hidden}
use Rattle.gate.specs.declared.views.Truth.{Truth}
use Rattle.gate.specs.declared.views.Dice.{Dice}
use Rattle.gate.specs.declared.views.View.{View}
use Rattle.gate.specs.Views.{a_of, b_of, parity_of, if_hidden, view_at}
use Rattle.gate.specs.Numbers.{five, listed}
use Rattle.gate.specs.Sums.{view_left, view_right, coded_left, coded_right}
use Rattle.gate_laws.specs.Matrices.{S1, S2, S3, S4, by_a, by_b, by_parity, by_rho1, by_rho2, added, times, scaled, spread, ViewsByBasis, ControlsCompressed}
use Rattle.gate_laws.proofs.Matrices.{same_entries, solve_entries}

-- A view's value on labels of variables 0 to 3, and by the basis.
abbrev value : View → List Exp
value v = view_left exps v (var 0, var 1) (var 2, var 3) ∷ view_right exps v (var 0, var 1) (var 2, var 3) ∷ []

abbrev by_basis : View → List Exp
by_basis v =
    let halves : List Exp = var 0 ∷ var 1 ∷ var 2 ∷ var 3 ∷ [] in
    added add
    (added add (scaled exps v.alpha (times exps S1 halves)) (scaled exps v.beta (times exps S2 halves)))
    (added add (scaled exps v.gamma (times exps S3 halves)) (scaled exps v.epsilon (times exps S4 halves)))

view_test : Bool → Bool → Bool → Bool → Bool
view_test a b g e =
    let v : View = record { alpha = a; beta = b; gamma = g; epsilon = e } in same_entries (value v) (by_basis v)

view_tests : every (λ a. every (λ b. every (λ g. every (λ e. view_test a b g e)))) ≡ true
unfolding every view_test
view_tests = refl

-- The controls with the low bit as variable 0 and the high bit as variable 1, and by what each bit adds.
abbrev compressed : Parity → Truth → Dice → List Exp
compressed c t d =
    listed (five exps (λ i j. coded_left exps (var 0) (var 1) c (view_at c t d i j)) (λ i j. coded_right exps (var 0) (var 1) c (view_at c t d i j)))

abbrev by_bits : Parity → Truth → Dice → List Exp
by_bits c t d =
    added add
    (added add
    (added add (spread exps by_rho1 d.rho1 (var 0)) (spread exps by_rho2 d.rho2 (var 0)))
    (added add (spread exps by_a (a_of c t d) (var 0)) (spread exps by_b (b_of c t d) (var 0))))
    (added add
    (added add (spread exps by_rho1 (if_hidden c d.gamma0) (var 1)) (spread exps by_rho2 (if_hidden c d.epsilon0) (var 1)))
    (spread exps by_parity (if_hidden c (parity_of t)) (var 1)))

control_test : Parity → Truth → Dice → Bool
control_test c t d = same_entries (compressed c t d) (by_bits c t d)

abbrev all_controls : Parity → Bool
all_controls c =
    every (λ a. every (λ b. every (λ e. every (λ f. every (λ r. every (λ s. every (λ g. every (λ h.
    control_test c (record { t00 = a; t01 = b; t10 = e; t11 = f }) (record { rho1 = r; rho2 = s; gamma0 = g; epsilon0 = h })))))))))

control_tests : (c : Parity) → all_controls c ≡ true
unfolding every control_test
control_tests Even = refl
control_tests Odd = refl
control_tests Hidden = refl

module _ (X : Group) (Law : Laws X) where
  pub views_by_basis : ViewsByBasis X
  unfolding view_test
  views_by_basis v x y =
      solve_entries X Law (x.0 ∷ x.1 ∷ y.0 ∷ y.1 ∷ []) (value v) (by_basis v)
      (every_at _ (every_at _ (every_at _ (every_at _ view_tests v.alpha) v.beta) v.gamma) v.epsilon)

  pub controls_compressed : ControlsCompressed X
  unfolding control_test
  controls_compressed c t d low high =
      solve_entries X Law (low ∷ high ∷ []) (compressed c t d) (by_bits c t d)
      (every_at _ (every_at _ (every_at _ (every_at _ (every_at _ (every_at _ (every_at _ (every_at _ (control_tests c)
      t.t00) t.t01) t.t10) t.t11) d.rho1) d.rho2) d.gamma0) d.epsilon0)
