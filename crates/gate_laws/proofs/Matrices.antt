-- The sums of a gate are the scheme's matrices: shown entry by entry.
use Rattle.std.proofs.Common.{◌≡◌, Bool, true, false, ◌&&◌, List, [], ◌∷◌, refl}
use mathlib.Core.Bool.{false≢true}
use Rattle.label.specs.Sums.{Group, Laws}
use Rattle.label.proofs.Solve.{Exp, exps, add, eval, solve}
use Rattle.label.proofs.Every.{and_l, and_r}
use Rattle.gate.specs.Numbers.{five, back_left, back_right, left_of, right_of, listed}
use Rattle.gate_laws.specs.Matrices.{V, left_inverse, M, MatrixFacts, added, times, eight, six_listed, NumbersByInverse, BackByV, ValuesByM}
use Rattle.gate_laws.proofs.Variables.{same, answers, numbers, four, six_then, five_values, four_then}

pub matrix_facts : MatrixFacts
matrix_facts = (refl, refl)

-- Two columns of expressions hold the same, entry by entry.
abbrev pub same_entries : List Exp → List Exp → Bool
same_entries [] [] = true
same_entries [] (f ∷ fs) = false
same_entries (e ∷ es) [] = false
same_entries (e ∷ es) (f ∷ fs) = same e f && same_entries es fs

module _ (X : Group) (Law : Laws X) where
  abbrev pub columns : List X.El → List Exp → List X.El
  columns ρ [] = []
  columns ρ (e ∷ es) = eval X ρ e ∷ columns ρ es

  -- So they have the same values.
  pub solve_entries : (ρ : List X.El) (es fs : List Exp) → same_entries es fs ≡ true → columns ρ es ≡ columns ρ fs
  solve_entries ρ [] [] h = refl
  solve_entries ρ [] (f ∷ fs) h = absurd (false≢true h)
  solve_entries ρ (e ∷ es) [] h = absurd (false≢true h)
  solve_entries ρ (e ∷ es) (f ∷ fs) h =
      λ k. solve X Law ρ e f (and_l _ _ h) k ∷ solve_entries ρ es fs (and_r _ (same_entries es fs) h) k

  pub numbers_by_inverse : NumbersByInverse X
  numbers_by_inverse L R =
      solve_entries (four_then L (four_then R []))
      (listed (five exps (four 0) (four 4)))
      (times exps left_inverse (eight exps (four 0) (four 4)))
      refl

  pub back_by_v : BackByV X
  back_by_v n =
      solve_entries (five_values n)
      (eight exps (back_left exps numbers) (back_right exps numbers))
      (times exps V (listed numbers))
      refl

  pub values_by_m : ValuesByM X
  values_by_m w K N =
      solve_entries (six_then w (four_then K (four_then N [])))
      (eight exps (left_of exps answers (four 6)) (right_of exps answers (four 10)))
      (added add (times exps M (six_listed exps answers)) (eight exps (four 6) (four 10)))
      refl
