-- The variables of the expressions in which the laws are shown, and the lists of their values.
use Rattle.std.proofs.Common.{ℕ, ◌+◌, Bool, true, false, cond, List, [], ◌∷◌}
use Rattle.label.proofs.Solve.{Exp, var, add, nf, null}
use Rattle.gate.specs.Numbers.{Five, Six}

-- Two expressions hold the same variables.
abbrev pub same : Exp → Exp → Bool
same e f = null (nf (add e f))

-- Six answers: variables 0 to 5.
abbrev pub answers : Six Exp
answers = record { a0 = var 0; a1 = var 1; b0 = var 2; b1 = var 3; s0 = var 4; s1 = var 5 }

-- Five numbers: variables 0 to 4.
abbrev pub numbers : Five Exp
numbers = record { n1 = var 0; n2 = var 1; n3 = var 2; n4 = var 3; n5 = var 4 }

-- A value at each pair of colours: variable k and the next three.
abbrev pub four : ℕ → Bool → Bool → Exp
four k i j = cond i (cond j (var (k + 3)) (var (k + 2))) (cond j (var (k + 1)) (var k))

-- Their values, before the values of later variables.
abbrev pub six_then : {E : Type 0} → Six E → List E → List E
six_then w ρ = w.a0 ∷ w.a1 ∷ w.b0 ∷ w.b1 ∷ w.s0 ∷ w.s1 ∷ ρ

abbrev pub five_values : {E : Type 0} → Five E → List E
five_values n = n.n1 ∷ n.n2 ∷ n.n3 ∷ n.n4 ∷ n.n5 ∷ []

abbrev pub four_then : {E : Type 0} → (Bool → Bool → E) → List E → List E
four_then K ρ = K false false ∷ K false true ∷ K true false ∷ K true true ∷ ρ
