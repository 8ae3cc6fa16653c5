-- Questions asked one list after the other.
use mathlib.Core.List.{List, [], ◌∷◌, ◌++◌}
use mathlib.Core.Path.{subst}
use Prim.Native.Nat.{ℕ}
use Rattle.label.specs.Labels.{Label}
use Rattle.label.specs.Hashes.{Question, Asked}

pub asked_append : {H : Type 0} (asks : H → Label → ℕ → H → Type 0) (qs ps : List Question) (h i k : H)
    → Asked asks qs h i → Asked asks ps i k → Asked asks (qs ++ ps) h k
asked_append asks [] ps h i k here rest = subst (λ s. Asked asks ps s k) here rest
asked_append asks (q ∷ qs) ps h i k (j, first, more) rest = (j, first, asked_append asks qs ps j i k more rest)
