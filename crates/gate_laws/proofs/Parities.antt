-- The parity of a truth table: by number and by colours.
use Rattle.std.proofs.Common.{◌≡◌, ℕ, zero, suc, ◌<◌, Bool, true, false, ◌&&◌, sym, refl, ◌∙◌, subst, ap₂, arith}
use native.Mathlib.Decide.{ℕ_discrete}
use lib.Count.{ones, ones_in}
use Rattle.label.specs.Sums.{◌⊻◌}
use Rattle.label.proofs.Groups.{bit_comm}
use Rattle.label.proofs.Every.{and_l, and_r, implies, then}
use Rattle.wires.specs.Wires.{allowed, truth}
use Rattle.gate.specs.declared.views.Parity.{Parity}
use Rattle.gate.specs.declared.views.Parity.TheVariants.{Even, Odd, Hidden}
use Rattle.gate.specs.Views.{parity_of, by_colours, truth_at}
use Rattle.gate_laws.specs.Computes.{suits, class_of, AllowedSuits}

-- In a sum of two sums the inner ones may be swapped, each in itself.
swap_inner : (p q r s : Bool) → (p ⊻ q) ⊻ (r ⊻ s) ≡ (q ⊻ p) ⊻ (s ⊻ r)
swap_inner p q r s = ap₂ (λ (x y : Bool). x ⊻ y) (bit_comm p q) (bit_comm r s)

-- The parity is the same whatever the colours of the false labels.
pub parity_by_colours : (g : ℕ) (a b : Bool) → parity_of (by_colours g a b) ≡ parity_of (by_colours g false false)
parity_by_colours g false false = refl
parity_by_colours g false true = swap_inner (truth g false true) (truth g false false) (truth g true true) (truth g true false)
parity_by_colours g true false = bit_comm (truth g true false ⊻ truth g true true) (truth g false false ⊻ truth g false true)
parity_by_colours g true true =
    bit_comm (truth g true true ⊻ truth g true false) (truth g false true ⊻ truth g false false)
    ∙ swap_inner (truth g false true) (truth g false false) (truth g true true) (truth g true false)

-- At the colours that the input bits have, the truth by colours is the table's.
pub truth_by_colours : (g : ℕ) (a b u v : Bool) → truth_at (by_colours g a b) (a ⊻ u) (b ⊻ v) ≡ truth g u v
truth_by_colours g true true true true = refl
truth_by_colours g true true true false = refl
truth_by_colours g true true false true = refl
truth_by_colours g true true false false = refl
truth_by_colours g true false true true = refl
truth_by_colours g true false true false = refl
truth_by_colours g true false false true = refl
truth_by_colours g true false false false = refl
truth_by_colours g false true true true = refl
truth_by_colours g false true true false = refl
truth_by_colours g false true false true = refl
truth_by_colours g false true false false = refl
truth_by_colours g false false true true = refl
truth_by_colours g false false true false = refl
truth_by_colours g false false false true = refl
truth_by_colours g false false false false = refl

-- A test passes at each number below n.
unfoldable all_below : ℕ → (ℕ → Bool) → Bool
all_below zero f = true
all_below (suc n) f = f n && all_below n f

below_at : (n : ℕ) (f : ℕ → Bool) → all_below n f ≡ true → (k : ℕ) → k < n → f k ≡ true
unfolding all_below
below_at zero f h k less = absurd (omega arith)
below_at (suc n) f h k less = elim (ℕ_discrete k n) [
  | yes e ↦ subst (λ (m : ℕ). f m ≡ true) (sym e) (and_l (f n) (all_below n f) h)
  | no e ↦ below_at n f (and_r (f n) (all_below n f) h) k (omega arith)
]

table_suits : Parity → ℕ → Bool
table_suits c g = implies (allowed (class_of c) g) (suits c g)

-- All sixteen truth tables, computed.
sixteen : (c : Parity) → all_below 16 (table_suits c) ≡ true
unfolding all_below table_suits ones ones_in
sixteen Even = refl
sixteen Odd = refl
sixteen Hidden = refl

pub allowed_suits : AllowedSuits
unfolding table_suits
allowed_suits c g less h = then _ _ (below_at 16 (table_suits c) (sixteen c) g less) h
