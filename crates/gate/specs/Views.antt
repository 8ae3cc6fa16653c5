-- The four views of a gate: how the halves of its output label are made up of its input labels, at each pair of colours.
use Rattle.std.specs.Prelude.{ℕ, Bool, true, false, not, ◌&&◌, cond, List, [], ◌∷◌}
use Rattle.label.specs.Sums.{◌⊻◌}
use Rattle.wires.specs.Wires.{bit, truth}
use Rattle.gate.specs.declared.views.Parity.{Parity}
use Rattle.gate.specs.declared.views.Parity.TheVariants.{Even, Odd, Hidden}
use Rattle.gate.specs.declared.views.Truth.{Truth}
use Rattle.gate.specs.declared.views.Dice.{Dice}
use Rattle.gate.specs.declared.views.View.{View}

-- The truth values by colour: where a and b are the colours of the false labels, colours i and j stand for the values i ⊕ a and j ⊕ b.
abbrev pub by_colours : ℕ → Bool → Bool → Truth
by_colours g a b = record { t00 = truth g a b; t01 = truth g a (not b); t10 = truth g (not a) b; t11 = truth g (not a) (not b) }

abbrev pub truth_at : Truth → Bool → Bool → Bool
truth_at t i j = cond i (cond j t.t11 t.t10) (cond j t.t01 t.t00)

-- The sum of all four truth values.
abbrev pub parity_of : Truth → Bool
parity_of t = (t.t00 ⊻ t.t01) ⊻ (t.t10 ⊻ t.t11)

-- The dice are the four low bits of a byte.
abbrev pub dice_of : ℕ → Dice
dice_of d = record { rho1 = bit d 0; rho2 = bit d 1; gamma0 = bit d 2; epsilon0 = bit d 3 }

-- A bit that counts in hidden gates only.
abbrev pub if_hidden : Parity → Bool → Bool
if_hidden Even x = false
if_hidden Odd x = false
if_hidden Hidden x = x

-- The parities that a class is for.
abbrev pub fits : Parity → Bool → Bool
fits Even p = not p
fits Odd p = p
fits Hidden p = true

-- a and b; in a hidden gate the dice's γ0 and ε0 are added.
abbrev pub a_of : Parity → Truth → Dice → Bool
a_of c t d = (t.t10 ⊻ t.t11) ⊻ if_hidden c d.gamma0

abbrev pub b_of : Parity → Truth → Dice → Bool
b_of c t d = (t.t01 ⊻ t.t11) ⊻ if_hidden c d.epsilon0

-- What colours i and j add to ρ1 and to ρ2.
abbrev pub alpha_shift : Bool → Bool → Bool → Bool → Bool
alpha_shift false false a b = false
alpha_shift false true a b = a ⊻ b
alpha_shift true false a b = b
alpha_shift true true a b = a

abbrev pub beta_shift : Bool → Bool → Bool → Bool → Bool
beta_shift false false a b = false
beta_shift false true a b = a
beta_shift true false a b = a ⊻ b
beta_shift true true a b = b

-- γ from the colour i, and ε from the colour j: nothing in an even gate, public in an odd one, drawn in a hidden one.
abbrev pub corner_of : Parity → Bool → Bool → Bool → Bool
corner_of Even p drawn i = false
corner_of Odd p drawn i = not i
corner_of Hidden p drawn i = drawn ⊻ (p && not i)

abbrev pub view_at : Parity → Truth → Dice → Bool → Bool → View
view_at c t d i j = record {
  alpha = d.rho1 ⊻ alpha_shift i j (a_of c t d) (b_of c t d);
  beta = d.rho2 ⊻ beta_shift i j (a_of c t d) (b_of c t d);
  gamma = corner_of c (parity_of t) d.gamma0 i;
  epsilon = corner_of c (parity_of t) d.epsilon0 j;
}

-- All four, at colours 00, 01, 10 and 11.
abbrev pub views_of : Parity → Truth → Dice → List View
views_of c t d = view_at c t d false false ∷ view_at c t d false true ∷ view_at c t d true false ∷ view_at c t d true true ∷ []
