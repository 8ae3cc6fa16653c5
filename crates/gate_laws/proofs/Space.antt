-- The eight values come back from the five numbers: shown for expressions, at every truth, dice and colours, and so for every group.
use Rattle.std.proofs.Common.{◌≡◌, Bool, true, false, ◌&&◌, List, [], ◌∷◌, refl}
use Rattle.label.specs.Sums.{Group, Laws}
use Rattle.label.proofs.Solve.{Exp, exps, var, eval, solve}
use Rattle.label.proofs.Every.{every, implies, then, and_l, and_r}
use Rattle.gate.specs.declared.views.Parity.{Parity}
use Rattle.gate.specs.declared.views.Parity.TheVariants.{Even, Odd, Hidden}
use Rattle.gate.specs.declared.views.Truth.{Truth}
use Rattle.gate.specs.declared.views.Dice.{Dice}
use Rattle.gate.specs.Views.{fits, parity_of, view_at}
use Rattle.gate.specs.Numbers.{Six, left_of, right_of, mixed, back_left, back_right}
use Rattle.gate.specs.Sums.{LabelOver, added_left, added_right, coded_left, coded_right}
use Rattle.gate_laws.specs.GateSpace.{HalvesBack, ControlsBack, GateSpace}
use Rattle.gate_laws.proofs.AllBits.{all_bits, all_at}
use Rattle.gate_laws.proofs.Variables.{same, answers, six_then}

-- What is added to the answers on one side, as an expression.
abbrev Added : Type 0
Added = Parity → Truth → Dice → Bool → Bool → Exp

-- Halves: the offset, the first label and the second are variables 6 to 11.
abbrev half_left : Added
half_left c t d = added_left exps c t d (var 6, var 7) (var 8, var 9) (var 10, var 11)

abbrev half_right : Added
half_right c t d = added_right exps c t d (var 6, var 7) (var 8, var 9) (var 10, var 11)

-- Controls: the low bit and the high bit are variables 6 and 7.
abbrev code_left : Added
code_left c t d i j = coded_left exps (var 6) (var 7) c (view_at c t d i j)

abbrev code_right : Added
code_right c t d i j = coded_right exps (var 6) (var 7) c (view_at c t d i j)

-- The left value and what comes back for it; the same on the right.
abbrev left : Added → Parity → Truth → Dice → Bool → Bool → Exp
left K c t d = left_of exps answers (K c t d)

abbrev right : Added → Parity → Truth → Dice → Bool → Bool → Exp
right M c t d = right_of exps answers (M c t d)

abbrev left_back : Added → Added → Parity → Truth → Dice → Bool → Bool → Exp
left_back K M c t d = back_left exps (mixed exps answers (K c t d) (M c t d))

abbrev right_back : Added → Added → Parity → Truth → Dice → Bool → Bool → Exp
right_back K M c t d = back_right exps (mixed exps answers (K c t d) (M c t d))

abbrev both_back : Added → Added → Parity → Truth → Dice → Bool → Bool → Bool
both_back K M c t d i j = same (left_back K M c t d i j) (left K c t d i j) && same (right_back K M c t d i j) (right M c t d i j)

-- Where the truth fits the class, both come back.
back : Added → Added → Parity → Truth → Dice → Bool → Bool → Bool
back K M c t d i j = implies (fits c (parity_of t)) (both_back K M c t d i j)

halves_come_back : (c : Parity) → all_bits (back half_left half_right c) ≡ true
unfolding back every
halves_come_back Even = refl
halves_come_back Odd = refl
halves_come_back Hidden = refl

controls_come_back : (c : Parity) → all_bits (back code_left code_right c) ≡ true
unfolding back every
controls_come_back Even = refl
controls_come_back Odd = refl
controls_come_back Hidden = refl

module _ (X : Group) (L : Laws X) where
  -- What comes back for expressions comes back for the values of their variables.
  values_back : (K M : Added) → ((c : Parity) → all_bits (back K M c) ≡ true)
      → (ρ : List X.El) (c : Parity) (t : Truth) (d : Dice) (i j : Bool) → fits c (parity_of t) ≡ true
      → (eval X ρ (left_back K M c t d i j) ≡ eval X ρ (left K c t d i j)) × (eval X ρ (right_back K M c t d i j) ≡ eval X ρ (right M c t d i j))
  unfolding back
  values_back K M every_back ρ c t d i j h =
      let both : both_back K M c t d i j ≡ true = then _ _ (all_at (back K M c) (every_back c) t d i j) h in (
        solve X L ρ (left_back K M c t d i j) (left K c t d i j) (and_l _ _ both),
        solve X L ρ (right_back K M c t d i j) (right M c t d i j) (and_r _ _ both),
      )

  abbrev half_values : LabelOver X → LabelOver X → LabelOver X → Six X.El → List X.El
  half_values Δ A B w = six_then w (Δ.0 ∷ Δ.1 ∷ A.0 ∷ A.1 ∷ B.0 ∷ B.1 ∷ [])

  pub halves_back : HalvesBack X
  halves_back c t d h Δ A B w false false = values_back half_left half_right halves_come_back (half_values Δ A B w) c t d false false h
  halves_back c t d h Δ A B w false true = values_back half_left half_right halves_come_back (half_values Δ A B w) c t d false true h
  halves_back c t d h Δ A B w true false = values_back half_left half_right halves_come_back (half_values Δ A B w) c t d true false h
  halves_back c t d h Δ A B w true true = values_back half_left half_right halves_come_back (half_values Δ A B w) c t d true true h

  abbrev code_values : X.El → X.El → Six X.El → List X.El
  code_values low high w = six_then w (low ∷ high ∷ [])

  pub controls_back : ControlsBack X
  controls_back c t d h low high w false false = values_back code_left code_right controls_come_back (code_values low high w) c t d false false h
  controls_back c t d h low high w false true = values_back code_left code_right controls_come_back (code_values low high w) c t d false true h
  controls_back c t d h low high w true false = values_back code_left code_right controls_come_back (code_values low high w) c t d true false h
  controls_back c t d h low high w true true = values_back code_left code_right controls_come_back (code_values low high w) c t d true true h

  pub gate_space : GateSpace X
  gate_space = (halves_back, controls_back)
