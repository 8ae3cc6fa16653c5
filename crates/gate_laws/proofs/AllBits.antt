-- A test of truth values, dice and colours, made at each of them.
use Rattle.std.proofs.Common.{◌≡◌, Bool, true}
use Rattle.gate.specs.declared.views.Truth.{Truth}
use Rattle.gate.specs.declared.views.Dice.{Dice}
use Rattle.label.proofs.Every.{every, every_at}

-- The test passes at every truth, all dice and all colours.
abbrev pub all_bits : (Truth → Dice → Bool → Bool → Bool) → Bool
all_bits f =
    every (λ a. every (λ b. every (λ c. every (λ d. every (λ r. every (λ s. every (λ g. every (λ e. every (λ i. every (λ j.
    f (record { t00 = a; t01 = b; t10 = c; t11 = d }) (record { rho1 = r; rho2 = s; gamma0 = g; epsilon0 = e }) i j))))))))))

-- So it passes at any.
pub all_at : (f : Truth → Dice → Bool → Bool → Bool) → all_bits f ≡ true → (t : Truth) (d : Dice) (i j : Bool) → f t d i j ≡ true
all_at f h t d i j =
    every_at _ (every_at _ (every_at _ (every_at _ (every_at _ (every_at _ (every_at _ (every_at _ (every_at _ (every_at _ h
    t.t00) t.t01) t.t10) t.t11) d.rho1) d.rho2) d.gamma0) d.epsilon0) i) j
