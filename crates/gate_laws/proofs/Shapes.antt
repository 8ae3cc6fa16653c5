-- Throws are finitely many, and views can be told apart: both by their parts.
use Rattle.std.proofs.Common.{ℕ, ◌^◌, Bool, sym, refl, ap, ◌∙◌}
use mathlib.Core.Bool.{Bool-discrete}
use mathlib.Core.Equiv.{Iso}
use mathlib.Core.HLevel.{Discrete, ×_discrete}
use native.Mathlib.Decide.{ℕ_discrete}
use Rattle.label.specs.declared.xor.ControlPair.{ControlPair}
use Rattle.gate.specs.declared.views.Dice.{Dice}
use Rattle.gate.specs.Numbers.{Five, Six}
use Rattle.gate.specs.Sums.{Three}
use Rattle.gate_laws.specs.GateBlind.{Throw, GateView, Word}
use Rattle.gate_laws.proofs.Finite.{Finite, finite_by, finite_pair, finite_bit}

-- Each record is the pairs of its parts.
dice_parts : Iso Dice (Bool × (Bool × (Bool × Bool)))
dice_parts = record {
  fun = λ d. (d.rho1, (d.rho2, (d.gamma0, d.epsilon0)));
  inv = λ p. record { rho1 = p.0; rho2 = p.1.0; gamma0 = p.1.1.0; epsilon0 = p.1.1.1 };
  rinv = λ p. refl;
  linv = λ d. refl;
}

pub pair_parts : Iso ControlPair (Bool × Bool)
pair_parts = record { fun = λ k. (k.low, k.high); inv = λ p. record { low = p.0; high = p.1 }; rinv = λ p. refl; linv = λ k. refl }

three_parts : {E : Type 0} → Iso (Three E) (E × (E × E))
three_parts = record { fun = λ r. (r.a, (r.b, r.s)); inv = λ p. record { a = p.0; b = p.1.0; s = p.1.1 }; rinv = λ p. refl; linv = λ r. refl }

five_parts : {E : Type 0} → Iso (Five E) (E × (E × Three E))
five_parts = record {
  fun = λ n. (n.n1, (n.n2, record { a = n.n3; b = n.n4; s = n.n5 }));
  inv = λ p. record { n1 = p.0; n2 = p.1.0; n3 = p.1.1.a; n4 = p.1.1.b; n5 = p.1.1.s };
  rinv = λ p. refl;
  linv = λ n. refl;
}

six_parts : {E : Type 0} → Iso (Six E) (Three E × Three E)
six_parts = record {
  fun = λ w. (record { a = w.a0; b = w.b0; s = w.s0 }, record { a = w.a1; b = w.b1; s = w.s1 });
  inv = λ p. record { a0 = p.0.a; a1 = p.1.a; b0 = p.0.b; b1 = p.1.b; s0 = p.0.s; s1 = p.1.s };
  rinv = λ p. refl;
  linv = λ w. refl;
}

throw_parts : {W : Type 0} → Iso (Throw W) (Dice × (Six W × Six ControlPair))
throw_parts = record {
  fun = λ ρ. (ρ.dice, (ρ.words, ρ.pairs));
  inv = λ p. record { dice = p.0; words = p.1.0; pairs = p.1.1 };
  rinv = λ p. refl;
  linv = λ ρ. refl;
}

view_parts : {W : Type 0} → Iso (GateView W) (Five ControlPair × (Three W × (Three W × Three ControlPair)))
view_parts = record {
  fun = λ v. (v.control, (v.ciphertexts, (v.words, v.pairs)));
  inv = λ p. record { control = p.0; ciphertexts = p.1.0; words = p.1.1.0; pairs = p.1.1.1 };
  rinv = λ p. refl;
  linv = λ v. refl;
}

-- Finitely many throws.
pub finite_word : Finite Word
finite_word = (2 ^ 64, record { fun = λ a. a; inv = λ a. a; rinv = λ a. refl; linv = λ a. refl })

finite_six : {E : Type 0} → Finite E → Finite (Six E)
finite_six F = let three = finite_by three_parts (finite_pair F (finite_pair F F)) in finite_by six_parts (finite_pair three three)

pub finite_throw : Finite (Throw Word)
finite_throw =
    finite_by throw_parts
    (finite_pair (finite_by dice_parts (finite_pair finite_bit (finite_pair finite_bit (finite_pair finite_bit finite_bit))))
    (finite_pair (finite_six finite_word) (finite_six (finite_by pair_parts (finite_pair finite_bit finite_bit)))))

-- What can be told apart by its parts.
pub discrete_iso : {A B : Type 0} → Iso A B → Discrete B → Discrete A
discrete_iso I dec x y = elim (dec (I.fun x) (I.fun y)) [
  | yes e ↦ yes (sym (I.linv x) ∙ ap I.inv e ∙ I.linv y)
  | no n ↦ no (λ e. n (ap I.fun e))
]

three_discrete : {E : Type 0} → Discrete E → Discrete (Three E)
three_discrete dec = discrete_iso three_parts (×_discrete dec (×_discrete dec dec))

pub pair_discrete : Discrete ControlPair
pair_discrete = discrete_iso pair_parts (×_discrete Bool-discrete Bool-discrete)

pub view_discrete : Discrete (GateView ℕ)
view_discrete =
    discrete_iso view_parts
    (×_discrete (discrete_iso five_parts (×_discrete pair_discrete (×_discrete pair_discrete (three_discrete pair_discrete))))
    (×_discrete (three_discrete ℕ_discrete) (×_discrete (three_discrete ℕ_discrete) (three_discrete pair_discrete))))
