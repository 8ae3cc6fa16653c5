-- What the server sees of one gate, and that it tells nothing of the truth table beyond the class.
use Rattle.std.specs.Prelude.{◌≡◌, ℕ, ◌^◌, ◌<◌, Bool, true}
use mathlib.Core.Equiv.{Fiber}
use Rattle.label.specs.Sums.{Group, halves, pairs}
use Rattle.label.specs.Labels.{Label}
use Rattle.label.specs.declared.xor.ControlPair.{ControlPair}
use Rattle.gate.specs.declared.views.Parity.{Parity}
use Rattle.gate.specs.declared.views.Truth.{Truth}
use Rattle.gate.specs.declared.views.Dice.{Dice}
use Rattle.gate.specs.Views.{fits, parity_of}
use Rattle.gate.specs.Numbers.{Five, Six}
use Rattle.gate.specs.Sums.{LabelOver, Three, last_three, shifted, garbled, controls}
use Rattle.gate.specs.Gates.{trimmed_five, low_bit, high_bit}
use Rattle.gate_laws.specs.GateLaw.{met}
use Rattle.gate_laws.specs.Many.{EquallyMany}

-- What chance brings to one gate: the dice, and the six answers of the hash, each a word and a control pair.
pub record Throw (W : Type 0) : Type 0 where
  pub dice : Dice
  pub words : Six W
  pub pairs : Six ControlPair

-- All that the server sees of one gate: five control pairs, three ciphertexts, and the three answers that it meets.
pub record GateView (W : Type 0) : Type 0 where
  pub control : Five ControlPair
  pub ciphertexts : Three W
  pub words : Three W
  pub pairs : Three ControlPair

-- The view of a gate with this truth, where the offset is Δ and the labels at hand are x and y, of colours i and j.
abbrev pub gate_view : (X : Group) → Parity → Truth → Bool → Bool → (Δ x y : LabelOver X) → Throw X.El → GateView X.El
gate_view X c t i j Δ x y ρ = record {
  control = trimmed_five c (controls pairs low_bit high_bit c t ρ.dice ρ.pairs);
  ciphertexts = last_three (garbled X c t ρ.dice Δ (shifted X Δ x i) (shifted X Δ y j) ρ.words);
  words = met ρ.words i j;
  pairs = met ρ.pairs i j;
}

-- A word of 64 bits: there are finitely many.
abbrev pub Word : Type 0
Word = (n : ℕ) × (n < 2 ^ 64)

abbrev pub FitsWords : Label → Type 0
FitsWords l = (l.0 < 2 ^ 64) × (l.1 < 2 ^ 64)

-- The numbers of some words.
abbrev pub numbers_of : Throw Word → Throw ℕ
numbers_of ρ = record {
  dice = ρ.dice;
  words = record {
    a0 = ρ.words.a0.0;
    a1 = ρ.words.a1.0;
    b0 = ρ.words.b0.0;
    b1 = ρ.words.b1.0;
    s0 = ρ.words.s0.0;
    s1 = ρ.words.s1.0;
  };
  pairs = ρ.pairs;
}

-- The throws (four bits of dice, six words of 64 bits, six control pairs) that show the view v, where the truth is t.
abbrev pub Causes : Parity → Truth → Bool → Bool → (Δ x y : Label) → GateView ℕ → Type 0
Causes c t i j Δ x y v = Fiber (λ (ρ : Throw Word). gate_view halves c t i j Δ x y (numbers_of ρ)) v

-- Two truths of one class, met with the same labels: each view has equally many causes under the one and under the other.
abbrev pub GateBlind : Type 0
GateBlind =
    (c : Parity) (t t' : Truth) → fits c (parity_of t) ≡ true → fits c (parity_of t') ≡ true
    → (i j : Bool) (Δ x y : Label) → FitsWords Δ → FitsWords x → FitsWords y
    → (v : GateView ℕ) → EquallyMany (Causes c t i j Δ x y v) (Causes c t' i j Δ x y v)
