-- One gate under a hash, garbled and then evaluated: the server comes to the label of the gate's value.
use Rattle.std.specs.Prelude.{◌≡◌, ℕ, ◌<◌, Bool, true, false}
use Rattle.label.specs.Sums.{halves}
use Rattle.label.specs.Labels.{Label, colour_of}
use Rattle.label.specs.Hashes.{HashFunction}
use Rattle.wires.specs.declared.Class.{Class}
use Rattle.wires.specs.declared.Class.TheVariants.{Even as EvenClass, Odd as OddClass, Hidden as HiddenClass}
use Rattle.wires.specs.Wires.{truth, allowed}
use Rattle.gate.specs.declared.views.Parity.{Parity}
use Rattle.gate.specs.declared.views.Parity.TheVariants.{Even, Odd, Hidden}
use Rattle.gate.specs.declared.garble.GarbledGate.{GarbledGate}
use Rattle.gate.specs.Views.{fits, parity_of, by_colours}
use Rattle.gate.specs.Sums.{shifted}
use Rattle.gate.specs.Gates.{garbled_gate, evaluated_gate}

-- The truth table is one of the class: an even number of ones in an even gate, an odd number in an odd one.
abbrev pub suits : Parity → ℕ → Bool
suits c g = fits c (parity_of (by_colours g false false))

-- For every hash, class, truth table of it, dice, offset of colour 1, false labels (they may be equal), tweak and input bits:
-- evaluating what was garbled, on the labels of the input bits, comes to the label of the output bit.
abbrev pub GateComputes : Type 0
GateComputes =
    (f : HashFunction) (c : Parity) (g d : ℕ) → suits c g ≡ true
    → (Δ A B : Label) → colour_of Δ ≡ true
    → (t : ℕ) (u v : Bool)
    → let gate : GarbledGate = garbled_gate f c g d Δ A B t in
    evaluated_gate f c gate.sent.ciphertexts gate.sent.controls (shifted halves Δ A u) (shifted halves Δ B v) t
    ≡ shifted halves Δ gate.label (truth g u v)

-- The class of wires that is garbled with this parity.
abbrev pub class_of : Parity → Class
class_of Even = EvenClass
class_of Odd = OddClass
class_of Hidden = HiddenClass

-- Every truth table that a circuit may have in a class is one of that class here.
abbrev pub AllowedSuits : Type 0
AllowedSuits = (c : Parity) (g : ℕ) → g < 16 → allowed (class_of c) g ≡ true → suits c g ≡ true
