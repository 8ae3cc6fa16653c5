-- One wire made: a garbled gate, from the labels read for its pair.
use Rattle.std.proofs.Common.{◌≡◌, ℕ, Bool, true, false, cond, not, ◌&&◌, List, refl}
use Rattle.label.specs.Labels.{Label}
use Rattle.label.specs.Hashes.{HashFunction}
use Rattle.wires.specs.Wires.{Wiring, class_at, is_input, is_free}
use Rattle.gate.specs.declared.garble.GarbledGate.{GarbledGate}
use Rattle.garbling.specs.Garbling.{gate_index, false_from}
use Rattle.garbling.specs.Steps.{made_gate, made_label, made_from}

label_by_cases : (i z : Bool) (g : GarbledGate) (x s : Label)
    → (cond (not i && not z) (made_gate g) (made_label (cond i x s))).label ≡ cond i x (cond z s g.label)
label_by_cases true z g x s = refl
label_by_cases false true g x s = refl
label_by_cases false false g x s = refl

module _ (c : Wiring) (T : List ℕ) (f : HashFunction) (below : List Label) (w : ℕ) where
  -- Whatever it is, its label is the wire's false label.
  pub made_label_lem : (made_from c T f below w (gate_index c w)).label ≡ false_from c T f below w
  made_label_lem = label_by_cases (is_input c w) (is_free (class_at c w)) _ _ _
