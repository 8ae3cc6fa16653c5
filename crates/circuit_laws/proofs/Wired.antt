-- A circuit as its gates see it: how the false label and the value of each wire come from those of its pair; and induction over the wires.
use Rattle.std.proofs.Common.{◌≡◌, ℕ, zero, suc, ◌<◌, ◌≤◌, Bool, true, false, ◌⊎◌, List, subst, inl, inr, arith}
use Rattle.std.proofs.lemmas.Bool.{cases_lt, cases_Bool}
use Rattle.label.specs.Sums.{halves, ◌⊻◌}
use Rattle.label.specs.Labels.{Label}
use Rattle.label.specs.Hashes.{HashFunction}
use Rattle.wires.specs.Wires.{Wiring, first_at, second_at, class_at, is_free, truth}
use Rattle.gate.specs.declared.garble.GarbledGate.{GarbledGate}
use Rattle.gate.specs.Sums.{shifted, sum_of}
use Rattle.gate.specs.Gates.{garbled_gate}
use Rattle.gate_laws.specs.Computes.{suits}
use Rattle.gate.specs.Classes.{parity_of}
use Rattle.garbling.specs.Tape.{offset_in, input_in, dice_in}
use Rattle.garbling.specs.Tweaks.{gate_tweak}
use Rattle.garbling.specs.Garbling.{gate_index}

-- Every gate reads lower wires.
abbrev pub Lower : Wiring → Type 0
Lower d = (w : ℕ) → w < d.wires → d.inputs ≤ w → (first_at d w < w) × (second_at d w < w)

-- Wire by wire: what holds of inputs, and of gates where it holds of their pairs, holds of all wires.
module _ (d : Wiring) (lower : Lower d) (P : ℕ → Type 0)
    (input : (w : ℕ) → w < d.wires → w < d.inputs → P w)
    (free : (w : ℕ) → w < d.wires → d.inputs ≤ w → is_free (class_at d w) ≡ true → P (first_at d w) → P (second_at d w) → P w)
    (garbled : (w : ℕ) → w < d.wires → d.inputs ≤ w → is_free (class_at d w) ≡ false → P (first_at d w) → P (second_at d w) → P w) where
  -- The next wire, from those below it.
  next : (n : ℕ) → n < d.wires → ((w : ℕ) → w < n → P w) → (n < d.inputs) ⊎ (d.inputs ≤ n) → (is_free (class_at d n) ≡ true) ⊎ (is_free (class_at d n) ≡ false) → P n
  next n room so_far (inl is-input) kind = input n room is-input
  next n room so_far (inr gate) (inl free_here) =
      let l = lower n room gate in free n room gate free_here (so_far (first_at d n) l.0) (so_far (second_at d n) l.1)
  next n room so_far (inr gate) (inr not-Free) =
      let l = lower n room gate in garbled n room gate not-Free (so_far (first_at d n) l.0) (so_far (second_at d n) l.1)

  below : (n : ℕ) → n ≤ d.wires → (w : ℕ) → w < n → P w
  below zero most w less = absurd (omega arith)
  below (suc n) most w less =
      let so_far : (k : ℕ) → k < n → P k = below n (omega arith) in
      elim (cases_lt w n) [
        | inl earlier ↦ so_far w earlier
        | inr here ↦ let same : n ≡ w = omega arith in subst P same (next n most so_far (cases_lt n d.inputs) (cases_Bool (is_free (class_at d n))))
      ]

  pub wire_by_wire : (w : ℕ) → w < d.wires → P w
  wire_by_wire w less = below d.wires (omega arith) w less

-- Gate w of a circuit with the public part d and the truth tables g, garbled from the false labels F.
abbrev pub gate_of : Wiring → (ℕ → ℕ) → List ℕ → HashFunction → (ℕ → Label) → ℕ → GarbledGate
gate_of d g T f F w =
    garbled_gate f (parity_of (class_at d w)) (g w) (dice_in T d.inputs (gate_index d w)) (offset_in T) (F (first_at d w)) (F (second_at d w)) (gate_tweak w)

-- F are the false labels, and V the values, of a circuit with the public part d, the truth tables g and the input bits x, drawn from T and garbled with f.
pub record Wired (d : Wiring) (g : ℕ → ℕ) (x : ℕ → Bool) (T : List ℕ) (f : HashFunction) (F : ℕ → Label) (V : ℕ → Bool) : Type 0 where
  pub lower : Lower d
  pub input : (w : ℕ) → w < d.wires → w < d.inputs → (F w ≡ input_in T w) × (V w ≡ x w)
  pub free : (w : ℕ) → w < d.wires → d.inputs ≤ w → is_free (class_at d w) ≡ true
      → (F w ≡ sum_of halves (F (first_at d w)) (F (second_at d w))) × (V w ≡ V (first_at d w) ⊻ V (second_at d w))
  pub garbled : (w : ℕ) → w < d.wires → d.inputs ≤ w → is_free (class_at d w) ≡ false
      → (F w ≡ (gate_of d g T f F w).label) × (V w ≡ truth (g w) (V (first_at d w)) (V (second_at d w)))
  pub suited : (w : ℕ) → w < d.wires → d.inputs ≤ w → is_free (class_at d w) ≡ false → suits (parity_of (class_at d w)) (g w) ≡ true

-- The label of a wire's value.
abbrev pub active : Label → (ℕ → Label) → (ℕ → Bool) → ℕ → Label
active Δ F V w = shifted halves Δ (F w) (V w)
