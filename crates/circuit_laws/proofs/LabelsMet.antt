-- On every wire the server meets the label of the wire's value.
use Rattle.std.proofs.Common.{◌≡◌, ℕ, suc, ◌+◌, ◌*◌, ◌/◌, ◌%◌, ◌<◌, ◌≤◌, Bool, true, false, eqb, List, [], ◌∷◌, ◌++◌, length, get_or, sym, refl, ap, ◌∙◌, ap₂, arith}
use Rattle.std.proofs.lemmas.Bool.{lt-ltb, le-ltb, cond-true, cond-false}
use Rattle.label.specs.Sums.{halves}
use Rattle.label.specs.Labels.{Label, colour_of, label_at}
use Rattle.label.specs.Hashes.{HashFunction}
use Rattle.label.proofs.Groups.{halves_laws}
use Rattle.wires.specs.Wires.{Wiring, first_at, second_at, class_at, is_free}
use Rattle.gate.specs.declared.garble.GarbledGate.{GarbledGate}
use Rattle.gate.specs.Sums.{shifted, sum_of}
use Rattle.gate.specs.Gates.{evaluated_gate}
use Rattle.gate_laws.proofs.Colours.{sum_shifted}
use Rattle.gate_laws.proofs.Computes.{gate_computes}
use Rattle.gate.specs.Classes.{parity_of}
use Rattle.gate.specs.declared.garble.SentGate.{SentGate}
use Rattle.garbling.specs.Tape.{offset_in, dice_in}
use Rattle.garbling.specs.Tweaks.{gate_tweak}
use Rattle.garbling.specs.Garbling.{label_in, gate_index}
use Rattle.garbling.specs.Evaluation.{no_gate, met_from, met_below, met_of}
use Rattle.circuit_laws.proofs.Built.{built_length, built_at, built_stays}
use Rattle.circuit_laws.proofs.Wired.{Wired, gate_of, active, wire_by_wire}

-- The offset has colour 1.
pub offset_coloured : (T : List ℕ) → colour_of (offset_in T) ≡ true
offset_coloured T = odd (label_at T 0).0
  where
    odd : (n : ℕ) → eqb ((n / 2 * 2 + 1) % 2) 1 ≡ true
    odd n = let one : (n / 2 * 2 + 1) % 2 ≡ 1 = omega arith in ap (λ (k : ℕ). eqb k 1) one

-- The active label of a gate: of a free one the sum of its pair's, of a garbled one what evaluating it comes to.
module _ (d : Wiring) (g : ℕ → ℕ) (x : ℕ → Bool) (T : List ℕ) (f : HashFunction) (F : ℕ → Label) (V : ℕ → Bool) (wired : Wired d g x T f F V) where
  abbrev E : ℕ → Label
  E = active (offset_in T) F V

  pub active_free : (w : ℕ) → w < d.wires → d.inputs ≤ w → is_free (class_at d w) ≡ true → E w ≡ sum_of halves (E (first_at d w)) (E (second_at d w))
  active_free w below gate free =
      let h = wired.free w below gate free in
      (λ i. shifted halves (offset_in T) (h.0 i) (h.1 i))
      ∙ sym (sum_shifted halves halves_laws (offset_in T) (F (first_at d w)) (F (second_at d w)) (V (first_at d w)) (V (second_at d w)))

  pub active_garbled : (w : ℕ) → w < d.wires → d.inputs ≤ w → is_free (class_at d w) ≡ false
      → let gate : GarbledGate = gate_of d g T f F w in
      E w ≡ evaluated_gate f (parity_of (class_at d w)) gate.sent.ciphertexts gate.sent.controls (E (first_at d w)) (E (second_at d w)) (gate_tweak w)
  active_garbled w below gate not-Free =
      let h = wired.garbled w below gate not-Free in
      (λ i. shifted halves (offset_in T) (h.0 i) (h.1 i))
      ∙ sym (gate_computes f (parity_of (class_at d w)) (g w) (dice_in T d.inputs (gate_index d w)) (wired.suited w below gate not-Free)
      (offset_in T) (F (first_at d w)) (F (second_at d w)) (offset_coloured T) (gate_tweak w) (V (first_at d w)) (V (second_at d w)))

module _ (d : Wiring) (f : HashFunction) (gs : List SentGate) (inputs : List Label) where
  abbrev none : met_below d f gs inputs 0 ≡ []
  unfolding met_below
  none = refl

  abbrev more : (w : ℕ) → met_below d f gs inputs (suc w) ≡ met_below d f gs inputs w ++ (met_from d f gs inputs (met_below d f gs inputs w) w ∷ [])
  unfolding met_below
  more w = refl

  pub met_length : (n : ℕ) → length (met_below d f gs inputs n) ≡ n
  met_length n = built_length (met_below d f gs inputs) (met_from d f gs inputs) none more n

  pub met_below_lem : (w k : ℕ) → w < d.wires → k < w → label_in (met_below d f gs inputs w) k ≡ label_in (met_of d f gs inputs) k
  met_below_lem w k below lower = built_stays (met_below d f gs inputs) (met_from d f gs inputs) none more w d.wires k (0, 0) lower (omega arith)

  module _ (g : ℕ → ℕ) (x : ℕ → Bool) (T : List ℕ) (F : ℕ → Label) (V : ℕ → Bool) (wired : Wired d g x T f F V)
      (given : (w : ℕ) → w < d.inputs → label_in inputs w ≡ shifted halves (offset_in T) (F w) (x w))
      (listed : (w : ℕ) → w < d.wires → d.inputs ≤ w → is_free (class_at d w) ≡ false → get_or gs (gate_index d w) no_gate ≡ (gate_of d g T f F w).sent) where
    met_at : (w : ℕ) → w < d.wires → label_in (met_of d f gs inputs) w ≡ met_from d f gs inputs (met_below d f gs inputs w) w
    met_at w below = built_at (met_below d f gs inputs) (met_from d f gs inputs) none more d.wires w (0, 0) below

    -- What stands on the pair of a gate.
    pair_met : (w k : ℕ) → w < d.wires → k < w → label_in (met_of d f gs inputs) k ≡ active (offset_in T) F V k
        → label_in (met_below d f gs inputs w) k ≡ active (offset_in T) F V k
    pair_met w k below lower met = met_below_lem w k below lower ∙ met

    pub met_active : (w : ℕ) → w < d.wires → label_in (met_of d f gs inputs) w ≡ active (offset_in T) F V w
    met_active = wire_by_wire d wired.lower (λ w. label_in (met_of d f gs inputs) w ≡ active (offset_in T) F V w)
        (λ w below input.
        met_at w below ∙ cond-true _ _ _ (lt-ltb w d.inputs input) ∙ given w input
        ∙ ap (shifted halves (offset_in T) (F w)) (sym (wired.input w below input).1))
        (λ w below gate free first second.
        let l = wired.lower w below gate in
        met_at w below ∙ cond-false _ _ _ (le-ltb w d.inputs gate) ∙ cond-true _ _ _ free
        ∙ ap₂ (sum_of halves) (pair_met w (first_at d w) below l.0 first) (pair_met w (second_at d w) below l.1 second)
        ∙ sym (active_free d g x T f F V wired w below gate free))
        (λ w below gate not-Free first second.
        let l = wired.lower w below gate in
        met_at w below ∙ cond-false _ _ _ (le-ltb w d.inputs gate) ∙ cond-false _ _ _ not-Free
        ∙ (λ i. evaluated_gate f (parity_of (class_at d w)) (listed w below gate not-Free i).ciphertexts (listed w below gate not-Free i).controls
        (pair_met w (first_at d w) below l.0 first i) (pair_met w (second_at d w) below l.1 second i) (gate_tweak w))
        ∙ sym (active_garbled d g x T f F V wired w below gate not-Free))
