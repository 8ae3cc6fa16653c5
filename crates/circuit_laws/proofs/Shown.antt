-- A circuit and one that shows its public part have the same garbled gates and outputs, in the same places.
use Rattle.std.proofs.Common.{◌≡◌, ℕ, ◌<◌, ◌≤◌, true, false, not, ◌&&◌, ltb, length, ap, ◌∙◌, inl, inr, arith}
use Rattle.std.proofs.lemmas.Bool.{cases_lt, lt-ltb, le-ltb, ltb-false, and_parts, not-true}
use Rattle.wires.specs.Wires.{Wiring, class_at, is_free, is_input, is_garbled, is_output, wires_where, allowed, garbled_wires, output_wires}
use Rattle.circuit.specs.Check.{most_wires}
use Rattle.circuit.specs.Accepted.{WiresSound}
use Rattle.circuit.specs.Public.{PublicOf}
use Rattle.garbling.specs.Garbling.{gate_index}
use Rattle.circuit_laws.proofs.Picked.{where_same}

-- A gate that is not free is garbled.
pub is_garbled_lem : (c : Wiring) (w : ℕ) → c.inputs ≤ w → is_free (class_at c w) ≡ false → is_garbled c w ≡ true
is_garbled_lem c w gate not-Free = rw (le-ltb w c.inputs gate, not-Free)

-- And what is garbled is such a gate.
pub garbled_gate_lem : (c : Wiring) (w : ℕ) → is_garbled c w ≡ true → (c.inputs ≤ w) × (is_free (class_at c w) ≡ false)
garbled_gate_lem c w garbled =
    let parts = and_parts (not (is_input c w)) (not (is_free (class_at c w))) garbled in
    (ltb-false w c.inputs (not-true _ parts.0), not-true _ parts.1)

-- A circuit, sound and of few wires, and one that shows its public part.
pub record Shows (c d : Wiring) : Type 0 where
  pub sound : WiresSound allowed c c.wires
  pub shown : PublicOf c d
  pub few : d.wires ≤ most_wires
  pub among : d.inputs ≤ d.wires

module _ (c d : Wiring) (shown : PublicOf c d) where
  garbled_shown : (w : ℕ) → w < c.wires → is_garbled d w ≡ is_garbled c w
  garbled_shown w below = elim (cases_lt w c.inputs) [
    | inl input ↦
        (λ i. not (ltb w (shown.inputs i)) && not (is_free (class_at d w)))
        ∙ rw (lt-ltb w c.inputs input)
    | inr gate ↦ λ i. not (ltb w (shown.inputs i)) && not (is_free (shown.classes w below gate i))
  ]

  pub index_shown : (w : ℕ) → w ≤ c.wires → gate_index d w ≡ gate_index c w
  index_shown w most = ap length (where_same (is_garbled d) (is_garbled c) w (λ k below. garbled_shown k (omega arith)))

  pub garbled_wires_shown : garbled_wires d ≡ garbled_wires c
  garbled_wires_shown = ap (wires_where (is_garbled d)) shown.wires ∙ where_same (is_garbled d) (is_garbled c) c.wires garbled_shown

  -- How many outputs come before a wire.
  pub outputs_shown : (w : ℕ) → w ≤ c.wires → wires_where (is_output d) w ≡ wires_where (is_output c) w
  outputs_shown w most = where_same (is_output d) (is_output c) w (λ k below. shown.outputs k (omega arith))

  pub output_wires_shown : output_wires d ≡ output_wires c
  output_wires_shown = ap (wires_where (is_output d)) shown.wires ∙ outputs_shown c.wires (omega arith)
