-- A form as it is filled: its public part, the garbled gates, the marks.
use Rattle.std.proofs.Common.{◌≡◌, ℕ, ◌+◌, ◌-◌, ◌*◌, Bool, true, false, List, ◌++◌, length, take, sym, refl, ap, ◌∙◌, arith, length-append}
use borrow.Rule.Slice.PartMut.{put_mid}
use lib.ListN.{length-map}
use Rattle.std.specs.List.{flat_map}
use Rattle.std.proofs.lemmas.List.{append_assoc}
use Rattle.label.specs.Labels.{label_bytes}
use Rattle.label.specs.Hashes.{HashFunction}
use Rattle.wires.specs.Wires.{Wiring, garbled_wires, output_wires}
use Rattle.circuit.specs.Public.{public_arrays}
use Rattle.gate.specs.declared.garble.SentGate.{SentGate}
use Rattle.garbling.specs.Tape.{offset_in}
use Rattle.garbling.specs.Garbling.{falses_of}
use Rattle.garbling.specs.Marks.{Mark, mark_at}
use Rattle.form.specs.Layout.{size_bytes, ciphertext_bytes, control_bytes, gate_bytes, mark_bytes, form_length}
use Rattle.opening.specs.Opening.{gates_sent, marks_sent, opened_form}
use Rattle.slices.proofs.Widths.{length-joined}
use Rattle.opening.proofs.Regions.{three_parts}
use Rattle.opening.proofs.SoFar.{length-gates}

length-gate_bytes : (gs : List SentGate) → length (gate_bytes gs) ≡ 26 * length gs
length-gate_bytes gs =
    let one = length-joined ciphertext_bytes 24 (λ g. refl) gs in
    let two = length-joined control_bytes 2 (λ g. refl) gs in
    length-append (flat_map ciphertext_bytes gs) (flat_map control_bytes gs) ∙ omega (arith, one, two)

length-mark_bytes : (ms ns : List Mark) → length (mark_bytes ms ns) ≡ 16 * length ms + 16 * length ns
length-mark_bytes ms ns =
    let one = length-joined label_bytes 16 (λ m. refl) ms in
    let two = length-joined label_bytes 16 (λ m. refl) ns in
    length-append (flat_map label_bytes ms) (flat_map label_bytes ns) ∙ omega (arith, one, two)

module _ (c : Wiring) (T : List ℕ) (f : HashFunction) where
  pub gates_counted : length (gates_sent c T f) ≡ length (garbled_wires c)
  gates_counted = length-gates c T f c.wires

  pub marks_counted : (b : Bool) → length (marks_sent c T f b) ≡ length (output_wires c)
  marks_counted b = length-map (output_wires c) (mark_at c f (offset_in T) (falses_of c T f) b)

  -- The form, once its public part stands in front, and gates and marks are written after it.
  pub form_filled : (q o k' l' : ℕ) (P G M : List ℕ) → q ≡ length (garbled_wires c) → o ≡ length (output_wires c)
      → take (8 + 5 * c.wires) P ≡ size_bytes c.wires c.inputs q o ++ public_arrays c → length P ≡ form_length c.wires q o
      → G ≡ gate_bytes (gates_sent c T f) → M ≡ mark_bytes (marks_sent c T f false) (marks_sent c T f true)
      → k' ≡ 8 + 5 * c.wires + 26 * q - (8 + 5 * c.wires) → l' ≡ length (put_mid (8 + 5 * c.wires) k' P G) - (8 + 5 * c.wires + 26 * q)
      → put_mid (8 + 5 * c.wires + 26 * q) l' (put_mid (8 + 5 * c.wires) k' P G) M ≡ opened_form c T f
  unfolding opened_form
  form_filled q o k' l' P G M gates marks front whole written marked wide rest =
      let gs : List SentGate = gates_sent c T f in
      let one : length G ≡ 26 * q = ap length written ∙ length-gate_bytes gs ∙ (let count = gates_counted in omega (arith, count, gates)) in
      let two : length M ≡ 32 * o =
      ap length marked ∙ length-mark_bytes (marks_sent c T f false) (marks_sent c T f true)
      ∙ (let no-count = marks_counted false in let yes-count = marks_counted true in omega (arith, no-count, yes-count, marks)) in
      three_parts (8 + 5 * c.wires) (26 * q) k' l' P G M (size_bytes c.wires c.inputs q o ++ public_arrays c) front
      (omega (arith, whole, one, two)) (sym one) (omega (arith, wide, one)) rest
      ∙ append_assoc (size_bytes c.wires c.inputs q o) (public_arrays c) (G ++ M)
      ∙ (λ i. size_bytes c.wires c.inputs ((gates ∙ sym gates_counted) i) ((marks ∙ sym (marks_counted false)) i)
      ++ (public_arrays c ++ (written i ++ marked i)))
