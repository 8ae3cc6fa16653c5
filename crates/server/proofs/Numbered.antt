-- Gates and marks by their numbers: what stands there, and what counts past the last.
use Rattle.std.proofs.Common.{◌≡◌, ℕ, ◌+◌, ◌*◌, Bool, true, false, cond, ltb, List, map, get_or, sym, refl, ap, ◌∙◌, inl, inr, arith}
use Rattle.std.specs.List.{range_with_len}
use Rattle.std.proofs.lemmas.List.FromFn.{get_or-map-range_with_len, length-map-range_with_len}
use Rattle.std.proofs.lemmas.List.{get_or_past}
use Rattle.std.proofs.lemmas.Bool.{cases_lt, lt-ltb, le-ltb, cond-true, cond-false}
use Rattle.slices.specs.Little.{short_at}
use Rattle.label.specs.Labels.{Label, label_at}
use Rattle.label.specs.Hashes.{HashFunction}
use Rattle.gate.specs.declared.views.Parity.{Parity}
use Rattle.gate.specs.declared.garble.SentGate.{SentGate}
use Rattle.gate.specs.Gates.{evaluated_gate}
use Rattle.garbling.specs.Marks.{Mark}
use Rattle.garbling.specs.Evaluation.{no_gate}
use Rattle.form.specs.Read.{gates_stated, gate_at, gates_in, marks_from}
use Rattle.server.specs.Gates.{blank_gate, sent_at}

-- What is listed by a function of the number.
counted_at : {X : Type 0} (g : ℕ → X) (n k : ℕ) (d : X) → get_or (map g (range_with_len 0 n)) k d ≡ cond (ltb k n) (g k) d
counted_at g n k d = elim (cases_lt k n) [
  | inl below ↦ get_or-map-range_with_len g 0 n k k d below (omega arith) ∙ sym (cond-true (ltb k n) (g k) d (lt-ltb k n below))
  | inr past ↦
      let long = length-map-range_with_len g 0 n in
      get_or_past (map g (range_with_len 0 n)) k d (omega (arith, long)) ∙ sym (cond-false (ltb k n) (g k) d (le-ltb k n past))
]

-- The k-th of o marks, from a place on.
pub mark_read : (F : List ℕ) (p p' o k : ℕ) (r : Mark) → r ≡ cond (ltb k o) (label_at F (p + 16 * k)) (0, 0) → p ≡ p'
    → r ≡ get_or (marks_from F p' o) k (0, 0)
mark_read F p p' o k r read place =
    read ∙ ap (λ a. cond (ltb k o) (label_at F (a + 16 * k)) (0, 0)) place ∙ sym (counted_at (λ j. label_at F (p' + 16 * j)) o k (0, 0))

-- A gate as it is read serves as the gate that was sent: past the last, both are blank.
sent_either : (f : HashFunction) (parity : Parity) (b : Bool) (g : SentGate) (x y : Label) (t : ℕ)
    → evaluated_gate f parity (cond b g blank_gate).ciphertexts (cond b g blank_gate).controls x y t
    ≡ evaluated_gate f parity (cond b g no_gate).ciphertexts (cond b g no_gate).controls x y t
sent_either f parity true g x y t = refl
sent_either f parity false g x y t = refl

pub sent_same : (f : HashFunction) (parity : Parity) (F : List ℕ) (k : ℕ) (x y : Label) (t : ℕ)
    → evaluated_gate f parity (sent_at F k).ciphertexts (sent_at F k).controls x y t
    ≡ evaluated_gate f parity (get_or (gates_in F) k no_gate).ciphertexts (get_or (gates_in F) k no_gate).controls x y t
sent_same f parity F k x y t =
    let q : ℕ = gates_stated F in
    let there = sym (counted_at (gate_at F (short_at F 0) q) q k no_gate) in
    sent_either f parity (ltb k q) (gate_at F (short_at F 0) q k) x y t
    ∙ (λ i. evaluated_gate f parity (there i).ciphertexts (there i).controls x y t)
