-- A table has no fault exactly when it meets every condition.
use Rattle.std.proofs.Common.{◌≡◌, ℕ, zero, suc, ◌+◌, ◌*◌, ◌<◌, ◌≤◌, Bool, true, false, ◌&&◌, eqb, leb, List, length, is_ok, Some, None, Ok, Err, Decides, Option, Result, sym, refl, ap, ◌∙◌, subst, inl, inr, arith}
use Rattle.refusal.specs.Told.{Finds}
use Rattle.refusal.specs.declared.Refusal.{Refusal}
use Rattle.std.proofs.lemmas.Bool.{false≢true, and_parts, and_from, ltb-true, lt-ltb, le-ltb, leb-true, le-leb, eqb-true, eq-eqb, not-true, not_from_false, cases_lt, cond-true, cond-false}
use Rattle.wires.specs.declared.Class.{Class}
use Rattle.wires.specs.Wires.{Wiring, bit, kind_at, first_at, second_at, side_at, allowed, output_wires}
use Rattle.circuit.specs.Check.{Fault, unless, or_else, sides, most_wires, most_inputs, most_outputs, sizes_fault, input_fault, gate_fault, wire_fault, lowest_fault, table_wiring, table_fault}
use Rattle.circuit.specs.Accepted.{InputSound, GateSound, SizesSound, WiresSound, Accepted}

-- No fault where the test holds and none follows; and back.
pub unless_none : (b : Bool) (f : Fault) (r : Option Fault) → unless b f r ≡ None → (b ≡ true) × (r ≡ None)
unless_none true f r none = (refl, none)
unless_none false f r none = absurd (let z : ◌≡◌ {A = ℕ} 0 1 = cc in omega arith)

pub none_unless : (b : Bool) (f : Fault) (r : Option Fault) → b ≡ true → r ≡ None → unless b f r ≡ None
none_unless b f r holds none = ap (λ t. unless t f r) holds ∙ none

pub or_else_none : (a r : Option Fault) → or_else a r ≡ None → (a ≡ None) × (r ≡ None)
or_else_none None r none = (refl, none)
or_else_none (Some f) r none = absurd (let z : ◌≡◌ {A = ℕ} 0 1 = cc in omega arith)

pub none_or_else : (a r : Option Fault) → a ≡ None → r ≡ None → or_else a r ≡ None
none_or_else a r first none = ap (λ t. or_else t r) first ∙ none

-- The sizes.
sizes_sound : (n m : ℕ) → sizes_fault n m ≡ None → SizesSound n m
sizes_sound n m none =
    let outer = unless_none _ _ _ none in
    let inner = unless_none _ _ _ outer.1 in
    let n-parts = and_parts _ _ outer.0 in
    let m-parts = and_parts _ _ inner.0 in
    let low_parts = and_parts _ _ m-parts.0 in
    record {
      some_wire = leb-true 1 n n-parts.0;
      few_wires = leb-true n most_wires n-parts.1;
      some_input = leb-true 1 m low_parts.0;
      few_inputs = leb-true m most_inputs low_parts.1;
      among_wires = leb-true m n m-parts.1;
    }

sound_sizes : (n m : ℕ) → SizesSound n m → sizes_fault n m ≡ None
sound_sizes n m h =
    none_unless _ _ _ (and_from _ _ (le-leb 1 n h.some_wire) (le-leb n most_wires h.few_wires))
    (none_unless _ _ _
    (and_from _ _ (and_from _ _ (le-leb 1 m h.some_input) (le-leb m most_inputs h.few_inputs)) (le-leb m n h.among_wires))
    refl)

-- An input, and a gate.
input_sound : (c : Wiring) (w : ℕ) → input_fault c w ≡ None → InputSound c w
input_sound c w none =
    let outer = unless_none _ _ _ none in
    let inner = unless_none _ _ _ outer.1 in
    let parts = and_parts _ _ inner.0 in
    record {
      side = ltb-true (side_at c w) sides outer.0;
      first = eqb-true (first_at c w) 0 parts.0;
      second = eqb-true (second_at c w) 0 parts.1;
    }

sound_input : (c : Wiring) (w : ℕ) → InputSound c w → input_fault c w ≡ None
sound_input c w h =
    none_unless _ _ _ (lt-ltb (side_at c w) sides h.side)
    (none_unless _ _ _ (and_from _ _ (eq-eqb (first_at c w) 0 h.first) (eq-eqb (second_at c w) 0 h.second)) refl)

gate_sound : (rule : Class → ℕ → Bool) (c : Wiring) (w : ℕ) → gate_fault rule c w ≡ None → GateSound rule c w
gate_sound rule c w none =
    let outer = unless_none _ _ _ none in
    let middle = unless_none _ _ _ outer.1 in
    let inner = unless_none _ _ _ middle.1 in
    let parts = and_parts _ _ middle.0 in
    record {
      clear = not-true (bit (kind_at c w) 6) outer.0;
      first = ltb-true (first_at c w) w parts.0;
      second = ltb-true (second_at c w) w parts.1;
      truth = inner.0;
    }

sound_gate : (rule : Class → ℕ → Bool) (c : Wiring) (w : ℕ) → GateSound rule c w → gate_fault rule c w ≡ None
sound_gate rule c w h =
    none_unless _ _ _ (not_from_false (bit (kind_at c w) 6) h.clear)
    (none_unless _ _ _ (and_from _ _ (lt-ltb (first_at c w) w h.first) (lt-ltb (second_at c w) w h.second))
    (none_unless _ _ _ h.truth refl))

-- All wires below n.
wires_sound : (rule : Class → ℕ → Bool) (c : Wiring) (n : ℕ) → lowest_fault rule c n ≡ None → (w : ℕ) → w < n → wire_fault rule c w ≡ None
unfolding lowest_fault
wires_sound rule c zero none w below = absurd (omega arith)
wires_sound rule c (suc n) none w below =
    let parts = or_else_none _ _ none in
    elim (cases_lt w n) [
      | inl lower ↦ wires_sound rule c n parts.0 w lower
      | inr here ↦ let same : n ≡ w = omega arith in subst (λ k. wire_fault rule c k ≡ None) same parts.1
    ]

sound_wires : (rule : Class → ℕ → Bool) (c : Wiring) (n : ℕ) → ((w : ℕ) → w < n → wire_fault rule c w ≡ None) → lowest_fault rule c n ≡ None
unfolding lowest_fault
sound_wires rule c zero none = refl
sound_wires rule c (suc n) none =
    none_or_else _ _ (sound_wires rule c n (λ w below. none w (omega arith))) (none n (omega arith))

-- No wire is faulty exactly when each is sound.
pub lowest_sound : (rule : Class → ℕ → Bool) (c : Wiring) (n : ℕ) → lowest_fault rule c n ≡ None → WiresSound rule c n
lowest_sound rule c n none = record {
  inputs = λ w below input.
      input_sound c w (sym (cond-true _ _ _ (lt-ltb w c.inputs input)) ∙ wires_sound rule c n none w below);
  gates = λ w below gate.
      gate_sound rule c w (sym (cond-false _ _ _ (le-ltb w c.inputs gate)) ∙ wires_sound rule c n none w below);
}

pub sound_lowest : (rule : Class → ℕ → Bool) (c : Wiring) (n : ℕ) → WiresSound rule c n → lowest_fault rule c n ≡ None
sound_lowest rule c n h = sound_wires rule c n (λ w below.
    elim (cases_lt w c.inputs) [
      | inl input ↦ cond-true _ _ _ (lt-ltb w c.inputs input) ∙ sound_input c w (h.inputs w below input)
      | inr gate ↦ cond-false _ _ _ (le-ltb w c.inputs gate) ∙ sound_gate rule c w (h.gates w below gate)
    ])

-- The whole table.
pub no_fault_accepted : (s : List ℕ) → table_fault s ≡ None → Accepted s
no_fault_accepted s none =
    let c : Wiring = table_wiring s in
    let long = unless_none (leb 4 (length s)) _ _ none in
    let sizes = or_else_none (sizes_fault c.wires c.inputs) _ long.1 in
    let whole = unless_none (eqb (length s) (4 + 5 * c.wires)) _ _ sizes.1 in
    let wires = or_else_none (lowest_fault allowed c c.wires) _ whole.1 in
    let outputs = and_parts _ _ (unless_none (leb 1 (length (output_wires c)) && leb (length (output_wires c)) most_outputs) _ _ wires.1).0 in
    record {
      sizes = sizes_sound c.wires c.inputs sizes.0;
      whole = eqb-true (length s) (4 + 5 * c.wires) whole.0;
      wires = lowest_sound allowed c c.wires wires.0;
      some_output = leb-true 1 (length (output_wires c)) outputs.0;
      few_outputs = leb-true (length (output_wires c)) most_outputs outputs.1;
    }

pub accepted_no_fault : (s : List ℕ) → Accepted s → table_fault s ≡ None
accepted_no_fault s h =
    let c : Wiring = table_wiring s in
    let long : 4 ≤ length s = omega (arith, h.whole) in
    none_unless _ _ _ (le-leb 4 (length s) long)
    (none_or_else _ _ (sound_sizes c.wires c.inputs h.sizes)
    (none_unless _ _ _ (eq-eqb (length s) (4 + 5 * c.wires) h.whole)
    (none_or_else _ _ (sound_lowest allowed c c.wires h.wires)
    (none_unless _ _ _
    (and_from _ _ (le-leb 1 (length (output_wires c)) h.some_output) (le-leb (length (output_wires c)) most_outputs h.few_outputs))
    refl))))

-- So a check that finds the first fault passes exactly the accepted tables.
pub passes_exactly : {T : Type 0} (s : List ℕ) (r : Result T Refusal) → Finds r (table_fault s) → Decides (is_ok r) (Accepted s)
passes_exactly s (Ok t) none = ((λ _. no_fault_accepted s none), λ _. refl)
passes_exactly s (Err e) fault = (
  (λ passed. absurd (false≢true passed)),
  λ ok. let none = accepted_no_fault s ok in absurd (let z : ◌≡◌ {A = ℕ} 0 1 = cc in omega arith),
)
