-- The plain circuit's values, wire by wire: how a loop fills them, and the relations that hold of them all.
use Rattle.std.proofs.Common.{◌≡◌, ℕ, zero, suc, ◌+◌, ◌<◌, ◌≤◌, Bool, false, List, [], ◌∷◌, ◌++◌, length, get_or, take, set, None, sym, refl, ap, ◌∙◌, subst, inl, inr, add-one, arith}
use Rattle.std.proofs.lemmas.List.{length_push, get_or_append_left, get_or_push, take_all, take_more_set}
use Rattle.std.proofs.lemmas.Bool.{eq-eqb, cases_lt, lt-ltb, le-ltb, cond-true, cond-false}
use Rattle.wires.specs.Wires.{Wiring, truth, truth_at, first_at, second_at, output_wires}
use Rattle.circuit.specs.Plain.{value_from, values_below, values_of, at_outputs, plain_fault, PlainRun}

-- One wire more has its value.
values_more : (c : Wiring) (x : List Bool) (w : ℕ)
    → values_below c x (w + 1) ≡ values_below c x w ++ (value_from c x (values_below c x w) w ∷ [])
unfolding values_below
values_more c x w = rw add-one

-- A loop that writes the value of wire w keeps the values of all wires so far.
pub values_step : (c : Wiring) (x vs : List Bool) (w : ℕ) (v : Bool)
    → w < length vs → take w vs ≡ values_below c x w → v ≡ value_from c x (take w vs) w
    → take (w + 1) (set vs w v) ≡ values_below c x (w + 1)
values_step c x vs w v room so_far here =
    take_more_set vs w v room
    ∙ (λ i. so_far i ++ ((here ∙ ap (λ b. value_from c x b w) so_far) i ∷ []))
    ∙ sym (values_more c x w)

length-values : (c : Wiring) (x : List Bool) (n : ℕ) → length (values_below c x n) ≡ n
unfolding values_below
length-values c x zero = refl
length-values c x (suc n) = length_push _ _ ∙ ap (λ k. k + 1) (length-values c x n) ∙ add-one n

-- After the last wire the whole buffer is filled.
pub values_done : (c : Wiring) (x vs : List Bool) (w : ℕ)
    → take w vs ≡ values_below c x w → length vs ≡ c.wires → c.wires ≤ w → w ≤ c.wires → vs ≡ values_of c x
values_done c x vs w so_far whole past reached =
    let end : w ≡ c.wires = omega arith in
    sym (take_all w vs (omega arith)) ∙ so_far ∙ ap (values_below c x) end

-- The value of a wire stays as it was when its wire came.
values_stay : (c : Wiring) (x : List Bool) (w n : ℕ) → w < n
    → get_or (values_below c x n) w false ≡ value_from c x (values_below c x w) w
unfolding values_below
values_stay c x w zero below = absurd (omega arith)
values_stay c x w (suc n) below = elim (cases_lt w n) [
  | inl lower ↦ get_or_append_left _ _ false w (rw (length-values c x n) lower) ∙ values_stay c x w n lower
  | inr here ↦
      let same : n ≡ w = omega arith in
      get_or_push _ _ false w (length-values c x n ∙ same) ∙ ap (λ k. value_from c x (values_below c x k) k) same
]

-- Inputs have the given bits, and each gate the truth of its pair's values.
plain_run : (c : Wiring) (x : List Bool) → PlainRun c x (values_of c x) (at_outputs c (values_of c x))
plain_run c x =
    let n = c.wires in
    let at : (w : ℕ) → w < n → get_or (values_of c x) w false ≡ value_from c x (values_below c x w) w = λ w below. values_stay c x w n below in
    let earlier : (w k : ℕ) → w < n → k < w → get_or (values_below c x w) k false ≡ get_or (values_of c x) k false =
    λ w k below lower. values_stay c x k w lower ∙ sym (values_stay c x k n (omega arith)) in
    record {
      wires = length-values c x n;
      inputs = λ w below input. at w below ∙ cond-true _ _ _ (lt-ltb w c.inputs input);
      gates = λ w below gate first second.
          at w below ∙ cond-false _ _ _ (le-ltb w c.inputs gate)
          ∙ (λ i. truth (truth_at c w) (earlier w (first_at c w) below first i) (earlier w (second_at c w) below second i));
      outputs = refl;
    }

-- Buffers of the right lengths are no fault.
pub rooms_fit : (c : Wiring) (values outputs : ℕ) → values ≡ c.wires → outputs ≡ length (output_wires c) → plain_fault c values outputs ≡ None
rooms_fit c values outputs fit fit' = rw (eq-eqb _ _ fit, eq-eqb _ _ fit')

-- The same of any buffers that hold these values and outputs.
pub plain_run_of : (c : Wiring) (x vs os : List Bool) → vs ≡ values_of c x → os ≡ at_outputs c vs → PlainRun c x vs os
plain_run_of c x vs os values outputs =
    subst (λ o. PlainRun c x vs o) (sym outputs) (subst (λ v. PlainRun c x v (at_outputs c v)) (sym values) (plain_run c x))
