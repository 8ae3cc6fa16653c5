-- Two secrets over one public circuit, and drawn bytes and rows that match gate by gate: on every wire the server has the same label, and it sees the same of every gate.
use Rattle.std.proofs.Common.{◌≡◌, ℕ, ◌*◌, ◌<◌, ◌≤◌, Bool, true, false, List, [], ◌∷◌, sym, ap, ◌∙◌, arith}
use Rattle.label.specs.Sums.{halves, ◌⊻◌}
use Rattle.label.specs.Labels.{Label, colour_of}
use Rattle.label.specs.Rows.{table_function}
use Rattle.label.specs.declared.rows.Row.{Row}
use Rattle.label.specs.declared.hash.Answer.{Answer}
use Rattle.label.proofs.Groups.{halves_laws}
use Rattle.wires.specs.Wires.{Wiring, first_at, second_at, class_at, is_free}
use Rattle.gate.specs.declared.views.Parity.{Parity}
use Rattle.gate.specs.declared.views.Truth.{Truth}
use Rattle.gate.specs.Views.{fits, parity_of as parity, by_colours}
use Rattle.gate.specs.Numbers.{listed}
use Rattle.gate.specs.Sums.{shifted, sum_of, evaluated}
use Rattle.gate.specs.Gates.{answers_to, three_questions, view_from}
use Rattle.gate_laws.specs.Computes.{suits}
use Rattle.gate_laws.specs.GateBlind.{Throw, GateView, gate_view}
use Rattle.gate_laws.specs.GateSeen.{seen}
use Rattle.gate_laws.proofs.Colours.{shifted_twice}
use Rattle.gate_laws.proofs.Parities.{parity_by_colours}
use Rattle.gate_laws.proofs.Carried.{carried, carried_twice, carried_view}
use Rattle.circuit.specs.Check.{most_wires}
use Rattle.gate.specs.Classes.{parity_of}
use Rattle.gate.specs.declared.garble.SentGate.{SentGate}
use Rattle.garbling.specs.Tape.{offset_in, input_in}
use Rattle.garbling.specs.Tweaks.{gate_tweak}
use Rattle.circuit_laws.proofs.BitSums.{xor_first_after}
use Rattle.circuit_laws.proofs.Wired.{Wired, gate_of, active, wire_by_wire}
use Rattle.circuit_laws.proofs.LabelsMet.{active_free, active_garbled}
use Rattle.circuit_laws.proofs.Throws.{row_at, throw_at, truth_for, seen_for}

-- The throw of gate w, carried over from the truth tables g and values V to g' and V'.
abbrev pub throw_for : Wiring → (g g' : ℕ → ℕ) → Label → (ℕ → Label) → (V V' : ℕ → Bool) → ℕ → Throw ℕ → Throw ℕ
throw_for d g g' Δ E V V' w θ =
    let x : Label = E (first_at d w) in
    let y : Label = E (second_at d w) in
    let t : Truth = truth_for (g w) x y (V (first_at d w)) (V (second_at d w)) in
    let t' : Truth = truth_for (g' w) x y (V' (first_at d w)) (V' (second_at d w)) in
    carried halves (parity_of (class_at d w)) (colour_of x) (colour_of y) Δ x y t t' θ

-- What is drawn and answered under the one secret, and under the other, where E are the labels that the server meets.
pub record Matched (d : Wiring) (g g' : ℕ → ℕ) (x x' : ℕ → Bool) (E : ℕ → Label) (V V' : ℕ → Bool) (T T' : List ℕ) (rows rows' : List Row) : Type 0 where
  pub offset : offset_in T' ≡ offset_in T
  pub inputs : (w : ℕ) → w < d.inputs → input_in T' w ≡ shifted halves (offset_in T) (input_in T w) (x w ⊻ x' w)
  pub throws : (w : ℕ) → w < d.wires → d.inputs ≤ w → is_free (class_at d w) ≡ false
      → throw_at d T' rows' w ≡ throw_for d g g' (offset_in T) E V V' w (throw_at d T rows w)
  pub rest : (r : ℕ) → 3 * d.wires ≤ r → row_at rows' r ≡ row_at rows r

-- Evaluation looks at what is seen, and at nothing else.
abbrev evaluated_seen : Parity → Label → Label → GateView ℕ → Label
evaluated_seen k x y v = evaluated halves v.ciphertexts (view_from k v.control v.pairs (colour_of x) (colour_of y)) x y v.words (colour_of x) (colour_of y)

-- What is sent of a gate, and the answers that are met, as parts of what is seen.
abbrev sent_seen : GateView ℕ → SentGate
sent_seen v = record { ciphertexts = v.ciphertexts.a ∷ v.ciphertexts.b ∷ v.ciphertexts.s ∷ []; controls = listed v.control }

abbrev answers_seen : GateView ℕ → List Answer
answers_seen v =
    record { word = v.words.a; pair = v.pairs.a } ∷ record { word = v.words.b; pair = v.pairs.b }
    ∷ record { word = v.words.s; pair = v.pairs.s } ∷ []

-- So on every wire the server meets the same label; of every garbled gate the same is sent, and the same answers are met; and the throws match the other way round.
pub record Alike (d : Wiring) (g g' : ℕ → ℕ) (T T' : List ℕ) (rows rows' : List Row) (F F' : ℕ → Label) (V V' : ℕ → Bool) : Type 0 where
  pub labels : (w : ℕ) → w < d.wires → active (offset_in T') F' V' w ≡ active (offset_in T) F V w
  pub gates : (w : ℕ) → w < d.wires → d.inputs ≤ w → is_free (class_at d w) ≡ false
      → (gate_of d g' T' (table_function rows') F' w).sent ≡ (gate_of d g T (table_function rows) F w).sent
  pub answers : (w : ℕ) → w < d.wires → d.inputs ≤ w → is_free (class_at d w) ≡ false
      → answers_to (table_function rows') (three_questions (active (offset_in T') F' V' (first_at d w)) (active (offset_in T') F' V' (second_at d w)) (gate_tweak w))
      ≡ answers_to (table_function rows) (three_questions (active (offset_in T) F V (first_at d w)) (active (offset_in T) F V (second_at d w)) (gate_tweak w))
  pub back : (w : ℕ) → w < d.wires → d.inputs ≤ w → is_free (class_at d w) ≡ false
      → throw_for d g' g (offset_in T') (active (offset_in T') F' V') V' V w (throw_at d T' rows' w) ≡ throw_at d T rows w

module _ (d : Wiring) (few : d.wires ≤ most_wires) (g g' : ℕ → ℕ) (x x' : ℕ → Bool) (T T' : List ℕ) (rows rows' : List Row) (F F' : ℕ → Label) (V V' : ℕ → Bool)
    (wired : Wired d g x T (table_function rows) F V) (wired' : Wired d g' x' T' (table_function rows') F' V')
    (matched : Matched d g g' x x' (active (offset_in T) F V) V V' T T' rows rows') where
  abbrev E : ℕ → Label
  E = active (offset_in T) F V

  abbrev E' : ℕ → Label
  E' = active (offset_in T') F' V'

  abbrev seen_at : ℕ → GateView ℕ
  seen_at w = seen (table_function rows) (gate_of d g T (table_function rows) F w) (E (first_at d w)) (E (second_at d w)) (gate_tweak w)

  abbrev seen_at' : ℕ → GateView ℕ
  seen_at' w = seen (table_function rows') (gate_of d g' T' (table_function rows') F' w) (E' (first_at d w)) (E' (second_at d w)) (gate_tweak w)

  -- A truth by colours fits the class, whatever the colours.
  truth_fits : (h : ℕ → ℕ) (w : ℕ) (a b : Bool) → suits (parity_of (class_at d w)) (h w) ≡ true → fits (parity_of (class_at d w)) (parity (by_colours (h w) a b)) ≡ true
  truth_fits h w a b suit = ap (fits (parity_of (class_at d w))) (parity_by_colours (h w) a b) ∙ suit

  -- Where the labels of a gate's pair are the same, so is all that is seen of it.
  seen_if : (w : ℕ) → w < d.wires → d.inputs ≤ w → is_free (class_at d w) ≡ false
      → E' (first_at d w) ≡ E (first_at d w) → E' (second_at d w) ≡ E (second_at d w) → seen_at' w ≡ seen_at w
  seen_if w below gate not-Free ea eb =
      let k : Parity = parity_of (class_at d w) in
      let a : ℕ = first_at d w in
      let b : ℕ = second_at d w in
      seen_for d few g' T' rows' F' V' w below
      ∙ (λ i. gate_view halves k (truth_for (g' w) (ea i) (eb i) (V' a) (V' b)) (colour_of (ea i)) (colour_of (eb i)) (matched.offset i) (ea i) (eb i) (matched.throws w below gate not-Free i))
      ∙ carried_view halves k (colour_of (E a)) (colour_of (E b)) (offset_in T) (E a) (E b) halves_laws
      (truth_for (g w) (E a) (E b) (V a) (V b)) (truth_for (g' w) (E a) (E b) (V' a) (V' b))
      (truth_fits g w _ _ (wired.suited w below gate not-Free)) (truth_fits g' w _ _ (wired'.suited w below gate not-Free)) (throw_at d T rows w)
      ∙ sym (seen_for d few g T rows F V w below)

  -- The server meets the same label on every wire.
  same_active : (w : ℕ) → w < d.wires → E' w ≡ E w
  same_active = wire_by_wire d wired.lower (λ w. E' w ≡ E w)
      (λ w below input.
      let h = wired.input w below input in
      let h' = wired'.input w below input in
      (λ i. shifted halves (matched.offset i) (h'.0 i) (h'.1 i))
      ∙ (λ i. shifted halves (offset_in T) (matched.inputs w input i) (sym (xor_first_after (x w) (x' w)) i))
      ∙ shifted_twice halves halves_laws (offset_in T) (input_in T w) (x w ⊻ x' w) (x w)
      ∙ (λ i. shifted halves (offset_in T) (sym h.0 i) (sym h.1 i)))
      (λ w below gate free first second.
      active_free d g' x' T' (table_function rows') F' V' wired' w below gate free
      ∙ (λ i. sum_of halves (first i) (second i))
      ∙ sym (active_free d g x T (table_function rows) F V wired w below gate free))
      (λ w below gate not-Free first second.
      active_garbled d g' x' T' (table_function rows') F' V' wired' w below gate not-Free
      ∙ (λ i. evaluated_seen (parity_of (class_at d w)) (first i) (second i) (seen_if w below gate not-Free first second i))
      ∙ sym (active_garbled d g x T (table_function rows) F V wired w below gate not-Free))

  -- And sees the same of every garbled gate.
  same_seen : (w : ℕ) → w < d.wires → d.inputs ≤ w → is_free (class_at d w) ≡ false → seen_at' w ≡ seen_at w
  same_seen w below gate not-Free =
      let l = wired.lower w below gate in
      seen_if w below gate not-Free (same_active (first_at d w) (omega arith)) (same_active (second_at d w) (omega arith))

  -- The throws match the other way round too.
  throws_back : (w : ℕ) → w < d.wires → d.inputs ≤ w → is_free (class_at d w) ≡ false
      → throw_for d g' g (offset_in T') E' V' V w (throw_at d T' rows' w) ≡ throw_at d T rows w
  throws_back w below gate not-Free =
      let l = wired.lower w below gate in
      let k : Parity = parity_of (class_at d w) in
      let a : ℕ = first_at d w in
      let b : ℕ = second_at d w in
      let ea : E' a ≡ E a = same_active a (omega arith) in
      let eb : E' b ≡ E b = same_active b (omega arith) in
      (λ i. carried halves k (colour_of (ea i)) (colour_of (eb i)) (matched.offset i) (ea i) (eb i)
      (truth_for (g' w) (ea i) (eb i) (V' a) (V' b)) (truth_for (g w) (ea i) (eb i) (V a) (V b)) (matched.throws w below gate not-Free i))
      ∙ carried_twice halves k (colour_of (E a)) (colour_of (E b)) (offset_in T) (E a) (E b) halves_laws
      (truth_for (g w) (E a) (E b) (V a) (V b)) (truth_for (g' w) (E a) (E b) (V' a) (V' b)) (throw_at d T rows w)

  pub alike : Alike d g g' T T' rows rows' F F' V V'
  alike = record {
    labels = same_active;
    gates = λ w below gate not-Free. ap sent_seen (same_seen w below gate not-Free);
    answers = λ w below gate not-Free. ap answers_seen (same_seen w below gate not-Free);
    back = throws_back;
  }
