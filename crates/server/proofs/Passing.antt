-- A form that is written of an accepted circuit passes its check.
use Rattle.std.proofs.Common.{◌≡◌, ℕ, zero, suc, ◌*◌, ◌/◌, ◌%◌, ◌<◌, ◌≤◌, Bool, true, false, cond, not, ◌&&◌, eqb, ltb, leb, List, [], ◌∷◌, ◌++◌, length, get_or, None, sym, refl, ap, ◌∙◌, subst, inl, inr, arith}
use Rattle.std.proofs.lemmas.List.FromFn.{get_or-map-range_with_len, length-map-range_with_len}
use Rattle.std.proofs.lemmas.List.{get_or_append_left}
use Rattle.std.proofs.lemmas.Bool.{cases_lt, cases_Bool, lt-ltb, le-ltb, le-leb, eq-eqb, cond-true, cond-false, and_from, and_left, and_right, or_left, or_right, not_from_true, not_from_false}
use Rattle.slices.specs.Little.{short_at}
use Rattle.label.specs.Sums.{pairs}
use Rattle.label.specs.declared.xor.ControlPair.{ControlPair}
use Rattle.wires.specs.Wires.{Wiring, bit, kind_at, truth_at, class_at, is_free, is_output, is_garbled, allowed, wires_where, output_wires, garbled_wires}
use Rattle.wires.proofs.Scans.{count_below}
use Rattle.circuit.specs.declared.check.TruthRule.TheVariants.{Blank}
use Rattle.circuit.proofs.Accepts.{none_unless, none_or_else}
use Rattle.circuit.specs.Check.{sides, most_wires, most_inputs, most_outputs, sizes_fault, lowest_fault}
use Rattle.circuit.specs.Read.{rule_of}
use Rattle.circuit.specs.Accepted.{SizesSound, WiresSound}
use Rattle.circuit.specs.Public.{public_byte, public_arrays, PublicOf}
use Rattle.circuit.proofs.Accepts.{sound_lowest}
use Rattle.garbling.specs.Marks.{Mark}
use Rattle.garbling.specs.Garbling.{gate_index}
use Rattle.gate.specs.declared.garble.SentGate.{SentGate}
use Rattle.garbling.specs.Evaluation.{no_gate}
use Rattle.form.specs.Controls.{control_word, controls_in}
use Rattle.form.specs.Layout.{gate_bytes, mark_bytes, form_of, form_length}
use Rattle.form.specs.Read.{form_wiring, gates_stated, outputs_stated, gate_at, control_word_at}
use Rattle.form.specs.Back.{ReadsBack}
use Rattle.form.proofs.Backs.{form_back, word_small}
use Rattle.server.specs.Lowest.{lowest_where}
use Rattle.server.specs.Faults.{counts_fault, is_hidden, highs_clear, controls_sound, controls_fault, form_fault}
use Rattle.server.specs.Passes.{Written}

lowest_none : (k : ℕ) (p : ℕ → Bool) (n : ℕ) → ((w : ℕ) → w < n → p w ≡ false) → lowest_where k p n ≡ None
unfolding lowest_where
lowest_none k p zero passed = refl
lowest_none k p (suc n) passed =
    none_or_else _ _ (lowest_none k p n (λ w below. passed w (omega arith))) (cond-false _ _ _ (passed n (omega arith)))

where_same : (p r : ℕ → Bool) (n : ℕ) → ((w : ℕ) → w < n → p w ≡ r w) → wires_where p n ≡ wires_where r n
unfolding wires_where
where_same p r zero alike = refl
where_same p r (suc n) alike =
    λ i. where_same p r n (λ w below. alike w (omega arith)) i ++ cond (alike n (omega arith) i) (n ∷ []) []

sizes_none : (n m : ℕ) → SizesSound n m → sizes_fault n m ≡ None
sizes_none n m h =
    none_unless _ _ _ (and_from _ _ (le-leb 1 n h.some_wire) (le-leb n most_wires h.few_wires))
    (none_unless _ _ _
    (and_from _ _ (and_from _ _ (le-leb 1 m h.some_input) (le-leb m most_inputs h.few_inputs)) (le-leb m n h.among_wires))
    refl)

-- A circuit d that shows c, with the same bit 6 in its gates' kinds.
module _ (c d : Wiring) (shows : PublicOf c d) where
  wires_blank : ((w : ℕ) → w < c.wires → c.inputs ≤ w → bit (kind_at d w) 6 ≡ bit (kind_at c w) 6)
      → WiresSound allowed c c.wires → WiresSound (rule_of Blank) d d.wires
  wires_blank same sound =
      let fewer = shows.wires in
      let as_many = shows.inputs in
      record {
        inputs = λ w below input.
            let inside : w < c.wires = omega arith in
            let here : w < c.inputs = omega arith in
            let s = sound.inputs w inside here in
            record {
              side = subst (λ k. k < sides) (sym (shows.sides w inside here)) s.side;
              first = shows.firsts w inside ∙ s.first;
              second = shows.seconds w inside ∙ s.second;
            };
        gates = λ w below gate.
            let inside : w < c.wires = omega arith in
            let here : c.inputs ≤ w = omega arith in
            let s = sound.gates w inside here in
            record {
              clear = same w inside here ∙ s.clear;
              first = subst (λ k. k < w) (sym (shows.firsts w inside)) s.first;
              second = subst (λ k. k < w) (sym (shows.seconds w inside)) s.second;
              truth = eq-eqb (truth_at d w) 0 (shows.blank w inside here);
            };
      }

  outputs_same : output_wires d ≡ output_wires c
  outputs_same = ap (wires_where (is_output d)) shows.wires ∙ where_same (is_output d) (is_output c) c.wires shows.outputs

  no_gate_lem : (e : Wiring) (w : ℕ) → w < e.inputs → is_garbled e w ≡ false
  no_gate_lem e w input = ap (λ b. not b && not (is_free (class_at e w))) (lt-ltb w e.inputs input)

  garbled_same : (w : ℕ) → w < c.wires → is_garbled d w ≡ is_garbled c w
  garbled_same w below = elim (cases_lt w c.inputs) [
    | inl input ↦ no_gate_lem d w (subst (λ m. w < m) (sym shows.inputs) input) ∙ sym (no_gate_lem c w input)
    | inr gate ↦ λ i. not (ltb w (shows.inputs i)) && not (is_free (shows.classes w below gate i))
  ]

  index_same : (w : ℕ) → w ≤ c.wires → gate_index d w ≡ gate_index c w
  index_same w below = ap length (where_same (is_garbled d) (is_garbled c) w (λ k lower. garbled_same k (omega arith)))

  garbled_wires_same : length (garbled_wires d) ≡ length (garbled_wires c)
  garbled_wires_same = ap (λ n. length (wires_where (is_garbled d) n)) shows.wires ∙ index_same c.wires (omega arith)

  -- The class of a garbled gate.
  class_same : (w : ℕ) → w < c.wires → is_garbled c w ≡ true → class_at d w ≡ class_at c w
  class_same w below garbled = elim (cases_lt w c.inputs) [
    | inl input ↦ let never : ◌≡◌ {A = Bool} false true = sym (no_gate_lem c w input) ∙ garbled in absurd (apart never)
    | inr gate ↦ shows.classes w below gate
  ]
    where
      apart : ◌≡◌ {A = Bool} false true → ⊥
      apart p = let z : ◌≡◌ {A = ℕ} 0 1 = cc in omega arith

-- A control word without high bits.
highs_clear_lem : (word : ℕ) (ks : List ControlPair) → controls_in word ≡ ks → ((e : ℕ) → (get_or ks e pairs.o).high ≡ false) → highs_clear word ≡ true
highs_clear_lem word ks read low =
    let clear : (e : ℕ) → (get_or (controls_in word) e pairs.o).high ≡ false = λ e. ap (λ xs. (get_or xs e pairs.o).high) read ∙ low e in
    and_from _ _ (not_from_false _ (clear 0))
    (and_from _ _ (not_from_false _ (clear 1))
    (and_from _ _ (not_from_false _ (clear 2)) (and_from _ _ (not_from_false _ (clear 3)) (not_from_false _ (clear 4)))))

module _ (c : Wiring) (gs : List SentGate) (falses trues : List Mark) (h : Written c gs falses trues) where
  abbrev F : List ℕ
  F = form_of c gs falses trues

  abbrev d : Wiring
  d = form_wiring F

  back : ReadsBack c gs falses trues F
  back = form_back c gs falses trues h.fits

  bit_six : (w : ℕ) → w < c.wires → c.inputs ≤ w → bit (kind_at d w) 6 ≡ bit (kind_at c w) 6
  bit_six w below gate =
      let long = length-map-range_with_len (public_byte c) 0 (5 * c.wires) in
      let kind : kind_at d w ≡ kind_at c w / 16 * 16 =
      get_or_append_left (public_arrays c) (gate_bytes gs ++ mark_bytes falses trues) 0 w (omega (arith, long))
      ∙ get_or-map-range_with_len (public_byte c) 0 (5 * c.wires) w w 0 (omega arith) (omega arith)
      ∙ cond-true _ _ _ (lt-ltb w c.wires below) ∙ cond-false _ _ _ (le-ltb w c.inputs gate) in
      let k : ℕ = kind_at c w in
      let same : k / 16 * 16 / 64 % 2 ≡ k / 64 % 2 = omega arith in
      ap (λ b. bit b 6) kind ∙ ap (λ b. eqb b 1) same

  -- The control word of gate w, the k-th, is that of its pairs.
  word_back : (k : ℕ) → k < length gs
      → control_word_at F (short_at F 0) (gates_stated F) k ≡ control_word (get_or gs k no_gate).controls
  word_back k below = (λ i. control_word_at F (back.circuit.wires i) (back.gate_count i) k) ∙ back.control_words k below

  pairs_back : (k : ℕ) → k < length gs
      → controls_in (control_word_at F (short_at F 0) (gates_stated F) k) ≡ (get_or gs k no_gate).controls
  pairs_back k below =
      let count = back.gate_count in
      let listed = get_or-map-range_with_len (gate_at F (short_at F 0) (gates_stated F)) 0 (gates_stated F) k k no_gate (subst (λ q. k < q) (sym count) below) (omega arith) in
      (λ i. (sym listed i).controls) ∙ (λ i. (get_or (back.gates i) k no_gate).controls)

  sound_at : (w : ℕ) → w < c.wires → is_garbled c w ≡ true
      → controls_sound (class_at c w) (control_word_at F (short_at F 0) (gates_stated F) (gate_index c w)) ≡ true
  sound_at w below garbled =
      let k : ℕ = gate_index c w in
      let inside : k < length gs = subst (λ q. k < q) (sym h.gates) (count_below (is_garbled c) w c.wires below garbled) in
      let word : ℕ = control_word_at F (short_at F 0) (gates_stated F) k in
      let small : word < 1024 = subst (λ x. x < 1024) (sym (word_back k inside)) (word_small (get_or gs k no_gate).controls) in
      and_from _ _ (lt-ltb word 1024 small)
      (elim (cases_Bool (is_hidden (class_at c w))) [
        | inl hidden ↦ or_left _ _ hidden
        | inr shown ↦ or_right _ _ (highs_clear_lem word (get_or gs k no_gate).controls (pairs_back k inside) (λ e. h.lows w e below garbled shown))
      ])

  controls_none : controls_fault d F ≡ None
  controls_none = lowest_none 14 _ d.wires (λ w below.
      let inside : w < c.wires = subst (λ n. w < n) back.circuit.wires below in
      elim (cases_Bool (is_garbled c w)) [
        | inr passed ↦ and_left _ _ (garbled_same c d back.circuit w inside ∙ passed)
        | inl garbled ↦
            and_right _ _ (not_from_true _
            ((λ i. controls_sound (class_same c d back.circuit w inside garbled i)
            (control_word_at F (short_at F 0) (gates_stated F) (index_same c d back.circuit w (omega arith) i)))
            ∙ sound_at w inside garbled))
      ])

  counts_none : counts_fault d F ≡ None
  counts_none =
      let outs : length (output_wires d) ≡ length (output_wires c) = ap length (outputs_same c d back.circuit) in
      none_unless _ _ _
      (and_from _ _ (le-leb 1 (length (output_wires d)) (subst (λ o. 1 ≤ o) (sym outs) h.some_output))
      (and_from _ _ (le-leb (length (output_wires d)) most_outputs (subst (λ o. o ≤ most_outputs) (sym outs) h.few_outputs))
      (eq-eqb (length (output_wires d)) (outputs_stated F) (outs ∙ sym h.marks ∙ sym back.output_count))))
      (none_unless _ _ _
      (eq-eqb (length (garbled_wires d)) (gates_stated F) (garbled_wires_same c d back.circuit ∙ sym h.gates ∙ sym back.gate_count)) refl)

  pub form_passes : form_fault F ≡ None
  form_passes =
      let long = back.long in
      let shows = back.circuit in
      none_unless (leb 8 (length F)) (1, 0) _ (le-leb 8 (length F) (omega arith))
      (none_or_else (sizes_fault d.wires d.inputs) _ ((λ i. sizes_fault (shows.wires i) (shows.inputs i)) ∙ sizes_none c.wires c.inputs h.sizes)
      (none_unless (eqb (length F) (form_length d.wires (gates_stated F) (outputs_stated F))) (4, 0) _
      (eq-eqb (length F) _ (long ∙ (λ i. form_length (sym shows.wires i) (sym back.gate_count i) (sym back.output_count i))))
      (none_or_else (lowest_fault (rule_of Blank) d d.wires) _ (sound_lowest (rule_of Blank) d d.wires (wires_blank c d shows bit_six h.wires))
      (none_or_else (counts_fault d F) _ counts_none controls_none))))
