-- A form that was written is read back: its sizes, its circuit, its gates and its marks.
use Rattle.std.proofs.Common.{◌≡◌, ℕ, ◌+◌, ◌*◌, ◌/◌, ◌%◌, ◌^◌, ◌<◌, false, List, [], ◌∷◌, ◌++◌, map, length, get_or, sym, refl, ap, ◌∙◌, subst, arith, length-append}
use Rattle.std.specs.List.{range_with_len, flat_map}
use Rattle.std.proofs.lemmas.List.FromFn.{length-map-range_with_len, fill_by_all}
use Rattle.std.proofs.lemmas.List.{get_or_append_left}
use Rattle.slices.specs.Little.{word_bytes, short_at}
use Rattle.label.specs.Labels.{label_bytes, label_at}
use Rattle.label.specs.declared.xor.ControlPair.{ControlPair}
use Rattle.wires.specs.Wires.{Wiring, bit, class_of}
use Rattle.circuit.specs.Check.{table_wiring}
use Rattle.circuit.specs.Public.{public_byte, public_arrays, public_table, PublicOf}
use Rattle.circuit.proofs.Publics.{public_of_lem}
use Rattle.circuit.proofs.Tables.{same_wiring}
use Rattle.gate.specs.declared.garble.SentGate.{SentGate}
use Rattle.garbling.specs.Marks.{Mark}
use Rattle.garbling.specs.Evaluation.{no_gate}
use Rattle.form.specs.Controls.{control_word, controls_in}
use Rattle.form.specs.Layout.{size_bytes, ciphertext_bytes, control_bytes, gate_bytes, mark_bytes, form_of, form_length}
use Rattle.form.specs.Read.{form_wiring, gates_stated, outputs_stated, control_word_at, gate_at, gates_in, marks_from, false_marks_in, true_marks_in, ciphertexts_from, controls_from, false_marks_from, true_marks_from}
use Rattle.form.specs.Back.{GateFits, MarkFits, FormFits, ReadsBack}
use Rattle.wires.proofs.Bits.{number_small}
use Rattle.form.proofs.ControlWords.{controls_back}
use Rattle.slices.proofs.Widths.{length-joined}
use Rattle.form.proofs.Standing.{Stands, stands_whole, stands_first, stands_rest, stands_item, short_stands, word_stands, label_stands}

-- A circuit is shown as well where more bytes follow its arrays.
shown_longer : (c : Wiring) (ys more : List ℕ) → length ys ≡ 5 * c.wires
    → PublicOf c (record { wires = c.wires; inputs = c.inputs; arrays = ys })
    → PublicOf c (record { wires = c.wires; inputs = c.inputs; arrays = ys ++ more })
shown_longer c ys more long shows =
    let front : (i : ℕ) → i < 5 * c.wires → get_or (ys ++ more) i 0 ≡ get_or ys i 0 = λ i below. get_or_append_left ys more 0 i (omega arith) in
    record {
      wires = refl;
      inputs = refl;
      sides = λ w below input. ap (λ k. k % 128) (front w (omega arith)) ∙ shows.sides w below input;
      classes = λ w below gate. ap (λ k. class_of (k / 16 % 4)) (front w (omega arith)) ∙ shows.classes w below gate;
      blank = λ w below gate. ap (λ k. k % 16) (front w (omega arith)) ∙ shows.blank w below gate;
      outputs = λ w below. ap (λ k. bit k 7) (front w (omega arith)) ∙ shows.outputs w below;
      firsts = λ w below.
          (λ i. front (c.wires + 4 * w) (omega arith) i + front (c.wires + 4 * w + 1) (omega arith) i * 256) ∙ shows.firsts w below;
      seconds = λ w below.
          (λ i. front (c.wires + 4 * w + 2) (omega arith) i + front (c.wires + 4 * w + 2 + 1) (omega arith) i * 256) ∙ shows.seconds w below;
    }

-- The public part of the circuit, whatever gates and marks follow it.
pub circuit_back : (c : Wiring) (gs : List SentGate) (falses trues : List Mark) → c.wires < 2 ^ 16 → c.inputs < 2 ^ 16
    → PublicOf c (form_wiring (form_of c gs falses trues))
circuit_back c gs falses trues wires inputs =
    let F : List ℕ = form_of c gs falses trues in
    let wires_back : short_at F 0 ≡ c.wires = omega (arith, wires) in
    let inputs-back : short_at F 2 ≡ c.inputs = omega (arith, inputs) in
    let long : length (public_arrays c) ≡ 5 * c.wires = length-map-range_with_len (public_byte c) 0 (5 * c.wires) in
    let table = public_of_lem c wires inputs in
    let alone : PublicOf c (record { wires = c.wires; inputs = c.inputs; arrays = public_arrays c }) =
    subst (PublicOf c) (same_wiring (table_wiring (public_table c)) _ table.wires table.inputs refl) table in
    subst (PublicOf c) (same_wiring _ (form_wiring F) (sym wires_back) (sym inputs-back) refl)
    (shown_longer c (public_arrays c) (gate_bytes gs ++ mark_bytes falses trues) long alone)

-- Three ciphertexts are those at 0, 1 and 2.
three_items : (xs : List ℕ) → length xs ≡ 3 → xs ≡ get_or xs 0 0 ∷ get_or xs 1 0 ∷ get_or xs 2 0 ∷ []
three_items [] long = absurd (omega arith)
three_items (a ∷ []) long = absurd (omega arith)
three_items (a ∷ b ∷ []) long = absurd (omega arith)
three_items (a ∷ b ∷ c ∷ []) long = refl
three_items (a ∷ b ∷ c ∷ d ∷ xs) long = absurd (omega arith)

-- A control word has ten bits.
pub word_small : (ks : List ControlPair) → control_word ks < 1024
word_small ks =
    let none : ControlPair = record { low = false; high = false } in
    let low : (e : ℕ) → _ = λ e. number_small (get_or ks e none).low in
    let high : (e : ℕ) → _ = λ e. number_small (get_or ks e none).high in
    omega (arith, low 0, low 1, low 2, low 3, low 4, high 0, high 1, high 2, high 3, high 4)

module _ (c : Wiring) (gs : List SentGate) (falses trues : List Mark) (h : FormFits c gs falses trues) where
  abbrev F : List ℕ
  F = form_of c gs falses trues

  abbrev n : ℕ
  n = c.wires

  abbrev q : ℕ
  q = length gs

  abbrev o : ℕ
  o = length falses

  arrays_long : length (public_arrays c) ≡ 5 * n
  arrays_long = length-map-range_with_len (public_byte c) 0 (5 * n)

  ciphertexts_long : length (flat_map ciphertext_bytes gs) ≡ 24 * q
  ciphertexts_long = length-joined ciphertext_bytes 24 (λ g. refl) gs

  controls_long : length (flat_map control_bytes gs) ≡ 2 * q
  controls_long = length-joined control_bytes 2 (λ g. refl) gs

  falses_long : length (flat_map label_bytes falses) ≡ 16 * o
  falses_long = length-joined label_bytes 16 (λ l. refl) falses

  trues_long : length (flat_map label_bytes trues) ≡ 16 * o
  trues_long = length-joined label_bytes 16 (λ l. refl) trues ∙ ap (λ k. 16 * k) h.alike

  form_long : length F ≡ form_length n q o
  form_long =
      let whole = length-append (public_arrays c) (gate_bytes gs ++ mark_bytes falses trues) in
      let gates-marks = length-append (gate_bytes gs) (mark_bytes falses trues) in
      let gates = length-append (flat_map ciphertext_bytes gs) (flat_map control_bytes gs) in
      let marks = length-append (flat_map label_bytes falses) (flat_map label_bytes trues) in
      omega (arith, arrays_long, ciphertexts_long, controls_long, falses_long, trues_long)

  -- The regions.
  gates_stand : Stands F (ciphertexts_from n) (gate_bytes gs ++ mark_bytes falses trues)
  gates_stand =
      stands_rest F 8 (8 + 5 * n) (public_arrays c) (gate_bytes gs ++ mark_bytes falses trues) (ap (λ k. 8 + k) arrays_long)
      (stands_rest F 0 8 (size_bytes n c.inputs q o) (public_arrays c ++ (gate_bytes gs ++ mark_bytes falses trues)) refl (stands_whole F))

  ciphertexts_stand : Stands F (ciphertexts_from n) (flat_map ciphertext_bytes gs)
  ciphertexts_stand =
      stands_first F (8 + 5 * n) (flat_map ciphertext_bytes gs) (flat_map control_bytes gs)
      (stands_first F (8 + 5 * n) (gate_bytes gs) (mark_bytes falses trues) gates_stand)

  controls_stand : Stands F (controls_from n q) (flat_map control_bytes gs)
  controls_stand =
      stands_rest F (8 + 5 * n) (controls_from n q) (flat_map ciphertext_bytes gs) (flat_map control_bytes gs) (ap (λ k. 8 + 5 * n + k) ciphertexts_long)
      (stands_first F (8 + 5 * n) (gate_bytes gs) (mark_bytes falses trues) gates_stand)

  marks_stand : Stands F (false_marks_from n q) (mark_bytes falses trues)
  marks_stand =
      let gates = length-append (flat_map ciphertext_bytes gs) (flat_map control_bytes gs) in
      stands_rest F (8 + 5 * n) (false_marks_from n q) (gate_bytes gs) (mark_bytes falses trues) (omega (arith, ciphertexts_long, controls_long)) gates_stand

  falses_stand : Stands F (false_marks_from n q) (flat_map label_bytes falses)
  falses_stand = stands_first F (false_marks_from n q) (flat_map label_bytes falses) (flat_map label_bytes trues) marks_stand

  trues_stand : Stands F (true_marks_from n q o) (flat_map label_bytes trues)
  trues_stand =
      stands_rest F (false_marks_from n q) (true_marks_from n q o) (flat_map label_bytes falses) (flat_map label_bytes trues)
      (ap (λ k. false_marks_from n q + k) falses_long) marks_stand

  -- The sizes.
  wires_back : short_at F 0 ≡ n
  wires_back = omega (arith, h.wires)

  gate_count_back : gates_stated F ≡ q
  gate_count_back = omega (arith, h.gates)

  output_count_back : outputs_stated F ≡ o
  output_count_back = omega (arith, h.outputs)

  -- The gates.
  control_word_back : (k : ℕ) → k < q → control_word_at F n q k ≡ control_word (get_or gs k no_gate).controls
  control_word_back k below =
      let small = word_small (get_or gs k no_gate).controls in
      short_stands F (controls_from n q + 2 * k) (control_word (get_or gs k no_gate).controls) (omega arith)
      (stands_item control_bytes 2 (λ g. refl) gs no_gate F (controls_from n q) k controls_stand below)

  gate_back : (k : ℕ) → k < q → get_or gs k no_gate ≡ gate_at F n q k
  gate_back k below =
      let g : SentGate = get_or gs k no_gate in
      let fits : GateFits g = h.each_gate k below in
      let p : ℕ = ciphertexts_from n + 24 * k in
      let x : ℕ = get_or g.ciphertexts 0 0 in
      let y : ℕ = get_or g.ciphertexts 1 0 in
      let z : ℕ = get_or g.ciphertexts 2 0 in
      let here : Stands F p (word_bytes x ++ (word_bytes y ++ word_bytes z)) =
      stands_item ciphertext_bytes 24 (λ g. refl) gs no_gate F (ciphertexts_from n) k ciphertexts_stand below in
      let next : Stands F (p + 8) (word_bytes y ++ word_bytes z) = stands_rest F p (p + 8) (word_bytes x) (word_bytes y ++ word_bytes z) refl here in
      let last : Stands F (p + 16) (word_bytes z) = stands_rest F (p + 8) (p + 16) (word_bytes y) (word_bytes z) (omega arith) next in
      let first_word = word_stands F p x (fits.words 0 (omega arith)) (stands_first F p (word_bytes x) (word_bytes y ++ word_bytes z) here) in
      let second_word = word_stands F (p + 8) y (fits.words 1 (omega arith)) (stands_first F (p + 8) (word_bytes y) (word_bytes z) next) in
      let third-word = word_stands F (p + 16) z (fits.words 2 (omega arith)) last in
      let ciphertexts = three_items g.ciphertexts fits.three ∙ (λ i. sym first_word i ∷ sym second_word i ∷ sym third-word i ∷ []) in
      let controls = sym (controls_back g.controls fits.five) ∙ ap controls_in (sym (control_word_back k below)) in
      λ i. record { ciphertexts = ciphertexts i; controls = controls i }

  gates_back : gates_in F ≡ gs
  gates_back =
      (λ i. map (gate_at F (wires_back i) (gate_count_back i)) (range_with_len 0 (gate_count_back i)))
      ∙ sym (fill_by_all (gate_at F n q) gs q no_gate refl gate_back)

  -- The marks.
  marks_back : (p : ℕ) (ls : List Mark) → Stands F p (flat_map label_bytes ls) → ((k : ℕ) → k < length ls → MarkFits (get_or ls k (0, 0)))
      → marks_from F p (length ls) ≡ ls
  marks_back p ls here fits = sym (fill_by_all (λ k. label_at F (p + 16 * k)) ls (length ls) (0, 0) refl
      (λ k below.
      sym (label_stands F (p + 16 * k) (get_or ls k (0, 0)) (fits k below).first (fits k below).second
      (stands_item label_bytes 16 (λ l. refl) ls (0, 0) F p k here below))))

  falses_back : false_marks_in F ≡ falses
  falses_back =
      (λ i. marks_from F (false_marks_from (wires_back i) (gate_count_back i)) (output_count_back i))
      ∙ marks_back (false_marks_from n q) falses falses_stand h.each_false

  trues_back : true_marks_in F ≡ trues
  trues_back =
      (λ i. marks_from F (true_marks_from (wires_back i) (gate_count_back i) (output_count_back i)) ((output_count_back ∙ sym h.alike) i))
      ∙ marks_back (true_marks_from n q o) trues trues_stand h.each_true

  pub form_back : ReadsBack c gs falses trues F
  form_back = record {
    long = form_long;
    gate_count = gate_count_back;
    output_count = output_count_back;
    circuit = circuit_back c gs falses trues h.wires h.inputs;
    gates = gates_back;
    control_words = control_word_back;
    false_marks = falses_back;
    true_marks = trues_back;
  }
