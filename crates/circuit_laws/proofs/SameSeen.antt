-- Where drawn bytes and rows match, the server has the same garbled gates, labels and answers under both secrets, whatever the outputs.
use Rattle.std.proofs.Common.{◌≡◌, ℕ, ◌+◌, ◌*◌, ◌<◌, ◌≤◌, Bool, true, false, List, [], ◌∷◌, map, get_or, sym, ap, ◌∙◌, zero-add, arith}
use Rattle.std.specs.List.{range_with_len, flat_map}
use Rattle.std.proofs.lemmas.List.FromFn.{fill_by_all, length-map-range_with_len, get_or-map-range_with_len}
use Rattle.label.specs.Sums.{halves}
use Rattle.label.specs.Labels.{Label, colour_of}
use Rattle.label.specs.Hashes.{HashFunction, Question}
use Rattle.label.specs.Rows.{by_colour, table_function}
use Rattle.label.specs.declared.rows.Row.{Row}
use Rattle.wires.specs.Wires.{Wiring, first_at, second_at, truth_at, is_garbled, is_output, garbled_wires, output_wires}
use Rattle.gate.specs.Sums.{shifted}
use Rattle.gate.specs.Gates.{answers_to, three_questions, tweak_after}
use Rattle.circuit.specs.Check.{most_wires}
use Rattle.circuit.specs.Plain.{values_of}
use Rattle.gate.specs.declared.garble.GarbledGate.{GarbledGate}
use Rattle.garbling.specs.Tape.{offset_in}
use Rattle.garbling.specs.Tweaks.{gate_tweak, mark_tweak}
use Rattle.garbling.specs.Garbling.{label_in, falses_of, gate_at}
use Rattle.garbling.specs.Marks.{mark_questions}
use Rattle.garbling.specs.Evaluation.{met_below, evaluate_asks_at}
use Rattle.circuit_laws.specs.Round.{input_labels, sent_gates, labels_met}
use Rattle.circuit_laws.specs.CircuitBlind.{gate_answers, output_answers}
use Rattle.circuit_laws.proofs.Picked.{map-where, joined-where, map-joined, map-map}
use Rattle.circuit_laws.proofs.Wired.{Wired, gate_of, active}
use Rattle.circuit_laws.proofs.Shown.{Shows, garbled_gate_lem, garbled_wires_shown}
use Rattle.circuit_laws.proofs.Falses.{gate_listed, wired}
use Rattle.circuit_laws.proofs.LabelsMet.{met_length, met_below_lem}
use Rattle.circuit_laws.proofs.Computing.{input_found, labels_right}
use Rattle.circuit_laws.proofs.Throws.{row_at, tweak_small}
use Rattle.circuit_laws.proofs.Matching.{Matched, Alike, alike}

-- The values of all wires.
abbrev pub value_of : Wiring → List Bool → ℕ → Bool
value_of c x w = get_or (values_of c x) w false

-- The false labels of all wires.
abbrev pub false_of : Wiring → List ℕ → HashFunction → ℕ → Label
false_of c T f w = label_in (falses_of c T f) w

-- The labels that the server meets.
abbrev pub active_of : Wiring → List Bool → List ℕ → HashFunction → ℕ → Label
active_of c x T f = active (offset_in T) (false_of c T f) (value_of c x)

-- What is drawn and answered for circuit c with the input bits x, and for c' with x', matches over the public part d.
abbrev pub MatchedFor : (c c' d : Wiring) (x x' : List Bool) (T T' : List ℕ) (rows rows' : List Row) → Type 0
MatchedFor c c' d x x' T T' rows rows' =
    Matched d (truth_at c) (truth_at c') (λ w. get_or x w false) (λ w. get_or x' w false) (active_of c x T (table_function rows)) (value_of c x) (value_of c' x') T T' rows rows'

-- One circuit, as its public part shows it.
module _ (c d : Wiring) (shows : Shows c d) (T : List ℕ) (f : HashFunction) (x : List Bool) where
  abbrev E : ℕ → Label
  E = active_of c x T f

  pub wired_of : Wired d (truth_at c) (λ w. get_or x w false) T f (false_of c T f) (value_of c x)
  wired_of = wired c T f shows.sound d shows.shown x

  pub met_of : (w : ℕ) → w < d.wires → label_in (labels_met c d T f x) w ≡ E w
  met_of = labels_right c shows.sound d shows.shown T f x

  pub gates_of_lem : sent_gates c T f ≡ map (λ w. (gate_of d (truth_at c) T f (false_of c T f) w).sent) (garbled_wires d)
  gates_of_lem =
      map-map (λ (g : GarbledGate). g.sent) (gate_at c T f) (garbled_wires c) ∙ ap (map (λ w. (gate_at c T f w).sent)) (sym (garbled_wires_shown c d shows.shown))
      ∙ map-where (is_garbled d) d.wires _ _ (λ w below picked.
      let gate = garbled_gate_lem d w picked in
      ap (λ (g : GarbledGate). g.sent) (gate_listed c T f shows.sound d shows.shown w (omega (arith, shows.shown.wires)) (omega (arith, shows.shown.inputs))))

  pub input_labels_of : input_labels c T f x ≡ map E (range_with_len 0 d.inputs)
  input_labels_of =
      fill_by_all E (input_labels c T f x) d.inputs (0, 0) (length-map-range_with_len _ 0 c.inputs ∙ sym shows.shown.inputs)
      (λ w input.
      input_found c shows.sound d shows.shown T f x w input
      ∙ ap (shifted halves (offset_in T) (false_of c T f w)) (sym (wired_of.input w (omega (arith, shows.among)) input).1))

  pub labels_met_of : labels_met c d T f x ≡ map E (range_with_len 0 d.wires)
  labels_met_of = fill_by_all E (labels_met c d T f x) d.wires (0, 0) (met_length d f (sent_gates c T f) (input_labels c T f x) d.wires) met_of

  -- The questions of gate w are those on the active labels of its pair.
  pub asked_of : (w : ℕ) → w < d.wires → is_garbled d w ≡ true
      → evaluate_asks_at d f (sent_gates c T f) (input_labels c T f x) w ≡ three_questions (E (first_at d w)) (E (second_at d w)) (gate_tweak w)
  asked_of w below picked =
      let l = wired_of.lower w below (garbled_gate_lem d w picked).0 in
      let at : (k : ℕ) → k < w → label_in (met_below d f (sent_gates c T f) (input_labels c T f x) w) k ≡ E k =
      λ k lower. met_below_lem d f (sent_gates c T f) (input_labels c T f x) w k below lower ∙ met_of k (omega arith) in
      λ i. three_questions (at (first_at d w) l.0 i) (at (second_at d w) l.1 i) (gate_tweak w)

  -- So are the answers for all gates, and those for the outputs.
  pub gate_answers_of : gate_answers c d T f x ≡ flat_map (λ w. answers_to f (three_questions (E (first_at d w)) (E (second_at d w)) (gate_tweak w))) (garbled_wires d)
  gate_answers_of =
      map-joined (λ (q : Question). f q.0 q.1) (evaluate_asks_at d f (sent_gates c T f) (input_labels c T f x)) (garbled_wires d)
      ∙ joined-where (is_garbled d) d.wires _ _ (λ w below picked. ap (answers_to f) (asked_of w below picked))

  pub output_answers_of : output_answers c d T f x ≡ flat_map (λ w. answers_to f (mark_questions d.wires w (E w))) (output_wires d)
  output_answers_of =
      map-joined (λ (q : Question). f q.0 q.1) (λ w. mark_questions d.wires w (label_in (labels_met c d T f x) w)) (output_wires d)
      ∙ joined-where (is_output d) d.wires _ _ (λ w below picked. ap (λ (l : Label). answers_to f (mark_questions d.wires w l)) (met_of w below))

-- Rows that are kept answer as before.
pub answers_kept : (rows rows' : List Row) (n : ℕ) → n ≤ most_wires → ((r : ℕ) → 3 * n ≤ r → row_at rows' r ≡ row_at rows r)
    → (w : ℕ) → w < n → (l : Label) → answers_to (table_function rows') (mark_questions n w l) ≡ answers_to (table_function rows) (mark_questions n w l)
answers_kept rows rows' n few kept w below l =
    let next : tweak_after (mark_tweak n w) 1 ≡ mark_tweak n w + 1 = tweak_small (mark_tweak n w) 1 (omega arith) in
    let second : row_at rows' (tweak_after (mark_tweak n w) 1) ≡ row_at rows (tweak_after (mark_tweak n w) 1) = kept _ (omega (arith, next)) in
    λ i. by_colour (kept (mark_tweak n w) (omega arith) i) (colour_of l) ∷ by_colour (second i) (colour_of l) ∷ []

-- What the server has of c and of c': the same is sent of all gates, the same labels are given and met, and the same answers.
pub record SeenAlike (c c' d : Wiring) (x x' : List Bool) (T T' : List ℕ) (f f' : HashFunction) : Type 0 where
  pub gates : sent_gates c' T' f' ≡ sent_gates c T f
  pub labels : input_labels c' T' f' x' ≡ input_labels c T f x
  pub met : labels_met c' d T' f' x' ≡ labels_met c d T f x
  pub gate_answers_lem : gate_answers c' d T' f' x' ≡ gate_answers c d T f x
  pub output_answers_lem : output_answers c' d T' f' x' ≡ output_answers c d T f x

-- Lists of labels are equal where the labels are.
same_list : {X : Type 0} (F G : ℕ → X) (n : ℕ) → ((w : ℕ) → w < n → F w ≡ G w) → map F (range_with_len 0 n) ≡ map G (range_with_len 0 n)
same_list F G n same =
    fill_by_all G (map F (range_with_len 0 n)) n (F 0) (length-map-range_with_len F 0 n) (λ w below. get_or-map-range_with_len F 0 n w w (F 0) below (zero-add w) ∙ same w below)

-- Two circuits with one public part.
module _ (c c' d : Wiring) (shows : Shows c d) (shows' : Shows c' d) (x x' : List Bool) (T T' : List ℕ) (rows rows' : List Row) (matched : MatchedFor c c' d x x' T T' rows rows') where
  abbrev f : HashFunction
  f = table_function rows

  abbrev f' : HashFunction
  f' = table_function rows'

  pub alike_of : Alike d (truth_at c) (truth_at c') T T' rows rows' (false_of c T f) (false_of c' T' f') (value_of c x) (value_of c' x')
  alike_of =
      alike d shows.few (truth_at c) (truth_at c') (λ w. get_or x w false) (λ w. get_or x' w false) T T' rows rows'
      (false_of c T f) (false_of c' T' f') (value_of c x) (value_of c' x') (wired_of c d shows T f x) (wired_of c' d shows' T' f' x') matched

  pub seen_alike : SeenAlike c c' d x x' T T' f f'
  seen_alike = record {
    gates =
        gates_of_lem c' d shows' T' f' x'
        ∙ map-where (is_garbled d) d.wires _ _ (λ w below picked. let g = garbled_gate_lem d w picked in alike_of.gates w below g.0 g.1)
        ∙ sym (gates_of_lem c d shows T f x);
    labels =
        input_labels_of c' d shows' T' f' x'
        ∙ same_list _ _ d.inputs (λ w input. alike_of.labels w (omega (arith, shows.among)))
        ∙ sym (input_labels_of c d shows T f x);
    met = labels_met_of c' d shows' T' f' x' ∙ same_list _ _ d.wires alike_of.labels ∙ sym (labels_met_of c d shows T f x);
    gate_answers_lem =
        gate_answers_of c' d shows' T' f' x'
        ∙ joined-where (is_garbled d) d.wires _ _ (λ w below picked. let g = garbled_gate_lem d w picked in alike_of.answers w below g.0 g.1)
        ∙ sym (gate_answers_of c d shows T f x);
    output_answers_lem =
        output_answers_of c' d shows' T' f' x'
        ∙ joined-where (is_output d) d.wires _ _ (λ w below picked.
        ap (λ (l : Label). answers_to f' (mark_questions d.wires w l)) (alike_of.labels w below)
        ∙ answers_kept rows rows' d.wires shows.few matched.rest w below (active_of c x T f w))
        ∙ sym (output_answers_of c d shows T f x);
  }
