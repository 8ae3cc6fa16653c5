-- How far the marking has come after some wires, and how one wire more takes it on.
use Rattle.std.proofs.Common.{◌≡◌, ℕ, ◌+◌, ◌*◌, Bool, true, false, cond, ◌&&◌, List, [], ◌∷◌, ◌++◌, map, length, Some, None, Option, sym, refl, ap, ◌∙◌, subst, arith}
use lib.ListN.{length-map}
use Rattle.std.specs.List.{flat_map}
use Rattle.std.proofs.lemmas.List.{map-append}
use Rattle.std.proofs.lemmas.Bool.{cond-true, cond-false, and_left}
use Rattle.label.specs.Sums.{halves}
use Rattle.label.specs.Labels.{Label, label_bytes}
use Rattle.label.specs.Hashes.{HashFunction, Question, Asked}
use Rattle.label.proofs.Chains.{asked_append}
use Rattle.wires.specs.Wires.{Wiring, is_output, wires_where, output_wires}
use Rattle.gate.specs.Sums.{shifted}
use Rattle.gate.specs.Gates.{tweak_after}
use Rattle.garbling.specs.Tweaks.{mark_tweak}
use Rattle.garbling.specs.Garbling.{label_in}
use Rattle.garbling.specs.Marks.{same_mark, mark_of, mark_questions, mark_at, marks_of, marks_ask_at, equal_at, equal_below, first_of}
use Rattle.garbling.specs.Evaluation.{output_index}
use Rattle.gate_laws.proofs.Colours.{not_shifted}
use Rattle.label.proofs.Groups.{halves_laws}
use Rattle.form.specs.Layout.{mark_bytes}
use Rattle.opening.specs.Rows.{Rows}
use Rattle.opening.specs.MarkSteps.{MarkPair, false_bytes, true_bytes, marks_at, asks_at, first_then}
use Rattle.slices.proofs.Widths.{length-joined}
use Rattle.opening.proofs.TwoRows.{rows_done}
use Rattle.opening.proofs.SoFar.{picked_more, map-one, joined-append}

-- The first of a list that goes on with one wire or none.
first_more : (ws : List ℕ) (b : Bool) (w : ℕ) → first_of (ws ++ cond b (w ∷ []) []) ≡ first_then (first_of ws) b w
first_more [] true w = refl
first_more [] false w = refl
first_more (v ∷ ws) b w = refl

-- A row over a map.
joined-map : {I J X : Type 0} (h : J → List X) (k : I → J) (is : List I) → flat_map h (map k is) ≡ flat_map (λ i. h (k i)) is
joined-map h k [] = refl
joined-map h k (i ∷ is) = ap (λ xs. h (k i) ++ xs) (joined-map h k is)

module _ (c : Wiring) (f : HashFunction) (Δ : Label) (ls : List Label) where
  -- The marks of the outputs below w, and the questions asked for them.
  abbrev pub marks_to : ℕ → List MarkPair
  marks_to w = map (marks_at c f Δ ls) (wires_where (is_output c) w)

  abbrev pub mark_asks_to : ℕ → List Question
  mark_asks_to w = flat_map (marks_ask_at c Δ ls) (wires_where (is_output c) w)

  marks_more : (w : ℕ) → marks_to (w + 1) ≡ marks_to w ++ cond (is_output c w) (marks_at c f Δ ls w ∷ []) []
  marks_more w =
      ap (map (marks_at c f Δ ls)) (picked_more (is_output c) w)
      ∙ map-append (marks_at c f Δ ls) (wires_where (is_output c) w) _
      ∙ ap (λ ps. marks_to w ++ ps) (map-one (marks_at c f Δ ls) (is_output c w) w)

  mark_asks_more : (w : ℕ) → mark_asks_to (w + 1) ≡ mark_asks_to w ++ asks_at c Δ ls w
  mark_asks_more w =
      ap (flat_map (marks_ask_at c Δ ls)) (picked_more (is_output c) w) ∙ joined-append (marks_ask_at c Δ ls) (wires_where (is_output c) w) (is_output c w) w

  equal_more : (w : ℕ) → first_of (equal_below c f Δ ls (w + 1)) ≡ first_then (first_of (equal_below c f Δ ls w)) (equal_at c f Δ ls w) w
  equal_more w = ap first_of (picked_more (equal_at c f Δ ls) w) ∙ first_more (equal_below c f Δ ls w) (equal_at c f Δ ls w) w

  length-marks : (w : ℕ) → length (marks_to w) ≡ output_index c w
  length-marks w = length-map (wires_where (is_output c) w) (marks_at c f Δ ls)

  -- The outputs below w are marked, in all o of them, and the first with equal marks is found.
  abbrev pub MarkedTo : ℕ → ℕ → ℕ → Option ℕ → List ℕ → Type 0
  MarkedTo o w next equal bs =
      (next ≡ output_index c w) × (equal ≡ first_of (equal_below c f Δ ls w)) × Rows false_bytes true_bytes (16 * o) (marks_to w) bs

  pub marked_none : (o : ℕ) (bs : List ℕ) → MarkedTo o 0 0 None bs
  unfolding wires_where
  marked_none o bs = (refl, refl, (refl, refl))

  pub marked_more : (o w next next' : ℕ) (equal equal' : Option ℕ) (bs bs' : List ℕ) (f' : HashFunction) → f' ≡ f → MarkedTo o w next equal bs
      → next' ≡ output_index c (w + 1)
      → equal' ≡ first_then equal (equal_at c f' Δ ls w) w
      → ((ps : List MarkPair) → length ps ≡ next → Rows false_bytes true_bytes (16 * o) ps bs
      → Rows false_bytes true_bytes (16 * o) (ps ++ cond (is_output c w) (marks_at c f' Δ ls w ∷ []) []) bs')
      → MarkedTo o (w + 1) next' equal' bs'
  marked_more o w next next' equal equal' bs bs' f' same (index, found, rows) index' found' row = (
    index',
    found' ∙ (λ i. first_then (found i) (equal_at c (same i) Δ ls w) w) ∙ sym (equal_more w),
    subst (λ ps. Rows false_bytes true_bytes (16 * o) ps bs')
        ((λ i. marks_to w ++ cond (is_output c w) (marks_at c (same i) Δ ls w ∷ []) []) ∙ sym (marks_more w))
        (row (marks_to w) (length-marks w ∙ sym index) rows),
  )

  pub marks_asked_none : {H : Type 0} (asks : H → Label → ℕ → H → Type 0) (h : H) → Asked asks (mark_asks_to 0) h h
  unfolding wires_where
  marks_asked_none asks h = refl

  pub marks_asked_more : {H : Type 0} (asks : H → Label → ℕ → H → Type 0) (w : ℕ) (h i k : H)
      → Asked asks (mark_asks_to w) h i → Asked asks (asks_at c Δ ls w) i k → Asked asks (mark_asks_to (w + 1)) h k
  marks_asked_more asks w h i k before here =
      subst (λ qs. Asked asks qs h k) (sym (mark_asks_more w)) (asked_append asks (mark_asks_to w) (asks_at c Δ ls w) h i k before here)

  -- After the last wire the marks fill their part.
  pub marks_done : (o next : ℕ) (equal : Option ℕ) (bs : List ℕ) → MarkedTo o c.wires next equal bs → o ≡ length (output_wires c)
      → length bs ≡ 32 * o → bs ≡ mark_bytes (marks_of c f Δ ls false) (marks_of c f Δ ls true)
  marks_done o next equal bs (index, found, rows) all long =
      let count = length-marks c.wires in
      let one = length-joined false_bytes 16 (λ p. refl) (marks_to c.wires) in
      let two = length-joined true_bytes 16 (λ p. refl) (marks_to c.wires) in
      rows_done false_bytes true_bytes (16 * o) (marks_to c.wires) bs rows (omega (arith, one, count, all)) (omega (arith, two, count, all, long))
      ∙ (λ i. (joined-map false_bytes (marks_at c f Δ ls) (output_wires c) ∙ sym (joined-map label_bytes (mark_at c f Δ ls false) (output_wires c))) i
      ++ (joined-map true_bytes (marks_at c f Δ ls) (output_wires c) ∙ sym (joined-map label_bytes (mark_at c f Δ ls true) (output_wires c))) i)

-- Nothing is found at a wire that is no output.
pub none_found : (c : Wiring) (f : HashFunction) (Δ : Label) (ls : List Label) (w : ℕ) (equal : Option ℕ) → is_output c w ≡ false
    → equal ≡ first_then equal (equal_at c f Δ ls w) w
none_found c f Δ ls w (Some v) passed = refl
none_found c f Δ ls w None passed = sym (cond-false _ _ _ (and_left _ _ passed))

-- The marks that were asked for, where the label is the wire's.
pub marks_are : (c : Wiring) (f : HashFunction) (Δ : Label) (ls : List Label) (w : ℕ) (l : Label) (p : MarkPair) → l ≡ label_in ls w
    → p ≡ (mark_of f c.wires w l, mark_of f c.wires w (shifted halves Δ l true)) → p ≡ marks_at c f Δ ls w
marks_are c f Δ ls w l p label value =
    value ∙ (λ i. (mark_of f c.wires w ((label ∙ sym (not_shifted halves halves_laws Δ (label_in ls w))) i), mark_of f c.wires w (shifted halves Δ (label i) true)))

pub found_is : (c : Wiring) (f : HashFunction) (Δ : Label) (ls : List Label) (w : ℕ) (p : MarkPair) (same : Bool) (equal equal' : Option ℕ)
    → is_output c w ≡ true → p ≡ marks_at c f Δ ls w → same ≡ same_mark p.0 p.1 → equal' ≡ first_then equal same w
    → equal' ≡ first_then equal (equal_at c f Δ ls w) w
found_is c f Δ ls w p same equal equal' picked pair told found =
    found ∙ ap (λ b. first_then equal b w)
    (told ∙ ap (λ (q : MarkPair). same_mark q.0 q.1) pair ∙ ap (λ b. b && same_mark (mark_at c f Δ ls false w) (mark_at c f Δ ls true w)) (sym picked))

pub asks_are : (c : Wiring) (Δ : Label) (ls : List Label) (w : ℕ) (l : Label) → is_output c w ≡ true → l ≡ label_in ls w
    → (l, mark_tweak c.wires w) ∷ (l, tweak_after (mark_tweak c.wires w) 1) ∷ mark_questions c.wires w (shifted halves Δ l true) ≡ asks_at c Δ ls w
asks_are c Δ ls w l picked label =
    (λ i. (label i, mark_tweak c.wires w) ∷ (label i, tweak_after (mark_tweak c.wires w) 1) ∷ mark_questions c.wires w (shifted halves Δ (label i) true))
    ∙ sym (cond-true (is_output c w) (marks_ask_at c Δ ls w) [] picked)
