-- The marks where drawn bytes and rows match: at a wire whose values differ the false and the true mark are exchanged; so equal marks stay equal, and where the outputs are equal the marks are the same.
use Rattle.std.proofs.Common.{◌≡◌, ℕ, ◌<◌, Bool, true, false, ◌&&◌, List, map, length, get_or, sym, refl, ap, ◌∙◌, arith}
use Rattle.label.specs.Sums.{halves, ◌⊻◌}
use Rattle.label.specs.Hashes.{HashFunction}
use Rattle.label.specs.Rows.{blank_answer, table_function}
use Rattle.label.specs.declared.hash.Answer.{Answer}
use Rattle.label.specs.declared.rows.Row.{Row}
use Rattle.label.proofs.Groups.{halves_laws}
use Rattle.wires.specs.Wires.{Wiring, is_output, wires_where}
use Rattle.gate.specs.Sums.{shifted}
use Rattle.gate_laws.proofs.Colours.{shifted_back}
use Rattle.circuit.specs.Plain.{plain_outputs}
use Rattle.garbling.specs.Tape.{offset_in}
use Rattle.garbling.specs.Garbling.{falses_of}
use Rattle.garbling.specs.Marks.{Mark, same_mark, mark_of, mark_at, marks_of, equal_at, equal_below}
use Rattle.circuit_laws.proofs.BitSums.{xor_same}
use Rattle.circuit_laws.proofs.Shifts.{shifted_by_both}
use Rattle.circuit_laws.proofs.Picked.{map-where, where_same, get_or-where}
use Rattle.circuit_laws.proofs.Shown.{Shows, outputs_shown, output_wires_shown}
use Rattle.circuit_laws.proofs.MarksRead.{same_swap}
use Rattle.circuit_laws.proofs.SameSeen.{value_of, false_of, MatchedFor, answers_kept, alike_of}

-- Two marks that may be exchanged are equal as before.
exchanged : (mark : Bool → Mark) (s : Bool) → same_mark (mark (s ⊻ false)) (mark (s ⊻ true)) ≡ same_mark (mark false) (mark true)
exchanged mark true = same_swap (mark true) (mark false)
exchanged mark false = refl

abbrev words_of : List Answer → Mark
words_of answers = ((get_or answers 0 blank_answer).word, (get_or answers 1 blank_answer).word)

module _ (c c' d : Wiring) (shows : Shows c d) (shows' : Shows c' d) (x x' : List Bool) (T T' : List ℕ) (rows rows' : List Row) (matched : MatchedFor c c' d x x' T T' rows rows') where
  abbrev f : HashFunction
  f = table_function rows

  abbrev f' : HashFunction
  f' = table_function rows'

  abbrev mark : Bool → ℕ → Mark
  mark b w = mark_at c f (offset_in T) (falses_of c T f) b w

  abbrev mark' : Bool → ℕ → Mark
  mark' b w = mark_at c' f' (offset_in T') (falses_of c' T' f') b w

  -- Whether the two values of a wire differ.
  abbrev differ : ℕ → Bool
  differ w = value_of c x w ⊻ value_of c' x' w

  same_wires : c'.wires ≡ c.wires
  same_wires = sym shows'.shown.wires ∙ shows.shown.wires

  in_public : (w : ℕ) → w < c.wires → w < d.wires
  in_public w below = omega (arith, shows.shown.wires)

  -- At a wire whose values differ the false label changes by the offset.
  pub false_moved : (w : ℕ) → w < c.wires → false_of c' T' f' w ≡ shifted halves (offset_in T) (false_of c T f w) (differ w)
  false_moved w below =
      sym (shifted_back halves halves_laws (offset_in T') (false_of c' T' f' w) (value_of c' x' w))
      ∙ (λ i. shifted halves (matched.offset i) ((alike_of c c' d shows shows' x x' T T' rows rows' matched).labels w (in_public w below) i) (value_of c' x' w))
      ∙ shifted_by_both (offset_in T) (false_of c T f w) (value_of c x w) (value_of c' x' w)

  -- So do the marks: the two of a wire are exchanged.
  pub mark_moved : (b : Bool) (w : ℕ) → w < c.wires → mark' b w ≡ mark (differ w ⊻ b) w
  mark_moved b w below =
      (λ i. mark_of f' (sym shows'.shown.wires i) w (shifted halves (matched.offset i) (false_moved w below i) b))
      ∙ ap (mark_of f' d.wires w) (shifted_by_both (offset_in T) (false_of c T f w) (differ w) b)
      ∙ ap words_of (answers_kept rows rows' d.wires shows.few matched.rest w (in_public w below) (shifted halves (offset_in T) (false_of c T f w) (differ w ⊻ b)))
      ∙ (λ i. mark_of f (shows.shown.wires i) w (shifted halves (offset_in T) (false_of c T f w) (differ w ⊻ b)))

  same_output : (w : ℕ) → w < c.wires → is_output c' w ≡ is_output c w
  same_output w below = sym (shows'.shown.outputs w (omega (arith, same_wires))) ∙ shows.shown.outputs w below

  -- The same outputs have equal marks, whatever the values.
  pub same_equal : equal_below c' f' (offset_in T') (falses_of c' T' f') c'.wires ≡ equal_below c f (offset_in T) (falses_of c T f) c.wires
  same_equal =
      ap (wires_where (equal_at c' f' (offset_in T') (falses_of c' T' f'))) same_wires
      ∙ where_same _ _ c.wires (λ w below.
      (λ i. same_output w below i && same_mark (mark_moved false w below i) (mark_moved true w below i))
      ∙ ap (λ (b : Bool). is_output c w && b) (exchanged (λ b. mark b w) (differ w)))

  module _ (outputs : plain_outputs c x ≡ plain_outputs c' x') where
    -- An output's value stands among the outputs.
    no_difference : (w : ℕ) → w < c.wires → is_output c w ≡ true → differ w ≡ false
    no_difference w below output =
        let place : length (wires_where (is_output c) w) ≡ length (wires_where (is_output c') w) =
        ap length (sym (outputs_shown c d shows.shown w (omega arith)) ∙ outputs_shown c' d shows'.shown w (omega (arith, same_wires))) in
        xor_same _ _
        (sym (get_or-where (is_output c) (value_of c x) c.wires w false below output)
        ∙ (λ i. get_or (outputs i) (place i) false)
        ∙ get_or-where (is_output c') (value_of c' x') c'.wires w false (omega (arith, same_wires)) (same_output w below ∙ output))

    pub same_marks : (b : Bool) → marks_of c' f' (offset_in T') (falses_of c' T' f') b ≡ marks_of c f (offset_in T) (falses_of c T f) b
    same_marks b =
        ap (map (mark' b)) (sym (output_wires_shown c' d shows'.shown) ∙ output_wires_shown c d shows.shown)
        ∙ map-where (is_output c) c.wires (mark' b) (mark b) (λ w below output.
        mark_moved b w below ∙ ap (λ (s : Bool). mark (s ⊻ b) w) (no_difference w below output))
