-- The marks of the outputs, made last: by them a label that the server comes to is told to be the false or the true one.
use Rattle.std.specs.Prelude.{ℕ, Bool, true, false, ◌&&◌, List, [], ◌∷◌, map, Some, None, Option, ◌==◌}
use Rattle.std.specs.List.{flat_map}
use Rattle.label.specs.Sums.{halves}
use Rattle.label.specs.Labels.{Label}
use Rattle.label.specs.Hashes.{HashFunction, Question}
use Rattle.wires.specs.Wires.{Wiring, is_output, wires_where, output_wires}
use Rattle.gate.specs.Sums.{shifted}
use Rattle.gate.specs.Gates.{tweak_after}
use Rattle.garbling.specs.Tweaks.{mark_tweak}
use Rattle.garbling.specs.Garbling.{label_in}

-- A mark: two words.
abbrev pub Mark : Type 0
Mark = ℕ × ℕ

-- What is asked for the mark of a label at output w, in a circuit of n wires; and the mark: the words of the two answers.
abbrev pub mark_questions : ℕ → ℕ → Label → List Question
mark_questions n w l = (l, mark_tweak n w) ∷ (l, tweak_after (mark_tweak n w) 1) ∷ []

abbrev pub mark_of : HashFunction → ℕ → ℕ → Label → Mark
mark_of f n w l = ((f l (mark_tweak n w)).word, (f l (tweak_after (mark_tweak n w) 1)).word)

abbrev pub same_mark : Mark → Mark → Bool
same_mark a b = a.0 == b.0 && a.1 == b.1

-- The mark of wire w's label for a bit, where Δ is the offset and ls has the false labels.
abbrev pub mark_at : Wiring → HashFunction → Label → List Label → Bool → ℕ → Mark
mark_at c f Δ ls b w = mark_of f c.wires w (shifted halves Δ (label_in ls w) b)

-- The marks for one bit at all outputs, in rising wire order.
abbrev pub marks_of : Wiring → HashFunction → Label → List Label → Bool → List Mark
marks_of c f Δ ls b = map (mark_at c f Δ ls b) (output_wires c)

-- What is asked for the marks: at each output the false label's, then the true label's.
abbrev pub marks_ask_at : Wiring → Label → List Label → ℕ → List Question
marks_ask_at c Δ ls w =
    (label_in ls w, mark_tweak c.wires w) ∷ (label_in ls w, tweak_after (mark_tweak c.wires w) 1)
    ∷ mark_questions c.wires w (shifted halves Δ (label_in ls w) true)

abbrev pub marks_ask : Wiring → Label → List Label → List Question
marks_ask c Δ ls = flat_map (marks_ask_at c Δ ls) (output_wires c)

-- Whether the two marks of an output are equal.
abbrev pub equal_at : Wiring → HashFunction → Label → List Label → ℕ → Bool
equal_at c f Δ ls w = is_output c w && same_mark (mark_at c f Δ ls false w) (mark_at c f Δ ls true w)

-- The outputs below n whose two marks are equal: at such a one a label could not be told.
abbrev pub equal_below : Wiring → HashFunction → Label → List Label → ℕ → List ℕ
equal_below c f Δ ls n = wires_where (equal_at c f Δ ls) n

abbrev pub first_of : List ℕ → Option ℕ
first_of [] = None
first_of (w ∷ ws) = Some w
