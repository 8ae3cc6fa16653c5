-- The outputs of a run: read by their marks, one byte each.
use Rattle.std.specs.Prelude.{◌≡◌, ℕ, ◌<◌, Bool, true, not, ◌&&◌, List, map, is_some, Some, None, Option, slice_index_or}
use Rattle.label.specs.Labels.{Label}
use Rattle.label.specs.Hashes.{HashFunction}
use Rattle.wires.specs.Wires.{Wiring, number, is_output, output_wires}
use Rattle.circuit.specs.Check.{Fault}
use Rattle.garbling.specs.Garbling.{label_in}
use Rattle.garbling.specs.Marks.{mark_of}
use Rattle.garbling.specs.Words.{labels_kept}
use Rattle.garbling.specs.Evaluation.{output_index, read_mark, output_at, outputs_read}
use Rattle.form.specs.Read.{false_marks_in, true_marks_in}
use Rattle.server.specs.Lowest.{lowest_where}

-- A bit as a byte.
abbrev pub bit_byte : Option Bool → ℕ
bit_byte None = 0
bit_byte (Some b) = number b

-- The lowest output whose label meets neither mark, where ls has the labels met on all wires.
unfoldable pub neither_fault : Wiring → List ℕ → HashFunction → List Label → Option Fault
neither_fault c F f ls =
    lowest_where 16 (λ w. is_output c w && not (is_some (output_at c f (false_marks_in F) (true_marks_in F) ls w))) c.wires

-- The bytes of all outputs, in rising wire order.
unfoldable pub output_bytes : Wiring → List ℕ → HashFunction → List Label → List ℕ
output_bytes c F f ls = map bit_byte (outputs_read c f (false_marks_in F) (true_marks_in F) ls)

-- The words hold the mark of each output in its label's place.
abbrev pub HoldMarks : Wiring → HashFunction → List Label → List ℕ → Type 0
HoldMarks c f ls ws =
    (w : ℕ) → w < c.wires → is_output c w ≡ true → label_in (labels_kept ws c.wires) w ≡ mark_of f c.wires w (label_in ls w)

-- The bit of output w, the k-th, by the mark that is kept for it.
abbrev pub kept_bit : Wiring → List ℕ → List ℕ → ℕ → ℕ → Option Bool
kept_bit c F ws w k = read_mark (slice_index_or (false_marks_in F) k (0, 0)) (slice_index_or (true_marks_in F) k (0, 0)) (label_in (labels_kept ws c.wires) w)

-- Whether wire w is an output whose mark is neither of its two.
abbrev pub kept_neither : Wiring → List ℕ → List ℕ → ℕ → ℕ → Bool
kept_neither c F ws w k = is_output c w && not (is_some (kept_bit c F ws w k))

abbrev pub kept_fault : Wiring → List ℕ → List ℕ → Option Fault
kept_fault c F ws = lowest_where 16 (λ w. kept_neither c F ws w (output_index c w)) c.wires

abbrev pub kept_bytes : Wiring → List ℕ → List ℕ → List ℕ
kept_bytes c F ws = map (λ w. bit_byte (kept_bit c F ws w (output_index c w))) (output_wires c)
