-- The sheets of all sides: whose label is read where, and what makes them faulty.
use Rattle.std.specs.Prelude.{ℕ, suc, ◌*◌, Bool, true, cond, not, ◌&&◌, List, [], ◌∷◌, map, length, is_some, Some, None, Option, ◌==◌, nat_lt, slice_index_or}
use Rattle.std.specs.List.{range_with_len}
use Rattle.std.specs.Option.{unwrap_or}
use Rattle.label.specs.Labels.{Label}
use Rattle.wires.specs.Wires.{Wiring, side_at, output_wires}
use Rattle.circuit.specs.Check.{Fault, unless}
use Rattle.ledger.specs.Sheet.{sheet_length, sheet_inputs, mark_on, label_on}
use Rattle.server.specs.declared.sheets.Sheets.{Sheets}
use Rattle.server.specs.Lowest.{lowest_where}

-- The sheets by side.
abbrev pub sheets_of : Sheets → List (List ℕ)
sheets_of s = map (λ sheet. sheet.now) s.by_side

abbrev pub sheet_at : List (List ℕ) → ℕ → List ℕ
sheet_at sheets side = slice_index_or sheets side []

-- The label of wire w on a sheet of m inputs: none where its mark is not 1.
abbrev pub label_read : ℕ → List ℕ → ℕ → Option Label
label_read m sheet w = cond (mark_on sheet w == 1) (Some (label_on m sheet w)) None

-- Each input label comes from its owner's sheet.
abbrev pub own_label : Wiring → List (List ℕ) → ℕ → Option Label
own_label c sheets w = label_read c.inputs (sheet_at sheets (side_at c w)) w

-- The labels of all inputs.
unfoldable pub inputs_on : Wiring → List (List ℕ) → List Label
inputs_on c sheets = map (λ w. unwrap_or (own_label c sheets w) (0, 0)) (range_with_len 0 c.inputs)

-- Of its owner, wire w has the mark 0 or 1 on the sheet; of another side, 0.
abbrev pub mark_sound : Wiring → ℕ → List ℕ → ℕ → Bool
mark_sound c side sheet w = cond (side_at c w == side) (nat_lt (mark_on sheet w) 2) (mark_on sheet w == 0)

-- The same on the sheets of this side and of those after it.
abbrev pub sound_from : Wiring → ℕ → List (List ℕ) → ℕ → Bool
sound_from c side [] w = true
sound_from c side (sheet ∷ rest) w = mark_sound c side sheet w && sound_from c (suc side) rest w

abbrev pub marks_sound : Wiring → List (List ℕ) → ℕ → Bool
marks_sound c sheets w = sound_from c 0 sheets w

-- Every sheet is made for as many inputs as the form has.
abbrev pub sheets_fit : Wiring → List (List ℕ) → Bool
sheets_fit c [] = true
sheets_fit c (sheet ∷ rest) = sheet_inputs sheet == c.inputs && sheets_fit c rest

-- The lowest wire with a wrong mark.
abbrev pub marks_fault : Wiring → List (List ℕ) → Option Fault
marks_fault c sheets = lowest_where 15 (λ w. not (marks_sound c sheets w)) c.inputs

-- The first fault of the sheets: their numbers of inputs, then their marks.
abbrev pub sheets_fault : Wiring → List (List ℕ) → Option Fault
sheets_fault c sheets = unless (sheets_fit c sheets) (15, 0) (marks_fault c sheets)

-- The lowest input whose label has not come.
abbrev pub missing_fault : Wiring → List (List ℕ) → Option Fault
missing_fault c sheets = lowest_where 37 (λ w. not (is_some (own_label c sheets w))) c.inputs

-- The lengths of the sheets, of the work words and of the outputs, by the places that name them.
abbrev pub lengths_fault : Wiring → List (List ℕ) → ℕ → ℕ → Option Fault
lengths_fault c sheets work outputs =
    unless (length (sheet_at sheets 0) == sheet_length c.inputs) (10, 3)
    (unless (work == 2 * c.wires) (10, 4)
    (unless (outputs == length (output_wires c)) (10, 5)
    (unless (length (sheet_at sheets 1) == sheet_length c.inputs) (10, 7) None)))
