-- The sheet that a side hands to the server: the number of input wires, a mark for each, 1 where a label stands, and room for each label.
use Rattle.std.specs.Prelude.{ℕ, ◌+◌, ◌*◌, List, ◌++◌, map, take, drop, replicate, Some, None, Option, slice_index, slice_set}
use Rattle.std.specs.List.{range_with_len, flat_map}
use Rattle.slices.specs.Little.{short_bytes, short_at}
use Rattle.label.specs.Labels.{Label, label_bytes, label_at}

-- As many bytes are kept for m inputs.
abbrev pub sheet_length : ℕ → ℕ
sheet_length m = 2 + 17 * m

-- What an opening leaves: no mark and no label.
abbrev pub blank_sheet : ℕ → List ℕ
blank_sheet m = short_bytes m ++ replicate (17 * m) 0

-- The mark and the 16 bytes of a wire whose label is shown, or is not.
abbrev pub mark_byte : Option Label → ℕ
mark_byte None = 0
mark_byte (Some l) = 1

abbrev pub shown_bytes : Option Label → List ℕ
shown_bytes None = replicate 16 0
shown_bytes (Some l) = label_bytes l

-- What is shown at the wires below m.
abbrev pub shown_below : ℕ → (ℕ → Option Label) → List (Option Label)
shown_below m shown = map shown (range_with_len 0 m)

-- The sheet of m inputs that shows these labels at these wires.
abbrev pub sheet_of : ℕ → (ℕ → Option Label) → List ℕ
sheet_of m shown = short_bytes m ++ (map mark_byte (shown_below m shown) ++ flat_map shown_bytes (shown_below m shown))

-- How a sheet is read: its number of inputs, the mark of wire w, and the label in the room of wire w, among m.
abbrev pub sheet_inputs : List ℕ → ℕ
sheet_inputs sheet = short_at sheet 0

abbrev pub mark_on : List ℕ → ℕ → ℕ
mark_on sheet w = slice_index sheet (2 + w)

abbrev pub room_at : ℕ → ℕ → ℕ
room_at m w = 2 + m + 16 * w

abbrev pub label_on : ℕ → List ℕ → ℕ → Label
label_on m sheet w = label_at sheet (room_at m w)

-- The sheet with a label written: its mark is 1, its bytes stand in its room, and the rest stays.
abbrev pub with_label : ℕ → List ℕ → ℕ → Label → List ℕ
with_label m sheet w l =
    take (room_at m w) (slice_set sheet (2 + w) 1) ++ (label_bytes l ++ drop (room_at m w + 16) (slice_set sheet (2 + w) 1))
