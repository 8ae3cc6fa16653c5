-- The store of a sitting: the offset Δ and the false label of each input wire, two words each.
use Rattle.std.specs.Prelude.{ℕ, ◌+◌, ◌*◌, List, [], ◌∷◌, ◌++◌, slice_index, slice_set}
use Rattle.std.specs.List.{flat_map}
use Rattle.label.specs.Labels.{Label}

-- A label as two words, left before right.
abbrev pub label_words : Label → List ℕ
label_words l = l.0 ∷ l.1 ∷ []

-- The offset, then the labels.
abbrev pub store_of : Label → List Label → List ℕ
store_of Δ ls = label_words Δ ++ flat_map label_words ls

-- As many words are kept for m inputs.
abbrev pub store_length : ℕ → ℕ
store_length m = 2 + 2 * m

abbrev pub stored_offset : List ℕ → Label
stored_offset store = (slice_index store 0, slice_index store 1)

-- The false label of wire w.
abbrev pub stored_label : List ℕ → ℕ → Label
stored_label store w = (slice_index store (2 + 2 * w), slice_index store (3 + 2 * w))

-- The two words of wire w are zero, the rest stays.
abbrev pub without_label : List ℕ → ℕ → List ℕ
without_label store w = slice_set (slice_set store (2 + 2 * w) 0) (3 + 2 * w) 0
