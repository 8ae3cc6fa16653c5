-- The words that labels are kept in while a circuit is garbled or evaluated: two for each wire.
use Rattle.std.specs.Prelude.{ℕ, ◌+◌, ◌*◌, cond, List, map, length, nat_lt, slice_index, slice_set}
use Rattle.std.specs.List.{range_with_len}
use Rattle.label.specs.Labels.{Label}

-- The label of wire w: words 2w and 2w + 1.
abbrev pub kept_at : List ℕ → ℕ → Label
kept_at ws w = (slice_index ws (2 * w), slice_index ws (2 * w + 1))

-- The labels of the wires below n.
unfoldable pub labels_kept : List ℕ → ℕ → List Label
labels_kept ws n = map (kept_at ws) (range_with_len 0 n)

-- The words with a label kept for wire w, where they have room for it.
abbrev pub keeping : List ℕ → ℕ → Label → List ℕ
keeping ws w l = cond (nat_lt (2 * w + 1) (length ws)) (slice_set (slice_set ws (2 * w) l.0) (2 * w + 1) l.1) ws
