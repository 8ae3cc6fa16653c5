-- A kept book, shown: what a side does in a small round, so that no premise on books is one that nothing meets.
use Rattle.std.specs.Prelude.{◌≡◌, true, List, [], ◌∷◌}
use Rattle.label.specs.Labels.{Label}
use Rattle.wires.specs.Wires.{Wiring}
use Rattle.entries.specs.Steps.{enter_call, change_call, release_call, close_call}
use Rattle.entries.specs.Book.{Line, done_line, refused_line, opened_state, Kept, closed_by, released_by}
use Rattle.entries.specs.OneLabel.{Sound}

-- Three wires, two of them inputs, of side 0 and of side 1.
abbrev pub sample_circuit : Wiring
sample_circuit = record { wires = 3; inputs = 2; arrays = 0 ∷ 1 ∷ 168 ∷ [] }

abbrev pub sample_offset : Label
sample_offset = (1, 2)

abbrev pub sample_labels : List Label
sample_labels = (16, 32) ∷ (65, 130) ∷ []

-- Side 0 enters a bit, changes it, and releases it; a second change is refused, and the sitting is closed.
abbrev pub sample_lines : List Line
sample_lines = done_line close_call ∷ refused_line (change_call 0 0) ∷ done_line (release_call 0) ∷ done_line (change_call 0 1) ∷ done_line (enter_call 0 0) ∷ []

-- The opening is sound, and the book is kept.
pub record SampleKept : Type 0 where
  pub sound : Sound sample_circuit sample_offset sample_labels
  pub kept : Kept (opened_state 0 sample_circuit sample_offset sample_labels) sample_lines
  pub released : released_by sample_lines 0 ≡ true
  pub closed : closed_by sample_lines ≡ true
