-- One label for each wire: what holds below every line of every kept book.
use Rattle.std.specs.Prelude.{◌≡◌, ℕ, ◌+◌, ◌^◌, ◌<◌, ◌≤◌, true, false, List, ◌++◌, length, replicate}
use Rattle.label.specs.Labels.{Label}
use Rattle.wires.specs.Wires.{Wiring, side_at}
use Rattle.ledger.specs.declared.Ledger.{Ledger}
use Rattle.ledger.specs.Ledger.{entry_at, waiting_in, released_in}
use Rattle.ledger.specs.Store.{store_of, store_length, stored_offset, stored_label}
use Rattle.ledger.specs.Sheet.{sheet_of, sheet_inputs, mark_on, label_on}
use Rattle.entries.specs.declared.ClosedSitting.{ClosedSitting}
use Rattle.entries.specs.Book.{Line, opened_state, after_lines, closed_by, Kept, entered_by, released_by, last_bit_by, done_enters, done_releases, waiting_count, released_count, entry_by, false_label, bit_label, shown_by, left_by, labels_left}

-- A label whose halves have 64 bits.
abbrev pub Small : Label → Type 0
Small l = (l.0 < 2 ^ 64) × (l.1 < 2 ^ 64)

-- What a done opening goes by: as many inputs as a ledger has entries, a false label for each, all of 64 bits.
pub record Sound (c : Wiring) (Δ : Label) (ls : List Label) : Type 0 where
  pub few : c.inputs ≤ 512
  pub each : length ls ≡ c.inputs
  pub small : (w : ℕ) → w < c.inputs → Small (false_label ls w)
  pub offset : Small Δ

pub record OneLabelIn (side : ℕ) (c : Wiring) (Δ : Label) (ls : List Label) (lines : List Line) : Type 0 where
  -- No wire is released twice.
  pub once : (w : ℕ) → done_releases lines w ≤ 1
  -- What was entered is an input of the own side, and what was released was entered.
  pub own : (w : ℕ) → entered_by lines w ≡ true → (w < c.inputs) × (side_at c w ≡ side)
  pub released : (w : ℕ) → released_by lines w ≡ true → entered_by lines w ≡ true
  -- The sheet shows the labels of the released wires, each of its wire's last bit, and no other.
  pub sheet : (after_lines side c Δ ls lines).sheet ≡ sheet_of c.inputs (shown_by Δ ls lines)
  -- So it is read.
  pub inputs : sheet_inputs (after_lines side c Δ ls lines).sheet ≡ c.inputs
  pub shown : (w : ℕ) → w < c.inputs → released_by lines w ≡ true
      → (mark_on (after_lines side c Δ ls lines).sheet w ≡ 1)
      × (label_on c.inputs (after_lines side c Δ ls lines).sheet w ≡ bit_label Δ ls w (last_bit_by lines w))
  pub blank : (w : ℕ) → w < c.inputs → released_by lines w ≡ false
      → (mark_on (after_lines side c Δ ls lines).sheet w ≡ 0)
      × (label_on c.inputs (after_lines side c Δ ls lines).sheet w ≡ (0, 0))
  -- A label once there stays, whatever lines follow.
  pub stays : (more : List Line) → Kept (opened_state side c Δ ls) (more ++ lines) → (w : ℕ) → released_by lines w ≡ true
      → (mark_on (after_lines side c Δ ls (more ++ lines)).sheet w ≡ 1)
      × (label_on c.inputs (after_lines side c Δ ls (more ++ lines)).sheet w ≡ bit_label Δ ls w (last_bit_by lines w))
  -- Every wire that was entered waits or is released.
  pub enters : done_enters lines ≡ waiting_count lines c.inputs + released_count lines c.inputs
  -- The ledger has what the lines say, and its counts are theirs.
  pub entries : (w : ℕ) → entry_at (after_lines side c Δ ls lines).ledger w ≡ entry_by lines w
  pub waiting : waiting_in (after_lines side c Δ ls lines).ledger ≡ waiting_count lines c.inputs
  pub counted : released_in (after_lines side c Δ ls lines).ledger ≡ released_count lines c.inputs
  -- Until a close the store has the offset and the false labels, but zero for a released wire; then it is zero.
  pub store : closed_by lines ≡ false → (after_lines side c Δ ls lines).store ≡ store_of Δ (labels_left ls lines c.inputs)
  pub offset : closed_by lines ≡ false → stored_offset (after_lines side c Δ ls lines).store ≡ Δ
  pub left : closed_by lines ≡ false → (w : ℕ) → stored_label (after_lines side c Δ ls lines).store w ≡ left_by ls lines w
  pub zeroed : closed_by lines ≡ true → (after_lines side c Δ ls lines).store ≡ replicate (store_length c.inputs) 0

-- Every kept book over every opening. What lies below a line of a kept book is a kept book.
abbrev pub OneLabel : Type 0
OneLabel =
    (side : ℕ) (c : Wiring) (Δ : Label) (ls : List Label) → Sound c Δ ls
    → (lines : List Line) → Kept (opened_state side c Δ ls) lines → OneLabelIn side c Δ ls lines

-- A closed sitting answers what the lines count, in every kept book that ends with this ledger.
abbrev pub CountsLines : Ledger → ClosedSitting → Type 0
CountsLines ledger closed =
    (side : ℕ) (c : Wiring) (Δ : Label) (ls : List Label) → Sound c Δ ls
    → (lines : List Line) → Kept (opened_state side c Δ ls) lines → (after_lines side c Δ ls lines).ledger ≡ ledger
    → (closed.waiting ≡ waiting_count lines c.inputs) × (closed.released ≡ released_count lines c.inputs)
