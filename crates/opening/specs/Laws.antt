-- What holds of every opening: both sides open alike, and a wire's two labels are told apart by their colours.
use Rattle.std.specs.Prelude.{◌≡◌, ℕ, ◌+◌, ◌<◌, true, not, List, None}
use Rattle.label.specs.Sums.{halves}
use Rattle.label.specs.Labels.{Label, colour_of}
use Rattle.label.specs.Hashes.{HashFunction}
use Rattle.circuit.specs.Check.{sides, table_wiring}
use Rattle.gate.specs.Sums.{shifted}
use Rattle.garbling.specs.Tape.{offset_in, need_of, drawn_for}
use Rattle.opening.specs.declared.room.Room.{Room}
use Rattle.opening.specs.Opening.{opened_form, opened_store, open_fault}

-- A done opening, as one side, of a table, a tape at a place and a hash function: what form, store and place it leaves.
pub record Opened (side : ℕ) (table tape : List ℕ) (place : ℕ) (f : HashFunction) (form store : List ℕ) (after : ℕ) : Type 0 where
  pub room : Room
  pub done : open_fault side table room tape place f ≡ None
  pub form_is : form ≡ opened_form (table_wiring table) (drawn_for (table_wiring table) tape place) f
  pub store_is : store ≡ opened_store (table_wiring table) (drawn_for (table_wiring table) tape place) f
  pub after_is : after ≡ place + need_of (table_wiring table)

-- Two sides that open with the same table, tape, place and hash get the same form, store and place; and where one is done with such buffers, so is the other.
pub record Alike : Type 0 where
  pub same : (side side' : ℕ) (table tape : List ℕ) (place : ℕ) (f : HashFunction) (form form' store store' : List ℕ) (after after' : ℕ)
      → Opened side table tape place f form store after → Opened side' table tape place f form' store' after'
      → (form ≡ form') × (store ≡ store') × (after ≡ after')
  pub both : (side side' : ℕ) (table tape : List ℕ) (place : ℕ) (f : HashFunction) (room : Room) → side < sides → side' < sides
      → open_fault side table room tape place f ≡ open_fault side' table room tape place f

-- Whatever was drawn, a label and the one that differs from it by the offset have different colours.
abbrev pub ColoursDiffer : Type 0
ColoursDiffer = (T : List ℕ) (l : Label) → colour_of (shifted halves (offset_in T) l true) ≡ not (colour_of l)
