-- The book of a sitting: the calls that it was given, each done or refused, and what the lines alone say of each wire.
use Rattle.std.specs.Prelude.{◌≡◌, ℕ, ◌+◌, Bool, true, false, cond, not, ◌&&◌, ◌||◌, List, [], ◌∷◌, map, length, Some, None, Option, ◌==◌, slice_index_or}
use Rattle.std.specs.List.{range_with_len}
use Rattle.label.specs.Sums.{halves}
use Rattle.label.specs.Labels.{Label}
use Rattle.gate.specs.Sums.{shifted}
use Rattle.wires.specs.Wires.{Wiring, number, wires_where}
use Rattle.ledger.specs.declared.Entry.{Entry}
use Rattle.ledger.specs.declared.Entry.TheVariants.{Empty, Waiting, Released}
use Rattle.ledger.specs.Ledger.{opened_ledger}
use Rattle.ledger.specs.Store.{store_of}
use Rattle.ledger.specs.Sheet.{blank_sheet}
use Rattle.entries.specs.Steps.{Call, enter_call, change_call, release_call, close_call, State, step_fault, step_after}

-- A line: a call, and whether it was done or refused. The newest line of a book comes first.
pub data Line : Type 0 where
  done_line : Call → Line
  refused_line : Call → Line

-- What an opening fills: the ledger of its side and circuit, the store of its offset and false labels, and a blank sheet.
abbrev pub opened_state : ℕ → Wiring → Label → List Label → State
opened_state side c Δ ls = record { ledger = opened_ledger side c; store = store_of Δ ls; sheet = blank_sheet c.inputs }

-- What lines leave of a state: a done call takes its step, a refused one changes nothing.
unfoldable pub state_after : State → List Line → State
state_after opening [] = opening
state_after opening (done_line call ∷ lines) = step_after call (state_after opening lines)
state_after opening (refused_line call ∷ lines) = state_after opening lines

-- What the lines leave of what an opening filled.
abbrev pub after_lines : ℕ → Wiring → Label → List Label → List Line → State
after_lines side c Δ ls lines = state_after (opened_state side c Δ ls) lines

abbrev pub is_done_close : Line → Bool
is_done_close (done_line (enter_call w bit)) = false
is_done_close (done_line (change_call w bit)) = false
is_done_close (done_line (release_call w)) = false
is_done_close (done_line close_call) = true
is_done_close (refused_line call) = false

-- Whether the sitting was closed.
unfoldable pub closed_by : List Line → Bool
closed_by [] = false
closed_by (line ∷ lines) = is_done_close line || closed_by lines

-- A done call has no fault in the state that the lines below it leave, which its opening filled and nothing else wrote.
-- A refused one, with any arguments, is refused on something that it was lent.
abbrev pub Holds : Line → State → Type 0
Holds (done_line call) below = step_fault call below ≡ None
Holds (refused_line call) below = (lent : State) × (fault : ℕ × ℕ) × (step_fault call lent ≡ Some fault)

-- A kept book: every line holds above the lines below it, and none stands above a done close.
unfoldable pub Kept : State → List Line → Type 0
Kept opening [] = Unit {0}
Kept opening (line ∷ lines) = Kept opening lines × (closed_by lines ≡ false) × Holds line (state_after opening lines)

-- Whether a line is a done enter, a done enter on wire w, a done release on wire w.
abbrev pub is_done_enter : Line → Bool
is_done_enter (done_line (enter_call v bit)) = true
is_done_enter (done_line (change_call v bit)) = false
is_done_enter (done_line (release_call v)) = false
is_done_enter (done_line close_call) = false
is_done_enter (refused_line call) = false

abbrev pub enters : Line → ℕ → Bool
enters (done_line (enter_call v bit)) w = v == w
enters (done_line (change_call v bit)) w = false
enters (done_line (release_call v)) w = false
enters (done_line close_call) w = false
enters (refused_line call) w = false

abbrev pub releases : Line → ℕ → Bool
releases (done_line (enter_call v bit)) w = false
releases (done_line (change_call v bit)) w = false
releases (done_line (release_call v)) w = v == w
releases (done_line close_call) w = false
releases (refused_line call) w = false

-- Whether wire w has a done enter, and a done release: it waits from the one to the other.
unfoldable pub entered_by : List Line → ℕ → Bool
entered_by [] w = false
entered_by (line ∷ lines) w = enters line w || entered_by lines w

unfoldable pub released_by : List Line → ℕ → Bool
released_by [] w = false
released_by (line ∷ lines) w = releases line w || released_by lines w

abbrev pub waiting_by : List Line → ℕ → Bool
waiting_by lines w = entered_by lines w && not (released_by lines w)

-- The last bit of wire w: that of its last done enter or change; 0 where there is none.
abbrev pub bit_after : Line → ℕ → Bool → Bool
bit_after (done_line (enter_call v bit)) w last = cond (v == w) (bit == 1) last
bit_after (done_line (change_call v bit)) w last = cond (v == w) (bit == 1) last
bit_after (done_line (release_call v)) w last = last
bit_after (done_line close_call) w last = last
bit_after (refused_line call) w last = last

unfoldable pub last_bit_by : List Line → ℕ → Bool
last_bit_by [] w = false
last_bit_by (line ∷ lines) w = bit_after line w (last_bit_by lines w)

-- How many lines are done enters, and how many are done releases of wire w.
unfoldable pub done_enters : List Line → ℕ
done_enters [] = 0
done_enters (line ∷ lines) = number (is_done_enter line) + done_enters lines

unfoldable pub done_releases : List Line → ℕ → ℕ
done_releases [] w = 0
done_releases (line ∷ lines) w = number (releases line w) + done_releases lines w

-- How many of the wires below m wait, and how many are released.
abbrev pub waiting_count : List Line → ℕ → ℕ
waiting_count lines m = length (wires_where (waiting_by lines) m)

abbrev pub released_count : List Line → ℕ → ℕ
released_count lines m = length (wires_where (released_by lines) m)

-- The entry of wire w.
abbrev pub entry_by : List Line → ℕ → Entry
entry_by lines w = cond (released_by lines w) Released (cond (waiting_by lines w) (Waiting (last_bit_by lines w)) Empty)

-- The false label of wire w among those of the inputs, and the label of a bit there: for 1 the offset is added.
abbrev pub false_label : List Label → ℕ → Label
false_label ls w = slice_index_or ls w (0, 0)

abbrev pub bit_label : Label → List Label → ℕ → Bool → Label
bit_label Δ ls w bit = shifted halves Δ (false_label ls w) bit

-- What is shown at wire w: the label of its last bit, once it is released.
abbrev pub shown_by : Label → List Label → List Line → ℕ → Option Label
shown_by Δ ls lines w = cond (released_by lines w) (Some (bit_label Δ ls w (last_bit_by lines w))) None

-- What the store still has of wire w: its false label, until it is released.
abbrev pub left_by : List Label → List Line → ℕ → Label
left_by ls lines w = cond (released_by lines w) (0, 0) (false_label ls w)

-- The false labels that the store still has, of m inputs.
abbrev pub labels_left : List Label → List Line → ℕ → List Label
labels_left ls lines m = map (left_by ls lines) (range_with_len 0 m)
