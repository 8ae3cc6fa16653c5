-- An opening: when it is refused, and what it leaves in every lent buffer, done or refused.
use Rattle.std.specs.Prelude.{ℕ, ◌-◌, ◌*◌, Bool, true, false, cond, List, [], ◌++◌, map, length, take, replicate, Some, None, Ok, Err, Option, Result, ◌==◌, nat_le, nat_lt}
use Rattle.refusal.specs.declared.Buffer.TheVariants.{Form, Store, Sheet, Work}
use Rattle.refusal.specs.declared.Refusal.{Refusal}
use Rattle.refusal.specs.Told.{told, length_fault}
use Rattle.label.specs.Labels.{Label}
use Rattle.label.specs.Hashes.{HashFunction, Question}
use Rattle.wires.specs.Wires.{Wiring, garbled_wires, output_wires}
use Rattle.circuit.specs.Check.{Fault, unless, or_else, sides, table_wiring, table_fault}
use Rattle.gate.specs.declared.garble.GarbledGate.{GarbledGate}
use Rattle.gate.specs.declared.garble.SentGate.{SentGate}
use Rattle.garbling.specs.Tape.{need_of, drawn_for, offset_in}
use Rattle.garbling.specs.Garbling.{falses_of, gates_of, garble_asks}
use Rattle.garbling.specs.Marks.{Mark, marks_of, marks_ask, equal_below, first_of}
use Rattle.form.specs.Layout.{form_of, form_length}
use Rattle.ledger.specs.Store.{store_of, store_length}
use Rattle.ledger.specs.Sheet.{sheet_length}
use Rattle.opening.specs.declared.room.Room.{Room}

-- What a done opening sends, from the drawn bytes T and the hash function f: the garbled gates, and the marks for one bit at all outputs.
abbrev pub gates_sent : Wiring → List ℕ → HashFunction → List SentGate
gates_sent c T f = map (λ (g : GarbledGate). g.sent) (gates_of c T f)

abbrev pub marks_sent : Wiring → List ℕ → HashFunction → Bool → List Mark
marks_sent c T f b = marks_of c f (offset_in T) (falses_of c T f) b

-- The form, and the store: the offset and the inputs' false labels.
unfoldable pub opened_form : Wiring → List ℕ → HashFunction → List ℕ
opened_form c T f = form_of c (gates_sent c T f) (marks_sent c T f false) (marks_sent c T f true)

abbrev pub input_falses : Wiring → List ℕ → HashFunction → List Label
input_falses c T f = take c.inputs (falses_of c T f)

unfoldable pub opened_store : Wiring → List ℕ → HashFunction → List ℕ
opened_store c T f = store_of (offset_in T) (input_falses c T f)

-- What is asked of the hash: six questions for each garbled gate, then four for each output.
unfoldable pub open_asks : Wiring → List ℕ → HashFunction → List Question
open_asks c T f = garble_asks c T f ++ marks_ask c (offset_in T) (falses_of c T f)

-- The lengths of these lent buffers.
abbrev pub room_of : List ℕ → List ℕ → List ℕ → List ℕ → Room
room_of form store sheet work = record { form = length form; store = length store; sheet = length sheet; work = length work }

-- The first buffer of another length than wanted, for n wires, m inputs, q garbled gates and o outputs.
abbrev pub room_fault_for : ℕ → ℕ → ℕ → ℕ → Room → Option Fault
room_fault_for n m q o room =
    or_else (length_fault (form_length n q o) Form room.form)
    (or_else (length_fault (store_length m) Store room.store)
    (or_else (length_fault (sheet_length m) Sheet room.sheet) (length_fault (2 * n) Work room.work)))

abbrev pub room_fault : Wiring → Room → Option Fault
room_fault c room = room_fault_for c.wires c.inputs (length (garbled_wires c)) (length (output_wires c)) room

-- Less tape is left than the need; of a place past the end nothing is left.
abbrev pub tape_fault : Wiring → List ℕ → ℕ → Option Fault
tape_fault c tape place = unless (nat_le (need_of c) (length tape - place)) (31, 0) None

-- What is found before anything is drawn or asked: the side, the table, the lengths, the tape.
abbrev pub lent_fault : List ℕ → Room → Option Fault
lent_fault s room = or_else (table_fault s) (room_fault (table_wiring s) room)

abbrev pub call_fault : ℕ → List ℕ → Room → Option Fault
call_fault side s room = unless (nat_lt side sides) (11, 0) (lent_fault s room)

abbrev pub early_fault : ℕ → List ℕ → Room → List ℕ → ℕ → Option Fault
early_fault side s room tape place = or_else (call_fault side s room) (tape_fault (table_wiring s) tape place)

-- The lowest output whose two marks are equal.
unfoldable pub equal_output : Wiring → List ℕ → HashFunction → Option ℕ
equal_output c T f = first_of (equal_below c f (offset_in T) (falses_of c T f) c.wires)

-- One thing where no output has equal marks, another where one has.
abbrev pub unless_equal : {X : Type 0} → Option ℕ → X → X → X
unless_equal None done blank = done
unless_equal (Some w) done blank = blank

abbrev pub marks_fault : Option ℕ → Option Fault
marks_fault None = None
marks_fault (Some w) = Some (36, w)

abbrev pub open_fault : ℕ → List ℕ → Room → List ℕ → ℕ → HashFunction → Option Fault
open_fault side s room tape place f =
    or_else (early_fault side s room tape place)
    (marks_fault (equal_output (table_wiring s) (drawn_for (table_wiring s) tape place) f))

-- What stands afterwards: one thing where the call is done, another where two marks were equal, and what was there where it is refused for any other cause.
abbrev pub left : {S X : Type 0} → Result S Refusal → X → X → X → X
left (Ok s) done blank before = done
left (Err e) done blank before = cond ((told e).0 == 36) blank before

-- Zeros in the place of what was there.
abbrev pub zeros : List ℕ → List ℕ
zeros xs = replicate (length xs) 0

-- Whether the hash is asked: only a call that comes to the marks asks, and then everything.
abbrev pub asked_by : {S : Type 0} → Result S Refusal → List Question → List Question
asked_by r qs = left r qs qs []
