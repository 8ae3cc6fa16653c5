-- What each call of an open sitting does to the ledger, the store and the sheet that it is lent, and when it cannot.
use Rattle.std.specs.Prelude.{ℕ, Bool, ◌&&◌, List, length, replicate, None, Option, ◌==◌, nat_lt}
use Rattle.circuit.specs.Check.{unless, or_else}
use Rattle.label.specs.Sums.{halves}
use Rattle.label.specs.Labels.{Label}
use Rattle.gate.specs.Sums.{shifted}
use Rattle.ledger.specs.declared.Act.TheVariants.{Enter as EnterAct, Change as ChangeAct, Release as ReleaseAct}
use Rattle.ledger.specs.declared.Ledger.{Ledger}
use Rattle.ledger.specs.Entries.{act_fault, bit_of}
use Rattle.ledger.specs.Ledger.{owner_at, entry_at, moved}
use Rattle.ledger.specs.Store.{store_length, stored_offset, stored_label, without_label}
use Rattle.ledger.specs.Sheet.{sheet_length, with_label}

-- An input wire is below the ledger's number of them, and has one of the 512 entries.
abbrev pub has_input : Ledger → ℕ → Bool
has_input l w = nat_lt w l.inputs && nat_lt w 512

-- What a call may find wrong with what it is given: a store or a sheet of another length, a wire that is no input, a number that is no bit, a wire of another side.
abbrev pub store_fault : Ledger → ℕ → Option (ℕ × ℕ)
store_fault l words = unless (words == store_length l.inputs) (10, 2) None

abbrev pub sheet_fault : Ledger → ℕ → Option (ℕ × ℕ)
sheet_fault l bytes = unless (bytes == sheet_length l.inputs) (10, 3) None

abbrev pub input_fault : Ledger → ℕ → Option (ℕ × ℕ)
input_fault l w = unless (has_input l w) (12, w) None

abbrev pub bit_fault : ℕ → ℕ → Option (ℕ × ℕ)
bit_fault w bit = unless (nat_lt bit 2) (13, w) None

abbrev pub side_fault : Ledger → ℕ → Option (ℕ × ℕ)
side_fault l w = unless (owner_at l w == l.side) (32, w) None

-- A wire with a bit for it, and a wire alone.
abbrev pub given_fault : Ledger → ℕ → ℕ → Option (ℕ × ℕ)
given_fault l w bit = or_else (input_fault l w) (or_else (bit_fault w bit) (side_fault l w))

abbrev pub wire_fault : Ledger → ℕ → Option (ℕ × ℕ)
wire_fault l w = or_else (input_fault l w) (side_fault l w)

-- Entering and changing a bit, by the ledger alone.
abbrev pub enter_fault : Ledger → ℕ → ℕ → Option (ℕ × ℕ)
enter_fault l w bit = or_else (given_fault l w bit) (act_fault (entry_at l w) (EnterAct (bit == 1)) w)

abbrev pub enter_after : Ledger → ℕ → ℕ → Ledger
enter_after l w bit = moved l w (EnterAct (bit == 1))

abbrev pub change_fault : Ledger → ℕ → ℕ → Option (ℕ × ℕ)
change_fault l w bit = or_else (given_fault l w bit) (act_fault (entry_at l w) (ChangeAct (bit == 1)) w)

abbrev pub change_after : Ledger → ℕ → ℕ → Ledger
change_after l w bit = moved l w (ChangeAct (bit == 1))

-- Releasing.
abbrev pub release_fault : Ledger → ℕ → ℕ → ℕ → Option (ℕ × ℕ)
release_fault l words bytes w =
    or_else (store_fault l words) (or_else (sheet_fault l bytes) (or_else (wire_fault l w) (act_fault (entry_at l w) ReleaseAct w)))

abbrev pub release_after : Ledger → ℕ → Ledger
release_after l w = moved l w ReleaseAct

-- The label of the bit that waits: the false label in the store, with the offset added for a 1.
abbrev pub label_for : Ledger → List ℕ → ℕ → Label
label_for l store w = shifted halves (stored_offset store) (stored_label store w) (bit_of (entry_at l w))

-- Closing: a store of another length.
abbrev pub close_fault : Ledger → ℕ → Option (ℕ × ℕ)
close_fault l words = store_fault l words

abbrev pub zeroed : List ℕ → List ℕ
zeroed store = replicate (length store) 0

-- A call, with the numbers given to it.
pub data Call : Type 0 where
  enter_call : ℕ → ℕ → Call
  change_call : ℕ → ℕ → Call
  release_call : ℕ → Call
  close_call : Call

-- What a sitting works on.
pub record State : Type 0 where
  pub ledger : Ledger
  pub store : List ℕ
  pub sheet : List ℕ

-- Why a call is refused; none where it is done.
abbrev pub step_fault : Call → State → Option (ℕ × ℕ)
step_fault (enter_call w bit) s = enter_fault s.ledger w bit
step_fault (change_call w bit) s = change_fault s.ledger w bit
step_fault (release_call w) s = release_fault s.ledger (length s.store) (length s.sheet) w
step_fault close_call s = close_fault s.ledger (length s.store)

-- What a call that is done leaves.
abbrev pub step_after : Call → State → State
step_after (enter_call w bit) s = record { ledger = enter_after s.ledger w bit; store = s.store; sheet = s.sheet }
step_after (change_call w bit) s = record { ledger = change_after s.ledger w bit; store = s.store; sheet = s.sheet }
step_after (release_call w) s = record {
  ledger = release_after s.ledger w;
  store = without_label s.store w;
  sheet = with_label s.ledger.inputs s.sheet w (label_for s.ledger s.store w);
}
step_after close_call s = record { ledger = s.ledger; store = zeroed s.store; sheet = s.sheet }
