-- The ledger: what an opening makes of it, how it is read, and how one entry changes.
use Rattle.std.specs.Prelude.{ℕ, cond, List, map, length, replicate, Some, Option, nat_lt, slice_index, slice_index_or, slice_set}
use Rattle.std.specs.List.{range_with_len}
use Rattle.wires.specs.Wires.{Wiring, is_input, side_at, wires_where}
use Rattle.ledger.specs.declared.Entry.{Entry}
use Rattle.ledger.specs.declared.Entry.TheVariants.{Empty}
use Rattle.ledger.specs.declared.Act.{Act}
use Rattle.ledger.specs.declared.Ledger.{Ledger}
use Rattle.ledger.specs.Entries.{act_fault, act_after, is_waiting, is_released}

-- Every entry is empty.
abbrev pub no_entries : List Entry
no_entries = replicate 512 Empty

-- The ledger of no sitting.
abbrev pub empty_ledger : Ledger
empty_ledger = record { side = 0; inputs = 0; sides = replicate 512 0; entries = no_entries }

-- The side that wire w belongs to: an input's own, else 0.
abbrev pub owner_of : Wiring → ℕ → ℕ
owner_of c w = cond (is_input c w) (side_at c w) 0

-- The sides of the wires below n.
unfoldable pub owners_of : Wiring → ℕ → List ℕ
owners_of c n = map (owner_of c) (range_with_len 0 n)

-- What an opening leaves: its own side, the inputs with their sides, and no entry.
abbrev pub opened_ledger : ℕ → Wiring → Ledger
opened_ledger side c = record { side = side; inputs = c.inputs; sides = owners_of c 512; entries = no_entries }

abbrev pub owner_at : Ledger → ℕ → ℕ
owner_at l w = slice_index l.sides w

abbrev pub entry_at : Ledger → ℕ → Entry
entry_at l w = slice_index_or l.entries w Empty

-- One entry is another, and the rest stays.
abbrev pub put_entry : Ledger → ℕ → Entry → Ledger
put_entry l w e = record { side = l.side; inputs = l.inputs; sides = l.sides; entries = slice_set l.entries w e }

-- An act on the entry of wire w: there are 512.
abbrev pub move_fault : Ledger → ℕ → Act → Option (ℕ × ℕ)
move_fault l w act = cond (nat_lt w 512) (act_fault (entry_at l w) act w) (Some (12, w))

abbrev pub moved : Ledger → ℕ → Act → Ledger
moved l w act = put_entry l w (act_after (entry_at l w) act)

-- How many entries wait, and how many are released.
abbrev pub waiting_in : Ledger → ℕ
waiting_in l = length (wires_where (λ w. is_waiting (entry_at l w)) 512)

abbrev pub released_in : Ledger → ℕ
released_in l = length (wires_where (λ w. is_released (entry_at l w)) 512)
