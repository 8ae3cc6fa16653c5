-- One entry of a ledger: what a call does to it, and when it cannot.
use Rattle.std.specs.Prelude.{ℕ, Bool, true, false, Some, None, Option}
use Rattle.ledger.specs.declared.Entry.{Entry}
use Rattle.ledger.specs.declared.Entry.TheVariants.{Empty, Waiting, Released}
use Rattle.ledger.specs.declared.Act.{Act}
use Rattle.ledger.specs.declared.Act.TheVariants.{Enter, Change, Release}

-- An empty entry can be entered, a waiting one changed or released, a released one nothing; else the number and the wire.
abbrev pub act_fault : Entry → Act → ℕ → Option (ℕ × ℕ)
act_fault Empty (Enter b) w = None
act_fault Empty (Change b) w = Some (35, w)
act_fault Empty Release w = Some (35, w)
act_fault (Waiting a) (Enter b) w = Some (34, w)
act_fault (Waiting a) (Change b) w = None
act_fault (Waiting a) Release w = None
act_fault Released (Enter b) w = Some (33, w)
act_fault Released (Change b) w = Some (33, w)
act_fault Released Release w = Some (33, w)

-- What an act makes of the entry.
abbrev pub act_after : Entry → Act → Entry
act_after e (Enter b) = Waiting b
act_after e (Change b) = Waiting b
act_after e Release = Released

-- The bit that an entry stands for, 0 where it has none.
abbrev pub bit_of : Entry → Bool
bit_of Empty = false
bit_of (Waiting b) = b
bit_of Released = false

-- The bit that an act speaks of: the one given, or the one that waited.
abbrev pub act_bit : Entry → Act → Bool
act_bit e (Enter b) = b
act_bit e (Change b) = b
act_bit e Release = bit_of e

abbrev pub is_waiting : Entry → Bool
is_waiting Empty = false
is_waiting (Waiting b) = true
is_waiting Released = false

abbrev pub is_released : Entry → Bool
is_released Empty = false
is_released (Waiting b) = false
is_released Released = true
