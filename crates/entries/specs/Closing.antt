-- What closing a sitting answers: the counts of the ledger's entries, or the open sitting back with the fault.
use Rattle.std.specs.Prelude.{◌≡◌, ℕ, Some, None, Ok, Err, Option, Result}
use Rattle.refusal.specs.declared.Refusal.{Refusal}
use Rattle.refusal.specs.Told.{told}
use Rattle.ledger.specs.declared.Ledger.{Ledger}
use Rattle.ledger.specs.Ledger.{waiting_in, released_in}
use Rattle.opening.specs.declared.sitting.OpenSitting.{OpenSitting}
use Rattle.entries.specs.declared.ClosedSitting.{ClosedSitting}

abbrev pub FindsOrBack : OpenSitting → Result ClosedSitting (OpenSitting × Refusal) → Option (ℕ × ℕ) → Type 0
FindsOrBack sitting (Ok closed) fault = fault ≡ None
FindsOrBack sitting (Err e) fault = (e.0 ≡ sitting) × (fault ≡ Some (told e.1))

abbrev pub Counts : Ledger → ClosedSitting → Type 0
Counts l closed = (closed.waiting ≡ waiting_in l) × (closed.released ≡ released_in l)
