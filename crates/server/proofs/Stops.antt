-- A run that nothing stops early: the fault that is left, and all that it asks.
use Rattle.std.proofs.Common.{◌≡◌, List, None, Option}
use Rattle.label.specs.Hashes.{Question}
use Rattle.circuit.specs.Check.{Fault, or_else}
use Rattle.server.specs.Runs.{asked_unless}

-- Where the first three of four faults are none.
pub go_on : (lengths sheets missing neither : Option Fault) (qs : List Question) → lengths ≡ None → sheets ≡ None → missing ≡ None
    → (or_else (or_else lengths (or_else sheets missing)) neither ≡ neither) × (asked_unless (or_else lengths (or_else sheets missing)) qs ≡ qs)
go_on lengths sheets missing neither qs none none' none'' = (
  (λ i. or_else (or_else (none i) (or_else (none' i) (none'' i))) neither),
  λ i. asked_unless (or_else (none i) (or_else (none' i) (none'' i))) qs,
)
