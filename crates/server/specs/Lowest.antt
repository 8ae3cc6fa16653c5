-- The lowest wire that a test picks, told as a fault.
use Rattle.std.specs.Prelude.{ℕ, zero, suc, Bool, cond, Some, None, Option}
use Rattle.circuit.specs.Check.{Fault, or_else}

-- The fault of number k at the lowest wire below n that the test picks, if it picks any.
unfoldable pub lowest_where : ℕ → (ℕ → Bool) → ℕ → Option Fault
lowest_where k p zero = None
lowest_where k p (suc w) = or_else (lowest_where k p w) (cond (p w) (Some (k, w)) None)
