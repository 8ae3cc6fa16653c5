-- An accepted table is shown by its public table, and so is every other accepted table that has this one.
use Rattle.std.proofs.Common.{◌≡◌, ℕ, List, sym, subst, arith}
use Rattle.wires.specs.Wires.{Wiring}
use Rattle.circuit.specs.Accepted.{Accepted}
use Rattle.circuit.specs.Check.{table_wiring}
use Rattle.circuit.specs.Public.{PublicOf, public_table}
use Rattle.circuit.proofs.Publics.{public_of_lem}
use Rattle.circuit_laws.specs.CircuitBlind.{public_of}
use Rattle.circuit_laws.proofs.Shown.{Shows}

-- Any circuit that shows an accepted table's public part.
pub accepted_shows : (s : List ℕ) → Accepted s → (d : Wiring) → PublicOf (table_wiring s) d → Shows (table_wiring s) d
accepted_shows s accepted d shown =
    let h = accepted.sizes in
    record { sound = accepted.wires; shown = shown; few = omega (arith, shown.wires); among = omega (arith, shown.wires, shown.inputs) }

pub accepted_shown : (s : List ℕ) → Accepted s → Shows (table_wiring s) (public_of (table_wiring s))
accepted_shown s accepted =
    let h = accepted.sizes in
    accepted_shows s accepted (public_of (table_wiring s)) (public_of_lem (table_wiring s) (omega arith) (omega arith))

pub accepted_shown_too : (s s' : List ℕ) → Accepted s' → public_table (table_wiring s) ≡ public_table (table_wiring s') → Shows (table_wiring s') (public_of (table_wiring s))
accepted_shown_too s s' accepted same = subst (λ t. Shows (table_wiring s') (table_wiring t)) (sym same) (accepted_shown s' accepted)
