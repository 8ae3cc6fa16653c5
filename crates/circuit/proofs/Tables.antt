-- From the facts that the table check gathers to the first fault of a table.
use Rattle.std.proofs.Common.{◌≡◌, ℕ, ◌+◌, ◌*◌, ◌≤◌, List, length, None, sym, subst, eq-eqb, le-leb}
use Rattle.wires.specs.Wires.{Wiring, allowed, output_wires}
use Rattle.circuit.specs.Check.{or_else, sizes_fault, lowest_fault, outputs_fault, table_wiring, table_fault}

-- Two wirings are equal part by part.
pub same_wiring : (a b : Wiring) → a.wires ≡ b.wires → a.inputs ≡ b.inputs → a.arrays ≡ b.arrays → a ≡ b
same_wiring a b p q r = λ i. record { wires = p i; inputs = q i; arrays = r i }

-- Where sizes and length are sound, the first fault is that of the wires, else that of the number of outputs.
abbrev PastLength : List ℕ → Wiring → Type 0
PastLength s c =
    sizes_fault c.wires c.inputs ≡ None → length s ≡ 4 + 5 * c.wires
    → table_fault s ≡ or_else (lowest_fault allowed c c.wires) (outputs_fault (length (output_wires c)))

pub past_length : (s : List ℕ) (c : Wiring) → 4 ≤ length s → c ≡ table_wiring s → PastLength s c
past_length s c long same = subst (PastLength s) (sym same) (λ sizes whole. rw (le-leb _ _ long, sizes, eq-eqb _ _ whole))
