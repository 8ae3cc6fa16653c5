-- The faults of a table have numbers up to 8, so none of them is that of equal marks.
use Rattle.std.proofs.Common.{◌≡◌, ℕ, zero, suc, ◌+◌, ◌*◌, ◌≤◌, Bool, true, false, cond, not, ◌&&◌, eqb, ltb, leb, List, length, Some, None, Option, subst, arith}
use Rattle.std.proofs.lemmas.Bool.{ne_eqb}
use Rattle.refusal.specs.declared.Refusal.{Refusal}
use Rattle.refusal.specs.Told.{told}
use Rattle.wires.specs.declared.Class.{Class}
use Rattle.wires.specs.Wires.{Wiring, bit, kind_at, first_at, second_at, side_at, truth_at, class_at, is_input, allowed, output_wires}
use Rattle.circuit.specs.Check.{Fault, unless, or_else, sides, most_wires, most_inputs, most_outputs, sizes_fault, wire_fault, lowest_fault, table_wiring, table_fault}

-- A fault, if there is one, has a number up to 8.
abbrev UpToEight : Option Fault → Type 0
UpToEight None = Unit {0}
UpToEight (Some f) = f.0 ≤ 8

small_unless : (b : Bool) (f : Fault) (r : Option Fault) → f.0 ≤ 8 → UpToEight r → UpToEight (unless b f r)
small_unless true f r small rest = rest
small_unless false f r small rest = small

small_or_else : (a r : Option Fault) → UpToEight a → UpToEight r → UpToEight (or_else a r)
small_or_else None r first rest = rest
small_or_else (Some f) r first rest = first

small_cond : (b : Bool) (a r : Option Fault) → UpToEight a → UpToEight r → UpToEight (cond b a r)
small_cond true a r first rest = first
small_cond false a r first rest = rest

small_wire : (rule : Class → ℕ → Bool) (c : Wiring) (w : ℕ) → UpToEight (wire_fault rule c w)
small_wire rule c w =
    small_cond (is_input c w) _ _
    (small_unless (ltb (side_at c w) sides) (5, w) _ (omega arith)
    (small_unless (eqb (first_at c w) 0 && eqb (second_at c w) 0) (6, w) None (omega arith) tt))
    (small_unless (not (bit (kind_at c w) 6)) (5, w) _ (omega arith)
    (small_unless (ltb (first_at c w) w && ltb (second_at c w) w) (6, w) _ (omega arith)
    (small_unless (rule (class_at c w) (truth_at c w)) (7, w) None (omega arith) tt)))

small_wires : (rule : Class → ℕ → Bool) (c : Wiring) (n : ℕ) → UpToEight (lowest_fault rule c n)
unfolding lowest_fault
small_wires rule c zero = tt
small_wires rule c (suc n) = small_or_else _ _ (small_wires rule c n) (small_wire rule c n)

small_table : (s : List ℕ) → UpToEight (table_fault s)
small_table s =
    let c : Wiring = table_wiring s in
    small_unless (leb 4 (length s)) (1, 0) _ (omega arith)
    (small_or_else (sizes_fault c.wires c.inputs) _
    (small_unless (leb 1 c.wires && leb c.wires most_wires) (2, 0) _ (omega arith)
    (small_unless (leb 1 c.inputs && leb c.inputs most_inputs && leb c.inputs c.wires) (3, 0) None (omega arith) tt))
    (small_unless (eqb (length s) (4 + 5 * c.wires)) (4, 0) _ (omega arith)
    (small_or_else (lowest_fault allowed c c.wires) _ (small_wires allowed c c.wires)
    (small_unless (leb 1 (length (output_wires c)) && leb (length (output_wires c)) most_outputs) (8, 0) None (omega arith) tt))))

pub table_early : (s : List ℕ) (e : Refusal) → table_fault s ≡ Some (told e) → eqb (told e).0 36 ≡ false
table_early s e found =
    let small : (told e).0 ≤ 8 = subst UpToEight found (small_table s) in
    ne_eqb (told e).0 36 (λ same. omega (arith, small, same))
