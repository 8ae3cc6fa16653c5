-- The public part of a circuit: everything but the truth tables of its gates.
use Rattle.std.specs.Prelude.{◌≡◌, ℕ, ◌+◌, ◌*◌, ◌/◌, ◌<◌, ◌≤◌, cond, List, ◌++◌, map, None, Option, ◌==◌, nat_lt, slice_index}
use Rattle.std.specs.List.{range_with_len}
use Rattle.slices.specs.Little.{short_bytes}
use Rattle.wires.specs.Wires.{Wiring, kind_at, first_at, second_at, side_at, truth_at, class_at, is_input, is_output}
use Rattle.circuit.specs.Check.{Fault, unless}

-- A gate's kind with bits 0 to 3 zero; an input's as it is.
abbrev pub public_kind : Wiring → ℕ → ℕ
public_kind c w = cond (is_input c w) (kind_at c w) (kind_at c w / 16 * 16)

-- The arrays byte by byte: the public kinds, then the pairs as they are.
abbrev pub public_byte : Wiring → ℕ → ℕ
public_byte c i = cond (nat_lt i c.wires) (public_kind c i) (slice_index c.arrays i)

abbrev pub public_arrays : Wiring → List ℕ
public_arrays c = map (public_byte c) (range_with_len 0 (5 * c.wires))

-- The first bytes of them.
abbrev pub public_first : Wiring → ℕ → List ℕ
public_first c size = map (public_byte c) (range_with_len 0 size)

-- The public table: the sizes, then the public arrays.
abbrev pub public_table : Wiring → List ℕ
public_table c = short_bytes c.wires ++ (short_bytes c.inputs ++ public_arrays c)

-- It is written into a buffer of a table's length.
abbrev pub public_fault : Wiring → ℕ → Option Fault
public_fault c len = unless (len == 4 + 5 * c.wires) (4, 0) None

-- Circuit d shows all of circuit c but its truth tables.
pub record PublicOf (c d : Wiring) : Type 0 where
  pub wires : d.wires ≡ c.wires
  pub inputs : d.inputs ≡ c.inputs
  pub sides : (w : ℕ) → w < c.wires → w < c.inputs → side_at d w ≡ side_at c w
  pub classes : (w : ℕ) → w < c.wires → c.inputs ≤ w → class_at d w ≡ class_at c w
  pub blank : (w : ℕ) → w < c.wires → c.inputs ≤ w → truth_at d w ≡ 0
  pub outputs : (w : ℕ) → w < c.wires → is_output d w ≡ is_output c w
  pub firsts : (w : ℕ) → w < c.wires → first_at d w ≡ first_at c w
  pub seconds : (w : ℕ) → w < c.wires → second_at d w ≡ second_at c w
