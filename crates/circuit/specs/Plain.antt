-- The plain circuit: the value of each wire, and the outputs.
use Rattle.std.specs.Prelude.{◌≡◌, ℕ, zero, suc, ◌<◌, ◌≤◌, Bool, false, cond, List, [], ◌∷◌, ◌++◌, map, length, get_or, None, Option, ◌==◌, slice_index_or}
use Rattle.wires.specs.Wires.{Wiring, truth, truth_at, first_at, second_at, is_input, output_wires}
use Rattle.circuit.specs.Check.{Fault, unless}

-- The value of wire w, from the input bits x and the values of the wires below: an input's is the given bit, a gate's what its truth table gives at its pair's.
abbrev pub value_from : Wiring → List Bool → List Bool → ℕ → Bool
value_from c x below w =
    cond (is_input c w) (slice_index_or x w false) (truth (truth_at c w) (slice_index_or below (first_at c w) false) (slice_index_or below (second_at c w) false))

-- The values of the wires below n, wire by wire.
unfoldable pub values_below : Wiring → List Bool → ℕ → List Bool
values_below c x zero = []
values_below c x (suc w) = values_below c x w ++ (value_from c x (values_below c x w) w ∷ [])

abbrev pub values_of : Wiring → List Bool → List Bool
values_of c x = values_below c x c.wires

-- What stands at the outputs, in rising wire order.
abbrev pub at_outputs : Wiring → List Bool → List Bool
at_outputs c vs = map (λ w. get_or vs w false) (output_wires c)

abbrev pub plain_outputs : Wiring → List Bool → List Bool
plain_outputs c x = at_outputs c (values_of c x)

-- A plain run is lent room for the value of each wire and for each output.
abbrev pub plain_fault : Wiring → ℕ → ℕ → Option Fault
plain_fault c values outputs = unless (values == c.wires) (10, 4) (unless (outputs == length (output_wires c)) (10, 5) None)

-- Values and outputs belong together: inputs have the given bits, each gate the truth of its pair's values, and each output its wire's value.
pub record PlainRun (c : Wiring) (x vs os : List Bool) : Type 0 where
  pub wires : length vs ≡ c.wires
  pub inputs : (w : ℕ) → w < c.wires → w < c.inputs → slice_index_or vs w false ≡ slice_index_or x w false
  pub gates : (w : ℕ) → w < c.wires → c.inputs ≤ w → first_at c w < w → second_at c w < w
      → slice_index_or vs w false ≡ truth (truth_at c w) (slice_index_or vs (first_at c w) false) (slice_index_or vs (second_at c w) false)
  pub outputs : os ≡ at_outputs c vs
