-- The wires of a circuit: what the arrays of a table say of each.
use Rattle.std.specs.Prelude.{ℕ, zero, suc, ◌+◌, ◌*◌, ◌/◌, ◌%◌, ◌^◌, Bool, true, false, cond, not, ◌&&◌, List, [], ◌∷◌, ◌++◌, ◌==◌, count_ones, nat_lt, slice_index}
use Rattle.slices.specs.Little.{short_at}
use Rattle.wires.specs.declared.Class.{Class}
use Rattle.wires.specs.declared.Class.TheVariants.{Free, Even, Odd, Hidden}

-- Bit k of a number.
abbrev pub bit : ℕ → ℕ → Bool
bit x k = x / 2 ^ k % 2 == 1

-- A bit as a number.
abbrev pub number : Bool → ℕ
number b = cond b 1 0

-- A number of wires, of which the first are inputs, and the arrays: a kind byte for each wire, then a pair of wires for each.
pub record Wiring : Type 0 where
  pub wires : ℕ
  pub inputs : ℕ
  pub arrays : List ℕ

abbrev pub kind_at : Wiring → ℕ → ℕ
kind_at c w = slice_index c.arrays w

-- The two wires of a pair, 16 bits each.
abbrev pub first_at : Wiring → ℕ → ℕ
first_at c w = short_at c.arrays (c.wires + 4 * w)

abbrev pub second_at : Wiring → ℕ → ℕ
second_at c w = short_at c.arrays (c.wires + 4 * w + 2)

-- The inputs come first; all other wires are gates.
abbrev pub is_input : Wiring → ℕ → Bool
is_input c w = nat_lt w c.inputs

-- Bit 7 of a kind marks an output.
abbrev pub is_output : Wiring → ℕ → Bool
is_output c w = bit (kind_at c w) 7

-- An input's other bits are the side that it belongs to.
abbrev pub side_at : Wiring → ℕ → ℕ
side_at c w = kind_at c w % 128

-- A gate's bits 0 to 3 are its truth table, bits 4 and 5 its class.
abbrev pub truth_at : Wiring → ℕ → ℕ
truth_at c w = kind_at c w % 16

abbrev pub class_of : ℕ → Class
class_of k = cond (k == 0) Free (cond (k == 1) Even (cond (k == 2) Odd Hidden))

abbrev pub class_at : Wiring → ℕ → Class
class_at c w = class_of (kind_at c w / 16 % 4)

-- What a truth table gives at u, v: its bit 2u + v.
abbrev pub truth : ℕ → Bool → Bool → Bool
truth t u v = bit t (2 * number u + number v)

-- The truth tables of a class: free is the exclusive or alone, even and odd go by the number of ones, hidden takes any.
abbrev pub allowed : Class → ℕ → Bool
allowed Free t = t == 6
allowed Even t = count_ones t % 2 == 0
allowed Odd t = count_ones t % 2 == 1
allowed Hidden t = true

abbrev pub is_free : Class → Bool
is_free Free = true
is_free Even = false
is_free Odd = false
is_free Hidden = false

-- A garbled gate: one of class even, odd or hidden, which costs ciphertexts and hash queries.
abbrev pub is_garbled : Wiring → ℕ → Bool
is_garbled c w = not (is_input c w) && not (is_free (class_at c w))

-- The wires below n that a test picks, in rising order.
unfoldable pub wires_where : (ℕ → Bool) → ℕ → List ℕ
wires_where p zero = []
wires_where p (suc w) = wires_where p w ++ cond (p w) (w ∷ []) []

abbrev pub output_wires : Wiring → List ℕ
output_wires c = wires_where (is_output c) c.wires

abbrev pub garbled_wires : Wiring → List ℕ
garbled_wires c = wires_where (is_garbled c) c.wires
