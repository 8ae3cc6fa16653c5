-- The public table as it is written, and what it shows of the circuit.
use Rattle.std.proofs.Common.{◌≡◌, ℕ, ◌+◌, ◌-◌, ◌*◌, ◌/◌, ◌%◌, ◌<◌, ◌≤◌, eqb, List, [], ◌∷◌, ◌++◌, length, get_or, drop, sym, refl, ap, ◌∙◌, subst, inl, inr, arith}
use borrow.Rule.Slice.PartMut.{put_mid}
use Rattle.std.proofs.lemmas.List.FromFn.{get_or-map-range_with_len}
use Rattle.std.proofs.lemmas.List.{append-nil, drop_all}
use Rattle.std.proofs.lemmas.Bool.{cases_lt, lt-ltb, le-ltb, cond-true, cond-false}
use Rattle.slices.specs.Little.{short_at}
use Rattle.wires.specs.Wires.{Wiring, bit, kind_at, class_of}
use Rattle.circuit.specs.Check.{table_wiring}
use Rattle.circuit.specs.Public.{public_kind, public_byte, public_arrays, public_table, PublicOf}
use Rattle.circuit.proofs.Tables.{same_wiring}

-- Four bytes written in front, and the rest as a part.
pub four_and_rest : (xs front ys : List ℕ) (a b c d : ℕ) → 4 ≤ length xs → front ≡ a ∷ b ∷ c ∷ d ∷ []
    → (let zs : List ℕ = front ++ drop 4 xs in put_mid 4 (length zs - 4) zs ys) ≡ a ∷ b ∷ c ∷ d ∷ ys
four_and_rest xs front ys a b c d long is =
    ap (λ (f : List ℕ). let zs : List ℕ = f ++ drop 4 xs in put_mid 4 (length zs - 4) zs ys) is
    ∙ ap (λ r. a ∷ b ∷ c ∷ d ∷ (ys ++ r)) (drop_all _ (drop 4 xs) (omega arith)) ∙ ap (λ r. a ∷ b ∷ c ∷ d ∷ r) (append-nil ys)

-- A number of 16 bits is that of its two bytes.
short_from_bytes : (n : ℕ) → n < 65536 → n % 256 + n / 256 % 256 * 256 ≡ n
short_from_bytes n fits = omega arith

-- The public table read as a table.
read_back : (c : Wiring) → c.wires < 65536 → c.inputs < 65536
    → table_wiring (public_table c) ≡ record { wires = c.wires; inputs = c.inputs; arrays = public_arrays c }
read_back c fits fits' = same_wiring _ _ (short_from_bytes c.wires fits) (short_from_bytes c.inputs fits') refl

public_at : (c : Wiring) (i : ℕ) → i < 5 * c.wires → get_or (public_arrays c) i 0 ≡ public_byte c i
public_at c i below = get_or-map-range_with_len (public_byte c) 0 (5 * c.wires) i i 0 below (omega arith)

kind_kept : (c : Wiring) (w : ℕ) → w < c.wires → get_or (public_arrays c) w 0 ≡ public_kind c w
kind_kept c w below = public_at c w (omega arith) ∙ cond-true _ _ _ (lt-ltb w c.wires below)

input_kept : (c : Wiring) (w : ℕ) → w < c.wires → w < c.inputs → get_or (public_arrays c) w 0 ≡ kind_at c w
input_kept c w below input = kind_kept c w below ∙ cond-true _ _ _ (lt-ltb w c.inputs input)

gate_blanked : (c : Wiring) (w : ℕ) → w < c.wires → c.inputs ≤ w → get_or (public_arrays c) w 0 ≡ kind_at c w / 16 * 16
gate_blanked c w below gate = kind_kept c w below ∙ cond-false _ _ _ (le-ltb w c.inputs gate)

pair_kept : (c : Wiring) (i : ℕ) → c.wires ≤ i → i < 5 * c.wires → get_or (public_arrays c) i 0 ≡ get_or c.arrays i 0
pair_kept c i past below = public_at c i below ∙ cond-false _ _ _ (le-ltb i c.wires past)

short_kept : (c : Wiring) (i : ℕ) → c.wires ≤ i → i + 1 < 5 * c.wires → short_at (public_arrays c) i ≡ short_at c.arrays i
short_kept c i past below = λ j. pair_kept c i past (omega arith) j + pair_kept c (i + 1) (omega arith) below j * 256

output_kept : (c : Wiring) (w : ℕ) → w < c.wires → bit (get_or (public_arrays c) w 0) 7 ≡ bit (kind_at c w) 7
output_kept c w below = elim (cases_lt w c.inputs) [
  | inl input ↦ ap (λ k. bit k 7) (input_kept c w below input)
  | inr gate ↦
      let k = kind_at c w in
      let same : k / 16 * 16 / 128 % 2 ≡ k / 128 % 2 = omega arith in
      ap (λ b. bit b 7) (gate_blanked c w below gate) ∙ ap (λ b. eqb b 1) same
]

shows_all_but_truth : (c : Wiring) → PublicOf c (record { wires = c.wires; inputs = c.inputs; arrays = public_arrays c })
shows_all_but_truth c = record {
  wires = refl;
  inputs = refl;
  sides = λ w below input. ap (λ k. k % 128) (input_kept c w below input);
  classes = λ w below gate.
      let k = kind_at c w in
      let same : k / 16 * 16 / 16 % 4 ≡ k / 16 % 4 = omega arith in
      ap (λ b. class_of (b / 16 % 4)) (gate_blanked c w below gate) ∙ ap class_of same;
  blank = λ w below gate. let k = kind_at c w in ap (λ b. b % 16) (gate_blanked c w below gate) ∙ omega arith;
  outputs = output_kept c;
  firsts = λ w below. short_kept c (c.wires + 4 * w) (omega arith) (omega arith);
  seconds = λ w below. short_kept c (c.wires + 4 * w + 2) (omega arith) (omega arith);
}

-- The public table shows the circuit but for its truth tables.
pub public_of_lem : (c : Wiring) → c.wires < 65536 → c.inputs < 65536 → PublicOf c (table_wiring (public_table c))
public_of_lem c fits fits' = subst (PublicOf c) (sym (read_back c fits fits')) (shows_all_but_truth c)
