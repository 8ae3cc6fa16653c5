-- Types with finitely many elements: bits, pairs of such types, and what matches such a type one to one.
use Rattle.std.proofs.Common.{◌≡◌, ℕ, zero, suc, ◌+◌, ◌*◌, ◌/◌, ◌%◌, ◌<◌, Bool, true, false, refl, mod-lt, div-lt_iff_lt-mul, div-add-mod', arith}
use mathlib.Core.Equiv.{◌≃◌, Iso, iso_to_equiv, comp_iso, inv_equiv, comp_equiv}
use mathlib.Core.HLevel.{Σ_prop_path}
use native.Mathlib.Bridge.{le_prop}
use lib.Arith.{digits_lt, digits_div, digits_mod}
use Rattle.gate_laws.specs.Many.{EquallyMany}

-- The numbers 0, 1, .., n - 1.
abbrev pub Under : ℕ → Type 0
Under n = (k : ℕ) × (k < n)

abbrev pub Finite : Type 0 → Type 0
Finite A = (n : ℕ) × Iso A (Under n)

-- Two of these numbers are one where they are equal.
pub under_path : (n : ℕ) (a b : Under n) → a.0 ≡ b.0 → a ≡ b
under_path n a b e = Σ_prop_path (λ (k : ℕ). le_prop {n = suc k} {m = n}) {u = a} {v = b} e

factor_above_zero : (m n k : ℕ) → k < m * n → 0 < n
factor_above_zero m zero k h = absurd (omega arith)
factor_above_zero m (suc n) k h = omega arith

-- A pair of numbers below m and n is one number below m * n, of these two digits.
two_digits : (m n : ℕ) → Iso (Under m × Under n) (Under (m * n))
two_digits m n = record {
  fun = λ p. (p.0.0 * n + p.1.0, digits_lt p.0.1 p.1.1);
  inv = digits;
  rinv = λ k. under_path (m * n) _ _ (div-add-mod' k.0 n);
  linv = λ p.
      let q : Under m × Under n = digits (p.0.0 * n + p.1.0, digits_lt p.0.1 p.1.1) in
      λ i. (under_path m q.0 p.0 (digits_div p.0.0 p.1.1) i, under_path n q.1 p.1 (digits_mod p.0.0 p.1.1) i);
}
  where
    digits : Under (m * n) → Under m × Under n
    digits k =
        let above : 0 < n = factor_above_zero m n k.0 k.1 in
        ((k.0 / n, (div-lt_iff_lt-mul above).1 k.1), (k.0 % n, mod-lt k.0 above))

-- What matches a finite type one to one is finite.
pub finite_by : {A B : Type 0} → Iso A B → Finite B → Finite A
finite_by I F = (F.0, comp_iso I F.1)

pub finite_pair : {A B : Type 0} → Finite A → Finite B → Finite (A × B)
finite_pair {A = A} {B = B} F G = (F.0 * G.0, comp_iso both (two_digits F.0 G.0))
  where
    both : Iso (A × B) (Under F.0 × Under G.0)
    both = record {
      fun = λ p. (F.1.fun p.0, G.1.fun p.1);
      inv = λ p. (F.1.inv p.0, G.1.inv p.1);
      rinv = λ p i. (F.1.rinv p.0 i, G.1.rinv p.1 i);
      linv = λ p i. (F.1.linv p.0 i, G.1.linv p.1 i);
    }

pub finite_bit : Finite Bool
finite_bit = (2, record { fun = number; inv = λ k. bit k.0; rinv = λ k. under_path 2 _ k (number_bit k.0 k.1); linv = bit_number })
  where
    number : Bool → Under 2
    number true = (1, omega arith)
    number false = (0, omega arith)

    bit : ℕ → Bool
    bit zero = false
    bit (suc n) = true

    number_bit : (k : ℕ) → k < 2 → (number (bit k)).0 ≡ k
    number_bit zero h = refl
    number_bit (suc zero) h = refl
    number_bit (suc (suc k)) h = absurd (omega arith)

    bit_number : (b : Bool) → bit (number b).0 ≡ b
    bit_number true = refl
    bit_number false = refl

-- Two types that match one to one, one of them finite, have equally many elements.
pub equally_many : {A B : Type 0} → Finite A → A ≃ B → EquallyMany A B
equally_many F e = (F.0, iso_to_equiv F.1, comp_equiv (inv_equiv e) (iso_to_equiv F.1))
