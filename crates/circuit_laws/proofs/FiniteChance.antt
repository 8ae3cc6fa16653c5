-- Tapes of one length, answer tables of one size, and the pairs of them with a done opening are finitely many.
use Rattle.std.proofs.Common.{◌≡◌, ℕ, zero, suc, ◌-◌, ◌<◌, List, [], ◌∷◌, length, refl, ap, arith}
use mathlib.Core.Equiv.{Iso}
use mathlib.Core.HLevel.{is_prop→PathP, hedberg}
use mathlib.Core.List.{List-discrete}
use native.Mathlib.Bridge.{le_prop}
use native.Mathlib.Decide.{dec_le, ℕ_discrete}
use native.Mathlib.Nat.{ℕ_set, suc_inj}
use Rattle.label.specs.Hashes.{HashFunction}
use Rattle.label.specs.Rows.{table_function}
use Rattle.label.specs.declared.rows.Row.{Row}
use Rattle.label.specs.declared.xor.ControlPair.{ControlPair}
use Rattle.wires.specs.Wires.{Wiring}
use Rattle.gate_laws.specs.GateBlind.{Word}
use Rattle.gate_laws.proofs.Finite.{Under, Finite, under_path, finite_by, finite_pair, finite_bit}
use Rattle.gate_laws.proofs.Part.{finite_part}
use Rattle.gate_laws.proofs.Shapes.{pair_parts, finite_word}
use Rattle.garbling.specs.Tape.{offset_in, need_of, drawn_for}
use Rattle.garbling.specs.Garbling.{falses_of}
use Rattle.garbling.specs.Marks.{equal_below}
use Rattle.circuit_laws.specs.Chance.{Each, FitsRow, Chance, Done, Opened}

module _ {A : Type 0} (P : A → Type 0) (prop : (a : A) → IsProp (P a)) where
  each_prop : (xs : List A) → IsProp (Each P xs)
  each_prop [] = λ p q i. tt
  each_prop (x ∷ xs) = λ p q i. (prop x p.0 q.0 i, each_prop xs p.1 q.1 i)

  -- The lists of n such elements.
  abbrev Lists : ℕ → Type 0
  Lists n = (xs : List A) × (length xs ≡ n) × Each P xs

  pub lists_path : (n : ℕ) (a b : Lists n) → a.0 ≡ b.0 → a ≡ b
  lists_path n a b e = λ i. (
    e i,
    is_prop→PathP (λ i. length (e i) ≡ n) (λ i. ℕ_set (length (e i)) n) a.1 b.1 i,
    is_prop→PathP (λ i. Each P (e i)) (λ i. each_prop (e i)) a.2 b.2 i,
  )

  parted : (n : ℕ) (xs : List A) → length xs ≡ suc n → Each P xs → ((a : A) × P a) × Lists n
  parted n [] e hs = absurd (let z : ◌≡◌ {A = ℕ} 0 (suc n) = e in omega arith)
  parted n (x ∷ xs) e hs = ((x, hs.0), (xs, suc_inj e, hs.1))

  parted_back : (n : ℕ) (xs : List A) (e : length xs ≡ suc n) (hs : Each P xs) → (parted n xs e hs).0.0 ∷ (parted n xs e hs).1.0 ≡ xs
  unfolding parted
  parted_back n [] e hs = absurd (let z : ◌≡◌ {A = ℕ} 0 (suc n) = e in omega arith)
  parted_back n (x ∷ xs) e hs = refl

  -- A list of one more is an element and a list.
  one_more : (n : ℕ) → Iso (Lists (suc n)) (((a : A) × P a) × Lists n)
  unfolding parted
  one_more n = record {
    fun = λ l. parted n l.0 l.1 l.2;
    inv = λ p. (p.0.0 ∷ p.1.0, ap suc p.1.1, (p.0.1, p.1.2));
    rinv = λ p i. (p.0, lists_path n (p.1.0, suc_inj (ap suc p.1.1), p.1.2) p.1 refl i);
    linv = λ l. lists_path (suc n) _ l (parted_back n l.0 l.1 l.2);
  }

  none_left : Iso (Lists 0) (Under 1)
  none_left = record {
    fun = λ l. (0, omega arith);
    inv = λ k. ([], refl, tt);
    rinv = λ k. under_path 1 (0, omega arith) k (let h = k.1 in omega arith);
    linv = λ l. lists_path 0 ([], refl, tt) l (empty l.0 l.1);
  }
    where
      empty : (xs : List A) → length xs ≡ 0 → [] ≡ xs
      empty [] e = refl
      empty (x ∷ xs) e = absurd (let z : suc (length xs) ≡ 0 = e in omega arith)

  pub finite_lists : Finite ((a : A) × P a) → (n : ℕ) → Finite (Lists n)
  finite_lists F zero = (1, none_left)
  finite_lists F (suc n) = finite_by (one_more n) (finite_pair F (finite_lists F n))

byte_prop : (b : ℕ) → IsProp (b < 256)
byte_prop b = le_prop {n = suc b} {m = 256}

row_prop : (r : Row) → IsProp (FitsRow r)
row_prop r = λ p q i. (le_prop p.0 q.0 i, le_prop p.1 q.1 i)

-- A row is two words and two control pairs.
row_parts : Iso ((r : Row) × FitsRow r) ((Word × ControlPair) × (Word × ControlPair))
row_parts = record {
  fun = λ r. (((r.0.zero.word, r.1.0), r.0.zero.pair), ((r.0.one.word, r.1.1), r.0.one.pair));
  inv = λ p. (
    record { zero = record { word = p.0.0.0; pair = p.0.1 }; one = record { word = p.1.0.0; pair = p.1.1 } },
    (p.0.0.1, p.1.0.1),
  );
  rinv = λ p. refl;
  linv = λ r. refl;
}

finite_row : Finite ((r : Row) × FitsRow r)
finite_row =
    let answer : Finite (Word × ControlPair) = finite_pair finite_word (finite_by pair_parts (finite_pair finite_bit finite_bit)) in
    finite_by row_parts (finite_pair answer answer)

finite_byte : Finite ((b : ℕ) × (b < 256))
finite_byte = (256, record { fun = λ a. a; inv = λ a. a; rinv = λ a. refl; linv = λ a. refl })

pub finite_chance : (bytes rows : ℕ) → Finite (Chance bytes rows)
finite_chance bytes rows = finite_pair (finite_lists (λ b. b < 256) byte_prop finite_byte bytes) (finite_lists FitsRow row_prop finite_row rows)

-- Two pairs are equal where their bytes and rows are.
pub chance_path : (bytes rows : ℕ) (a b : Chance bytes rows) → a.0.0 ≡ b.0.0 → a.1.0 ≡ b.1.0 → a ≡ b
chance_path bytes rows a b e e' = λ i. (
  lists_path (λ b. b < 256) byte_prop bytes a.0 b.0 e i,
  lists_path FitsRow row_prop rows a.1 b.1 e' i,
)

pub done_prop : (c : Wiring) (place : ℕ) (tape : List ℕ) (rows : List Row) → IsProp (Done c place tape rows)
done_prop c place tape rows = λ p q i. record {
  enough = le_prop p.enough q.enough i;
  apart = hedberg (List-discrete ℕ_discrete) _ _ p.apart q.apart i;
}

done_decided : (c : Wiring) (place : ℕ) (tape : List ℕ) (rows : List Row) → Dec (Done c place tape rows)
done_decided c place tape rows =
    let T : List ℕ = drawn_for c tape place in
    let f : HashFunction = table_function rows in
    elim (dec_le (need_of c) (length tape - place)) [
      | yes enough ↦ elim (List-discrete ℕ_discrete (equal_below c f (offset_in T) (falses_of c T f) c.wires) []) [
        | yes apart ↦ yes record { enough = enough; apart = apart }
        | no equal ↦ no (λ done. equal done.apart)
      ]
      | no short ↦ no (λ done. short done.enough)
    ]

pub finite_opened : (c : Wiring) (place bytes rows : ℕ) → Finite (Opened c place bytes rows)
finite_opened c place bytes rows =
    finite_part (finite_chance bytes rows) (λ (θ : Chance bytes rows). Done c place θ.0.0 θ.1.0)
    (λ θ. done_prop c place θ.0.0 θ.1.0) (λ θ. done_decided c place θ.0.0 θ.1.0)
