-- From bytes and words of 64 bits come labels and throws whose numbers are words of 64 bits.
use Rattle.std.proofs.Common.{◌≡◌, ℕ, zero, suc, ◌+◌, ◌*◌, ◌/◌, ◌^◌, ◌<◌, Bool, true, false, List, get_or, sym, refl, ap, ◌∙◌, subst, arith, pow_pos}
use Rattle.label.specs.Sums.{halves}
use Rattle.label.specs.Labels.{Label, colour_of, label_at}
use Rattle.label.specs.Hashes.{HashFunction}
use Rattle.label.specs.Rows.{blank_row, by_colour, table_function}
use Rattle.label.specs.declared.rows.Row.{Row}
use Rattle.slices.specs.Little.{word_at}
use Rattle.wires.specs.Wires.{Wiring, first_at, second_at, class_at, number}
use Rattle.gate.specs.declared.views.Parity.{Parity}
use Rattle.gate.specs.declared.views.Truth.{Truth}
use Rattle.gate.specs.Views.{by_colours, dice_of}
use Rattle.gate.specs.Numbers.{Five}
use Rattle.gate.specs.Sums.{LabelOver, shifted, sum_of, garbled}
use Rattle.gate.specs.Gates.{garbled_gate, colourless, tweak_after}
use Rattle.gate_laws.specs.GateBlind.{Throw, Word, FitsWords, numbers_of}
use Rattle.gate_laws.proofs.Words.{words}
use Rattle.gate_laws.proofs.Carried.{carried}
use Rattle.gate.specs.Classes.{parity_of}
use Rattle.garbling.specs.Tape.{coloured, offset_in, permute_in, dice_in}
use Rattle.garbling.specs.Tweaks.{gate_tweak}
use Rattle.garbling.specs.Garbling.{gate_index}
use Rattle.circuit_laws.specs.Chance.{Each, FitsRow}
use Rattle.circuit_laws.proofs.Remade.{each_at}
use Rattle.circuit_laws.proofs.Wired.{Wired, active, wire_by_wire}
use Rattle.circuit_laws.proofs.Throws.{row_at, throw_in}
use Rattle.circuit_laws.proofs.TableRows.{row_of}

-- A label whose halves are words.
abbrev in_words : (l : Label) → FitsWords l → LabelOver words
in_words l h = ((l.0, h.0), (l.1, h.1))

shifted_fits : (Δ A : Label) → FitsWords Δ → FitsWords A → (u : Bool) → FitsWords (shifted halves Δ A u)
shifted_fits Δ A hΔ hA u = let l : LabelOver words = shifted words (in_words Δ hΔ) (in_words A hA) u in (l.0.1, l.1.1)

sum_fits : (A B : Label) → FitsWords A → FitsWords B → FitsWords (sum_of halves A B)
sum_fits A B hA hB = let l : LabelOver words = sum_of words (in_words A hA) (in_words B hB) in (l.0.1, l.1.1)

-- A hash whose words have 64 bits.
abbrev FitsHash : HashFunction → Type 0
FitsHash f = (l : Label) (t : ℕ) → (f l t).word < 2 ^ 64

gate_fits : (f : HashFunction) (k : Parity) (g b : ℕ) (Δ A B : Label) (t : ℕ) → FitsHash f → FitsWords Δ → FitsWords A → FitsWords B
    → FitsWords (garbled_gate f k g b Δ A B t).label
gate_fits f k g b Δ A B t hf hΔ hA hB =
    let A0 : Label = colourless Δ A in
    let B0 : Label = colourless Δ B in
    let S : Label = sum_of halves A0 B0 in
    let ask : Label → ℕ → Word = λ l t. ((f l t).word, hf l t) in
    let n : Five Word =
    garbled words k (by_colours g (colour_of A) (colour_of B)) (dice_of b) (in_words Δ hΔ) (in_words A0 (shifted_fits Δ A hΔ hA (colour_of A)))
    (in_words B0 (shifted_fits Δ B hΔ hB (colour_of B)))
    record {
      a0 = ask A0 t;
      a1 = ask (shifted halves Δ A0 true) t;
      b0 = ask B0 (tweak_after t 1);
      b1 = ask (shifted halves Δ B0 true) (tweak_after t 1);
      s0 = ask S (tweak_after t 2);
      s1 = ask (shifted halves Δ S true) (tweak_after t 2);
    } in
    (n.n1.1, n.n2.1)

table_fits : (rows : List Row) → Each FitsRow rows → FitsHash (table_function rows)
table_fits rows fit l t = pick (colour_of l)
  where
    pick : (b : Bool) → (by_colour (row_at rows t) b).word < 2 ^ 64
    pick true = (each_at FitsRow rows blank_row fit (pow_pos 64, pow_pos 64) t).1
    pick false = (each_at FitsRow rows blank_row fit (pow_pos 64, pow_pos 64) t).0

-- Labels that are drawn.
module _ (T : List ℕ) (small : (j : ℕ) → get_or T j 0 < 256) where
  word_fits : (p : ℕ) → word_at T p < 2 ^ 64
  word_fits p = omega (arith, small p, small (p + 1), small (p + 2), small (p + 3), small (p + 4), small (p + 5), small (p + 6), small (p + 7))

  coloured_fits : (b : Bool) (p : ℕ) → FitsWords (coloured b (label_at T p))
  coloured_fits b p = (even (word_at T p) (word_fits p) b, word_fits (p + 8))
    where
      even : (n : ℕ) → n < 2 ^ 64 → (b : Bool) → n / 2 * 2 + number b < 2 ^ 64
      even n fits true = omega arith
      even n fits false = omega arith

  pub offset_fits : FitsWords (offset_in T)
  offset_fits = coloured_fits true 0

  -- All labels of a circuit.
  module _ (d : Wiring) (g : ℕ → ℕ) (x : ℕ → Bool) (rows : List Row) (fit : Each FitsRow rows) (F : ℕ → Label) (V : ℕ → Bool) (wired : Wired d g x T (table_function rows) F V) where
    false_fits : (w : ℕ) → w < d.wires → FitsWords (F w)
    false_fits = wire_by_wire d wired.lower (λ w. FitsWords (F w))
        (λ w below input.
        subst FitsWords (sym (wired.input w below input).0)
        (shifted_fits (offset_in T) (coloured false (label_at T (16 + 17 * w))) offset_fits (coloured_fits false (16 + 17 * w)) (permute_in T w)))
        (λ w below gate free first second. subst FitsWords (sym (wired.free w below gate free).0) (sum_fits _ _ first second))
        (λ w below gate not-Free first second.
        subst FitsWords (sym (wired.garbled w below gate not-Free).0)
        (gate_fits (table_function rows) (parity_of (class_at d w)) (g w) (dice_in T d.inputs (gate_index d w)) (offset_in T)
        (F (first_at d w)) (F (second_at d w)) (gate_tweak w) (table_fits rows fit) offset_fits first second))

    pub active_fits : (w : ℕ) → w < d.wires → FitsWords (active (offset_in T) F V w)
    active_fits w below = shifted_fits (offset_in T) (F w) offset_fits (false_fits w below) (V w)

-- A throw whose answers are words.
abbrev pub FitsThrow : Throw ℕ → Type 0
FitsThrow θ = (ρ : Throw Word) × (numbers_of ρ ≡ θ)

pub throw_fits : (b : ℕ) (r s t : Row) → FitsRow r → FitsRow s → FitsRow t → FitsThrow (throw_in b r s t)
throw_fits b r s t hr hs ht = (
  record {
    dice = dice_of b;
    words = record {
      a0 = (r.zero.word, hr.0);
      a1 = (r.one.word, hr.1);
      b0 = (s.zero.word, hs.0);
      b1 = (s.one.word, hs.1);
      s0 = (t.zero.word, ht.0);
      s1 = (t.one.word, ht.1);
    };
    pairs = (throw_in b r s t).pairs;
  },
  refl,
)

pub row_fits : (θ : Throw ℕ) → FitsThrow θ → (e : ℕ) → FitsRow (row_of θ e)
row_fits θ (ρ, same) e = subst (λ (z : Throw ℕ). FitsRow (row_of z e)) same (at e)
  where
    at : (e : ℕ) → FitsRow (row_of (numbers_of ρ) e)
    at zero = (ρ.words.a0.1, ρ.words.a1.1)
    at (suc zero) = (ρ.words.b0.1, ρ.words.b1.1)
    at (suc (suc e)) = (ρ.words.s0.1, ρ.words.s1.1)

-- Carrying words over is carrying their numbers over.
carried_numbers : (k : Parity) (i j : Bool) (Δ x y : Label) (hΔ : FitsWords Δ) (hx : FitsWords x) (hy : FitsWords y) (t t' : Truth) (ρ : Throw Word)
    → numbers_of (carried words k i j (in_words Δ hΔ) (in_words x hx) (in_words y hy) t t' ρ) ≡ carried halves k i j Δ x y t t' (numbers_of ρ)
carried_numbers k false false Δ x y hΔ hx hy t t' ρ = refl
carried_numbers k false true Δ x y hΔ hx hy t t' ρ = refl
carried_numbers k true false Δ x y hΔ hx hy t t' ρ = refl
carried_numbers k true true Δ x y hΔ hx hy t t' ρ = refl

pub carried_fits : (k : Parity) (i j : Bool) (Δ x y : Label) → FitsWords Δ → FitsWords x → FitsWords y → (t t' : Truth) (θ : Throw ℕ)
    → FitsThrow θ → FitsThrow (carried halves k i j Δ x y t t' θ)
carried_fits k i j Δ x y hΔ hx hy t t' θ (ρ, same) = (
  carried words k i j (in_words Δ hΔ) (in_words x hx) (in_words y hy) t t' ρ,
  carried_numbers k i j Δ x y hΔ hx hy t t' ρ ∙ ap (carried halves k i j Δ x y t t') same,
)
