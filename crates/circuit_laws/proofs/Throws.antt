-- Under an answer table, what chance brings to a gate is its dice byte and its own three rows; and what the server sees of the gate is a view of these.
use Rattle.std.proofs.Common.{◌≡◌, ℕ, ◌+◌, ◌*◌, ◌<◌, ◌≤◌, Bool, true, false, List, get_or, sym, ap, ◌∙◌, ap₂, mod-eq_of_lt, arith}
use Rattle.label.specs.Sums.{halves, ◌⊻◌}
use Rattle.label.specs.Labels.{Label, colour_of}
use Rattle.label.specs.Rows.{blank_row, by_colour, table_function}
use Rattle.label.specs.declared.rows.Row.{Row}
use Rattle.wires.specs.Wires.{Wiring, first_at, second_at, class_at}
use Rattle.gate.specs.declared.views.Truth.{Truth}
use Rattle.gate.specs.Views.{by_colours, dice_of}
use Rattle.gate.specs.Sums.{shifted, sum_of}
use Rattle.gate.specs.Gates.{tweak_after, colourless}
use Rattle.gate_laws.specs.GateBlind.{Throw, GateView, gate_view}
use Rattle.gate_laws.specs.GateSeen.{seen, throw_of}
use Rattle.gate_laws.proofs.Colours.{colour_of_sum, colour_of_shifted}
use Rattle.gate_laws.proofs.Computes.{gate_seen}
use Rattle.circuit.specs.Check.{most_wires}
use Rattle.gate.specs.Classes.{parity_of}
use Rattle.garbling.specs.Tape.{offset_in, dice_in}
use Rattle.garbling.specs.Tweaks.{gate_tweak}
use Rattle.garbling.specs.Garbling.{gate_index}
use Rattle.label.proofs.Groups.{bit_self}
use Rattle.circuit_laws.proofs.BitSums.{xor_second_after}
use Rattle.circuit_laws.proofs.Wired.{gate_of, active}
use Rattle.circuit_laws.proofs.LabelsMet.{offset_coloured}

abbrev pub row_at : List Row → ℕ → Row
row_at rows r = get_or rows r blank_row

-- A throw from a dice byte and three rows.
abbrev pub throw_in : ℕ → Row → Row → Row → Throw ℕ
throw_in b a s t = record {
  dice = dice_of b;
  words = record { a0 = a.zero.word; a1 = a.one.word; b0 = s.zero.word; b1 = s.one.word; s0 = t.zero.word; s1 = t.one.word };
  pairs = record { a0 = a.zero.pair; a1 = a.one.pair; b0 = s.zero.pair; b1 = s.one.pair; s0 = t.zero.pair; s1 = t.one.pair };
}

-- The throw of gate w.
abbrev pub throw_at : Wiring → List ℕ → List Row → ℕ → Throw ℕ
throw_at d T rows w =
    throw_in (dice_in T d.inputs (gate_index d w)) (row_at rows (3 * w)) (row_at rows (3 * w + 1)) (row_at rows (3 * w + 2))

module _ (Δ : Label) (one : colour_of Δ ≡ true) where
  no_colour : (A : Label) → colour_of (colourless Δ A) ≡ false
  no_colour A = colour_of_shifted Δ A one (colour_of A) ∙ bit_self (colour_of A)

  other_colour : (A : Label) → colour_of A ≡ false → colour_of (shifted halves Δ A true) ≡ true
  other_colour A none = colour_of_shifted Δ A one true ∙ ap (λ (b : Bool). b ⊻ true) none

  sum_no_colour : (A B : Label) → colour_of (sum_of halves (colourless Δ A) (colourless Δ B)) ≡ false
  sum_no_colour A B = colour_of_sum (colourless Δ A) (colourless Δ B) ∙ ap₂ (λ (a b : Bool). a ⊻ b) (no_colour A) (no_colour B)

  -- The garbler's six questions are answered by three rows, whatever the labels.
  throw_by_rows : (rows : List Row) (b : ℕ) (A B : Label) (t : ℕ)
      → throw_of (table_function rows) b Δ A B t ≡ throw_in b (row_at rows t) (row_at rows (tweak_after t 1)) (row_at rows (tweak_after t 2))
  throw_by_rows rows b A B t =
      let A0 : Label = colourless Δ A in
      let B0 : Label = colourless Δ B in
      let S : Label = sum_of halves A0 B0 in
      let ra : Row = row_at rows t in
      let rb : Row = row_at rows (tweak_after t 1) in
      let rs : Row = row_at rows (tweak_after t 2) in
      let a0 : colour_of A0 ≡ false = no_colour A in
      let a1 : colour_of (shifted halves Δ A0 true) ≡ true = other_colour A0 a0 in
      let b0 : colour_of B0 ≡ false = no_colour B in
      let b1 : colour_of (shifted halves Δ B0 true) ≡ true = other_colour B0 b0 in
      let s0 : colour_of S ≡ false = sum_no_colour A B in
      let s1 : colour_of (shifted halves Δ S true) ≡ true = other_colour S s0 in
      λ i. record {
        dice = dice_of b;
        words = record {
          a0 = (by_colour ra (a0 i)).word;
          a1 = (by_colour ra (a1 i)).word;
          b0 = (by_colour rb (b0 i)).word;
          b1 = (by_colour rb (b1 i)).word;
          s0 = (by_colour rs (s0 i)).word;
          s1 = (by_colour rs (s1 i)).word;
        };
        pairs = record {
          a0 = (by_colour ra (a0 i)).pair;
          a1 = (by_colour ra (a1 i)).pair;
          b0 = (by_colour rb (b0 i)).pair;
          b1 = (by_colour rb (b1 i)).pair;
          s0 = (by_colour rs (s0 i)).pair;
          s1 = (by_colour rs (s1 i)).pair;
        };
      }

-- The tweaks of a gate, and those of a mark, do not wrap.
pub tweak_small : (t k : ℕ) → t + k < 65536 → tweak_after t k ≡ t + k
tweak_small t k small = mod-eq_of_lt (omega arith)

-- The truth by colours, from the labels at hand and the values that they stand for.
abbrev pub truth_for : ℕ → (x y : Label) (u v : Bool) → Truth
truth_for g x y u v = by_colours g (colour_of x ⊻ u) (colour_of y ⊻ v)

-- What is seen of a gate, from the labels at hand, their values and the throw.
abbrev pub view_for : Wiring → (ℕ → ℕ) → Label → (ℕ → Label) → (ℕ → Bool) → ℕ → Throw ℕ → GateView ℕ
view_for d g Δ E V w θ =
    let a : ℕ = first_at d w in
    let b : ℕ = second_at d w in
    gate_view halves (parity_of (class_at d w)) (truth_for (g w) (E a) (E b) (V a) (V b)) (colour_of (E a)) (colour_of (E b)) Δ (E a) (E b) θ

module _ (d : Wiring) (few : d.wires ≤ most_wires) (g : ℕ → ℕ) (T : List ℕ) (rows : List Row) (F : ℕ → Label) (V : ℕ → Bool) where
  abbrev E : ℕ → Label
  E = active (offset_in T) F V

  false_colour : (w : ℕ) → colour_of (F w) ≡ colour_of (E w) ⊻ V w
  false_colour w =
      sym (xor_second_after (colour_of (F w)) (V w)) ∙ ap (λ (b : Bool). b ⊻ V w) (sym (colour_of_shifted (offset_in T) (F w) (offset_coloured T) (V w)))

  pub seen_for : (w : ℕ) → w < d.wires
      → seen (table_function rows) (gate_of d g T (table_function rows) F w) (E (first_at d w)) (E (second_at d w)) (gate_tweak w)
      ≡ view_for d g (offset_in T) E V w (throw_at d T rows w)
  seen_for w below =
      let a : ℕ = first_at d w in
      let b : ℕ = second_at d w in
      let byte : ℕ = dice_in T d.inputs (gate_index d w) in
      let throw : throw_of (table_function rows) byte (offset_in T) (F a) (F b) (3 * w) ≡ throw_at d T rows w =
      throw_by_rows (offset_in T) (offset_coloured T) rows byte (F a) (F b) (3 * w)
      ∙ (λ i. throw_in byte (row_at rows (3 * w)) (row_at rows (tweak_small (3 * w) 1 (omega arith) i)) (row_at rows (tweak_small (3 * w) 2 (omega arith) i))) in
      gate_seen (table_function rows) (parity_of (class_at d w)) (g w) byte (offset_in T) (F a) (F b) (offset_coloured T) (3 * w) (V a) (V b)
      ∙ (λ i. gate_view halves (parity_of (class_at d w)) (by_colours (g w) (false_colour a i) (false_colour b i)) (colour_of (E a)) (colour_of (E b)) (offset_in T) (E a) (E b) (throw i))
