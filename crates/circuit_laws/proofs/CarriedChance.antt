-- A carried tape is a tape, and a carried answer table is one: bytes stay bytes, words stay words of 64 bits, and the sizes stay.
use Rattle.std.proofs.Common.{◌≡◌, ℕ, ◌+◌, ◌*◌, ◌<◌, Bool, false, List, length, get_or, drop, sym, ap, ◌∙◌, arith, pow_pos}
use Rattle.label.specs.Labels.{Label, colour_of}
use Rattle.label.specs.Hashes.{HashFunction}
use Rattle.label.specs.Rows.{blank_row, table_function}
use Rattle.label.specs.declared.rows.Row.{Row}
use Rattle.wires.specs.Wires.{Wiring, first_at, second_at, class_at, truth_at, is_garbled, garbled_wires}
use Rattle.gate.specs.Classes.{parity_of}
use Rattle.garbling.specs.Tape.{need, drawn, offset_in, dice_in, need_of, drawn_for}
use Rattle.garbling.specs.Garbling.{gate_index}
use Rattle.circuit_laws.specs.Chance.{Each, FitsRow, Chance}
use Rattle.circuit_laws.proofs.Shown.{Shows, garbled_wires_shown, garbled_gate_lem}
use Rattle.circuit_laws.proofs.Remade.{each_at, each_take, each_drop}
use Rattle.circuit_laws.proofs.Tapes.{length-tape_by, tape_small}
use Rattle.circuit_laws.proofs.TableRows.{length-rows_by, rows_fit}
use Rattle.circuit_laws.proofs.Throws.{row_at, throw_at, truth_for}
use Rattle.circuit_laws.proofs.SameSeen.{value_of, false_of, active_of, wired_of}
use Rattle.circuit_laws.proofs.Fitting.{offset_fits, active_fits, throw_fits, row_fits, carried_fits}
use Rattle.circuit_laws.proofs.Carrying.{throws_carried, bits_differ, dice_carried, tape_carried, rows_carried}

pub need_shown : (c d : Wiring) → Shows c d → need_of c ≡ need_of d
need_shown c d shows = λ i. need (sym shows.shown.inputs i) (length (sym (garbled_wires_shown c d shows.shown) i))

-- The bytes drawn for a circuit are those drawn for its public part.
pub drawn_shown : (c d : Wiring) → Shows c d → (place : ℕ) (tape : List ℕ) → drawn_for c tape place ≡ drawn_for d tape place
drawn_shown c d shows place tape = ap (drawn tape place) (need_shown c d shows)

drawn_small : (d : Wiring) (place : ℕ) (tape : List ℕ) → Each (λ b. b < 256) tape → (j : ℕ) → get_or (drawn_for d tape place) j 0 < 256
drawn_small d place tape small =
    each_at (λ b. b < 256) (drawn_for d tape place) 0 (each_take (λ b. b < 256) (need_of d) (drop place tape) (each_drop (λ b. b < 256) place tape small)) (omega arith)

module _ (c c' d : Wiring) (shows : Shows c d) (x x' : List Bool) (place : ℕ) where
  -- The carried rows hold words of 64 bits.
  pub carried_rows_fit : (tape : List ℕ) (rows : List Row) → Each (λ b. b < 256) tape → Each FitsRow rows → Each FitsRow (rows_carried c c' d x x' place tape rows)
  carried_rows_fit tape rows small fit =
      let T : List ℕ = drawn_for d tape place in
      let f : HashFunction = table_function rows in
      let E : ℕ → Label = active_of c x T f in
      let bytes : (j : ℕ) → get_or T j 0 < 256 = drawn_small d place tape small in
      let label-fits = active_fits T bytes d (truth_at c) (λ w. get_or x w false) rows fit (false_of c T f) (value_of c x) (wired_of c d shows T f x) in
      let row : (r : ℕ) → FitsRow (row_at rows r) = each_at FitsRow rows blank_row fit (pow_pos 64, pow_pos 64) in
      rows_fit d.wires (is_garbled d) (throws_carried c c' d x x' T rows) rows fit (λ w e below picked.
      let l = (wired_of c d shows T f x).lower w below (garbled_gate_lem d w picked).0 in
      let a : ℕ = first_at d w in
      let b : ℕ = second_at d w in
      row_fits (throws_carried c c' d x x' T rows w)
      (carried_fits (parity_of (class_at d w)) (colour_of (E a)) (colour_of (E b)) (offset_in T) (E a) (E b) (offset_fits T bytes)
      (label-fits a (omega arith)) (label-fits b (omega arith)) (truth_for (truth_at c w) (E a) (E b) (value_of c x a) (value_of c x b))
      (truth_for (truth_at c' w) (E a) (E b) (value_of c' x' a) (value_of c' x' b)) (throw_at d T rows w)
      (throw_fits (dice_in T d.inputs (gate_index d w)) (row_at rows (3 * w)) (row_at rows (3 * w + 1)) (row_at rows (3 * w + 2)) (row (3 * w)) (row (3 * w + 1)) (row (3 * w + 2)))) e)

  -- A pair for c and x, as one for c' and x'.
  abbrev pub chance_carried : (bytes rows : ℕ) → Chance bytes rows → Chance bytes rows
  chance_carried bytes rows θ =
      let T : List ℕ = drawn_for d θ.0.0 place in (
        (
          tape_carried c c' d x x' place θ.0.0 θ.1.0,
          length-tape_by d.inputs (length (garbled_wires d)) (bits_differ x x') (dice_carried c c' d x x' T θ.1.0) place θ.0.0 ∙ θ.0.1,
          tape_small d.inputs (length (garbled_wires d)) (bits_differ x x') (dice_carried c c' d x x' T θ.1.0) place θ.0.0 θ.0.2,
        ),
        (
          rows_carried c c' d x x' place θ.0.0 θ.1.0,
          length-rows_by d.wires (is_garbled d) (throws_carried c c' d x x' T θ.1.0) θ.1.0 ∙ θ.1.1,
          carried_rows_fit θ.0.0 θ.1.0 θ.0.2 θ.1.2,
        ),
      )
