-- A tape and an answer table for one secret, carried over to another secret over the same public circuit: they match, and carrying back undoes it.
use Rattle.std.proofs.Common.{◌≡◌, ℕ, zero, suc, ◌+◌, ◌-◌, ◌*◌, ◌<◌, ◌≤◌, Bool, true, false, List, length, get_or, sym, refl, ap, ◌∙◌, add-zero, arith}
use Rattle.std.proofs.lemmas.List.{map-id}
use Rattle.label.specs.Sums.{◌⊻◌}
use Rattle.label.specs.Rows.{table_function}
use Rattle.label.specs.declared.rows.Row.{Row}
use Rattle.wires.specs.Wires.{Wiring, truth_at, is_garbled, garbled_wires}
use Rattle.wires.proofs.Scans.{count_below}
use Rattle.gate.specs.declared.views.Dice.{Dice}
use Rattle.gate.specs.Views.{dice_of}
use Rattle.gate_laws.specs.GateBlind.{Throw}
use Rattle.garbling.specs.Tape.{offset_in, dice_in, need_of, drawn_for}
use Rattle.garbling.specs.Garbling.{gate_index}
use Rattle.label.proofs.Groups.{bit_comm}
use Rattle.circuit_laws.proofs.Picked.{get_or-where, where_at}
use Rattle.circuit_laws.proofs.Shown.{Shows, is_garbled_lem, garbled_gate_lem}
use Rattle.circuit_laws.proofs.Throws.{row_at, throw_in, throw_at}
use Rattle.circuit_laws.proofs.Matching.{throw_for}
use Rattle.circuit_laws.proofs.SameSeen.{value_of, active_of, MatchedFor, alike_of}
use Rattle.circuit_laws.proofs.ByteBits.{dice_with}
use Rattle.circuit_laws.proofs.Tapes.{tape_by, offset_drawn, input_drawn, dice_drawn, tape_back}
use Rattle.circuit_laws.proofs.TableRows.{row_of, rows_by, gate_row, rest_row, rows_back}

-- The throws of all gates, carried over from circuit c and input bits x to c' and x'.
abbrev pub throws_carried : (c c' d : Wiring) (x x' : List Bool) → List ℕ → List Row → ℕ → Throw ℕ
throws_carried c c' d x x' T rows w =
    throw_for d (truth_at c) (truth_at c') (offset_in T) (active_of c x T (table_function rows)) (value_of c x) (value_of c' x') w (throw_at d T rows w)

-- Which inputs have two different bits.
abbrev pub bits_differ : (x x' : List Bool) → ℕ → Bool
bits_differ x x' w = get_or x w false ⊻ get_or x' w false

-- The dice of the gates that are garbled, by their places.
abbrev pub dice_carried : (c c' d : Wiring) (x x' : List Bool) → List ℕ → List Row → ℕ → Dice
dice_carried c c' d x x' T rows k = (throws_carried c c' d x x' T rows (get_or (garbled_wires d) k 0)).dice

-- The tape with these dice, and with the permute bit turned of each input whose bits differ.
abbrev pub tape_carried : (c c' d : Wiring) (x x' : List Bool) → ℕ → List ℕ → List Row → List ℕ
tape_carried c c' d x x' place tape rows =
    tape_by d.inputs (length (garbled_wires d)) (bits_differ x x') (dice_carried c c' d x x' (drawn_for d tape place) rows) place tape

-- The answer table with the throws' rows.
abbrev pub rows_carried : (c c' d : Wiring) (x x' : List Bool) → ℕ → List ℕ → List Row → List Row
rows_carried c c' d x x' place tape rows = rows_by d.wires (is_garbled d) (throws_carried c c' d x x' (drawn_for d tape place) rows) rows

-- The wire of a place among the garbled gates.
wire_there : (d : Wiring) (w : ℕ) → w < d.wires → is_garbled d w ≡ true → get_or (garbled_wires d) (gate_index d w) 0 ≡ w
wire_there d w below picked =
    ap (λ (l : List ℕ). get_or l (gate_index d w) 0) (sym (map-id (garbled_wires d))) ∙ get_or-where (is_garbled d) (λ k. k) d.wires w 0 below picked

module _ (c c' d : Wiring) (shows : Shows c d) (shows' : Shows c' d) (x x' : List Bool) (place : ℕ) (tape : List ℕ) (rows : List Row)
    (enough : need_of d ≤ length tape - place) (long : 3 * d.wires ≤ length rows) where
  abbrev T : List ℕ
  T = drawn_for d tape place

  abbrev θ : ℕ → Throw ℕ
  θ = throws_carried c c' d x x' T rows

  abbrev S : ℕ → Bool
  S = bits_differ x x'

  abbrev D : ℕ → Dice
  D = dice_carried c c' d x x' T rows

  abbrev tape' : List ℕ
  tape' = tape_carried c c' d x x' place tape rows

  abbrev rows' : List Row
  rows' = rows_carried c c' d x x' place tape rows

  abbrev T' : List ℕ
  T' = drawn_for d tape' place

  -- Each gate finds the throw that was made for it.
  throw_there : (w : ℕ) → w < d.wires → is_garbled d w ≡ true → throw_at d T' rows' w ≡ θ w
  throw_there w below picked =
      let k : ℕ = gate_index d w in
      let dice : dice_of (dice_in T' d.inputs k) ≡ (θ w).dice =
      ap dice_of (dice_drawn d.inputs (length (garbled_wires d)) S D place tape enough k (count_below (is_garbled d) w d.wires below picked))
      ∙ dice_with (D k) (dice_in T d.inputs k) ∙ ap (λ (v : ℕ). (θ v).dice) (wire_there d w below picked) in
      let row : (e : ℕ) → e < 3 → row_at rows' (3 * w + e) ≡ row_of (θ w) e = λ e less. gate_row d.wires (is_garbled d) θ rows long w e below picked less in
      let r0 : row_at rows' (3 * w) ≡ row_of (θ w) 0 = ap (row_at rows') (sym (add-zero (3 * w))) ∙ row 0 (omega arith) in
      let r1 : row_at rows' (3 * w + 1) ≡ row_of (θ w) 1 = row 1 (omega arith) in
      let r2 : row_at rows' (3 * w + 2) ≡ row_of (θ w) 2 = row 2 (omega arith) in
      λ i. record { dice = dice i; words = (throw_in 0 (r0 i) (r1 i) (r2 i)).words; pairs = (throw_in 0 (r0 i) (r1 i) (r2 i)).pairs }

  pub carried_matched : MatchedFor c c' d x x' T T' rows rows'
  carried_matched = record {
    offset = offset_drawn d.inputs (length (garbled_wires d)) S D place tape enough;
    inputs = λ w input. input_drawn d.inputs (length (garbled_wires d)) S D place tape enough w input;
    throws = λ w below gate not-Free. throw_there w below (is_garbled_lem d w gate not-Free);
    rest = rest_row d.wires (is_garbled d) θ rows;
  }

  -- Carried back, each gate has the throw of before.
  throws_back : (w : ℕ) → w < d.wires → is_garbled d w ≡ true → throws_carried c' c d x' x T' rows' w ≡ throw_at d T rows w
  throws_back w below picked =
      let g = garbled_gate_lem d w picked in
      (alike_of c c' d shows shows' x x' T T' rows rows' carried_matched).back w below g.0 g.1

  pub tape_carried_back : tape_carried c' c d x' x place tape' rows' ≡ tape
  tape_carried_back =
      tape_back d.inputs (length (garbled_wires d)) S D place tape enough _ _ (λ w input. bit_comm (get_or x w false) (get_or x' w false)) (λ k less.
      let there = where_at (is_garbled d) d.wires k less in
      ap (λ (w : ℕ). (throws_carried c' c d x' x T' rows' w).dice) there.1
      ∙ ap (λ (z : Throw ℕ). z.dice) (throws_back there.0 there.2 there.3)
      ∙ ap (λ (n : ℕ). dice_of (dice_in T d.inputs n)) there.4)

  pub rows_carried_back : rows_carried c' c d x' x place tape' rows' ≡ rows
  rows_carried_back =
      rows_back d.wires (is_garbled d) θ rows (throws_carried c' c d x' x T' rows')
      (λ w e below picked less. ap (λ (z : Throw ℕ). row_of z e) (throws_back w below picked) ∙ own_row w e less)
    where
      own_row : (w e : ℕ) → e < 3 → row_of (throw_at d T rows w) e ≡ row_at rows (3 * w + e)
      own_row w zero less = ap (row_at rows) (sym (add-zero (3 * w)))
      own_row w (suc zero) less = refl
      own_row w (suc (suc zero)) less = refl
      own_row w (suc (suc (suc e))) less = absurd (omega arith)
