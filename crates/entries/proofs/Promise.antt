-- The laws of a kept book put together: one label for each wire.
use Rattle.std.proofs.Common.{◌≡◌, ℕ, ◌+◌, ◌-◌, ◌^◌, ◌<◌, ◌≤◌, Bool, true, false, cond, not, ◌&&◌, ◌⊎◌, List, ◌++◌, length, replicate, Some, None, sym, refl, ap, ◌∙◌, inl, inr, arith}
use lib.Bits.{xor_lt}
use Rattle.std.proofs.lemmas.List.FromFn.{length-map-range_with_len}
use Rattle.std.proofs.lemmas.List.{get_or_past}
use Rattle.std.proofs.lemmas.Bool.{cases_lt}
use Rattle.label.specs.Labels.{Label}
use Rattle.wires.specs.Wires.{Wiring, side_at, wires_where}
use Rattle.ledger.specs.declared.Entry.TheVariants.{Empty}
use Rattle.ledger.specs.declared.Ledger.{Ledger}
use Rattle.ledger.specs.Entries.{is_waiting, is_released}
use Rattle.ledger.specs.Ledger.{entry_at, waiting_in, released_in}
use Rattle.ledger.specs.Store.{store_of, store_length, stored_offset, stored_label}
use Rattle.ledger.specs.Sheet.{sheet_of, mark_byte, mark_on, label_on, sheet_inputs}
use Rattle.ledger.proofs.Points.{point_at}
use Rattle.ledger.proofs.Sheets.{sheet_inputs-sheet_of, mark_on-sheet_of, label_on-shown, label_on-blank}
use Rattle.ledger.proofs.Stores.{stored_label-store_of}
use Rattle.entries.specs.declared.ClosedSitting.{ClosedSitting}
use Rattle.entries.specs.Steps.{State}
use Rattle.entries.specs.Book.{Line, opened_state, state_after, closed_by, Kept, entered_by, released_by, waiting_by, last_bit_by, waiting_count, released_count, entry_by, false_label, bit_label, shown_by, left_by, labels_left}
use Rattle.entries.specs.Closing.{Counts}
use Rattle.entries.specs.OneLabel.{Small, Sound, OneLabelIn, OneLabel, CountsLines}
use Rattle.entries.proofs.Counting.{count_same, count_only}
use Rattle.entries.proofs.Facts.{entry_of}
use Rattle.entries.proofs.Laws.{once, own, released_entered, unentered, unshown, stays_by, enters_all}
use Rattle.entries.proofs.States.{entries_by, ledger_by, state_by, store_still, entry_below, state_by_lem}

-- How an entry of the lines is counted.
waits_by : (r n x : Bool) → is_waiting (entry_of r n x) ≡ (n && not r)
waits_by true true x = refl
waits_by true false x = refl
waits_by false true x = refl
waits_by false false x = refl

released_by_lem : (r n x : Bool) → is_released (entry_of r n x) ≡ r
released_by_lem true n x = refl
released_by_lem false true x = refl
released_by_lem false false x = refl

-- A label of a bit has 64 bits in each half.
half_small : (x d : ℕ) (bit : Bool) → x < 2 ^ 64 → d < 2 ^ 64 → cond bit d 0 < 2 ^ 64
half_small x d true hx hd = hd
half_small x d false hx hd = omega arith

label_small : (Δ : Label) (ls : List Label) (w : ℕ) (bit : Bool) → Small (false_label ls w) → Small Δ → Small (bit_label Δ ls w bit)
label_small Δ ls w bit (xl, xr) (dl, dr) = (
  xor_lt 64 (false_label ls w).0 (cond bit Δ.0 0) xl (half_small (false_label ls w).0 Δ.0 bit xl dl),
  xor_lt 64 (false_label ls w).1 (cond bit Δ.1 0) xr (half_small (false_label ls w).1 Δ.1 bit xr dr),
)

module _ (side : ℕ) (c : Wiring) (Δ : Label) (ls : List Label) (sound : Sound c Δ ls) (lines : List Line) (kept : Kept (opened_state side c Δ ls) lines) where
  abbrev after : State
  after = state_after (opened_state side c Δ ls) lines

  by_lines : state_after (opened_state side c Δ ls) lines ≡ state_by side c Δ ls sound.few sound.each lines
  by_lines = state_by_lem side c Δ ls sound.few sound.each lines kept

  entry_by_lem : (w : ℕ) → entry_at (ledger_by side c Δ ls sound.few sound.each lines) w ≡ entry_by lines w
  unfolding entries_by
  entry_by_lem w = by (cases_lt w 512)
    where
      by : (w < 512) ⊎ (512 ≤ w) → entry_at (ledger_by side c Δ ls sound.few sound.each lines) w ≡ entry_by lines w
      by (inl below) = entry_below side c Δ ls sound.few sound.each lines w below
      by (inr past) =
          let whole = length-map-range_with_len (entry_by lines) 0 512 in
          let low = sound.few in
          let gone = unshown side c Δ ls sound.few sound.each lines kept w (omega arith) in
          let none = unentered side c Δ ls sound.few sound.each lines kept w (omega arith) in
          get_or_past (entries_by lines 512) w Empty (omega (arith, whole)) ∙ sym (λ i. entry_of (gone i) (none i) (last_bit_by lines w))

  count_all : (p : ℕ → Bool) → ((w : ℕ) → c.inputs ≤ w → p w ≡ false) → length (wires_where p 512) ≡ length (wires_where p c.inputs)
  count_all p past =
      let few = sound.few in
      let parts : 512 ≡ c.inputs + (512 - c.inputs) = omega arith in
      ap (λ n. length (wires_where p n)) parts ∙ count_only p c.inputs (512 - c.inputs) past

  waiting_by_lem : waiting_in (ledger_by side c Δ ls sound.few sound.each lines) ≡ waiting_count lines c.inputs
  waiting_by_lem =
      count_same (λ w. is_waiting (entry_at (ledger_by side c Δ ls sound.few sound.each lines) w)) (waiting_by lines) 512
      (λ w h. ap is_waiting (entry_by_lem w) ∙ waits_by (released_by lines w) (entered_by lines w) (last_bit_by lines w))
      ∙ count_all (waiting_by lines)
      (λ w past. λ i. unentered side c Δ ls sound.few sound.each lines kept w past i && not (released_by lines w))

  counted_by : released_in (ledger_by side c Δ ls sound.few sound.each lines) ≡ released_count lines c.inputs
  counted_by =
      count_same (λ w. is_released (entry_at (ledger_by side c Δ ls sound.few sound.each lines) w)) (released_by lines) 512
      (λ w h. ap is_released (entry_by_lem w) ∙ released_by_lem (released_by lines w) (entered_by lines w) (last_bit_by lines w))
      ∙ count_all (released_by lines) (unshown side c Δ ls sound.few sound.each lines kept)

  sheet_by_lem : after.sheet ≡ sheet_of c.inputs (shown_by Δ ls lines)
  sheet_by_lem = ap (λ s. s.sheet) by_lines

  shown_by_lem : (w : ℕ) → w < c.inputs → released_by lines w ≡ true
      → (mark_on after.sheet w ≡ 1) × (label_on c.inputs after.sheet w ≡ bit_label Δ ls w (last_bit_by lines w))
  shown_by_lem w below on =
      let is : shown_by Δ ls lines w ≡ Some (bit_label Δ ls w (last_bit_by lines w)) = λ i. cond (on i) (Some (bit_label Δ ls w (last_bit_by lines w))) None in
      let small = label_small Δ ls w (last_bit_by lines w) (sound.small w below) sound.offset in (
        ap (λ s. mark_on s w) sheet_by_lem ∙ mark_on-sheet_of c.inputs (shown_by Δ ls lines) w below ∙ ap mark_byte is,
        ap (λ s. label_on c.inputs s w) sheet_by_lem
            ∙ label_on-shown c.inputs (shown_by Δ ls lines) w (bit_label Δ ls w (last_bit_by lines w)) below is small.0 small.1,
      )

  blank_by : (w : ℕ) → w < c.inputs → released_by lines w ≡ false
      → (mark_on after.sheet w ≡ 0) × (label_on c.inputs after.sheet w ≡ (0, 0))
  blank_by w below off =
      let is : shown_by Δ ls lines w ≡ None = λ i. cond (off i) (Some (bit_label Δ ls w (last_bit_by lines w))) None in (
        ap (λ s. mark_on s w) sheet_by_lem ∙ mark_on-sheet_of c.inputs (shown_by Δ ls lines) w below ∙ ap mark_byte is,
        ap (λ s. label_on c.inputs s w) sheet_by_lem ∙ label_on-blank c.inputs (shown_by Δ ls lines) w below is,
      )

  store_by : closed_by lines ≡ false → after.store ≡ store_of Δ (labels_left ls lines c.inputs)
  store_by still = ap (λ s. s.store) by_lines ∙ store_still side c Δ ls sound.few sound.each lines still

  left_by_lem : (w : ℕ) → stored_label (store_of Δ (labels_left ls lines c.inputs)) w ≡ left_by ls lines w
  left_by_lem w = stored_label-store_of Δ (labels_left ls lines c.inputs) w ∙ by (cases_lt w c.inputs)
    where
      by : (w < c.inputs) ⊎ (c.inputs ≤ w) → false_label (labels_left ls lines c.inputs) w ≡ left_by ls lines w
      by (inl below) = point_at (left_by ls lines) c.inputs w (0, 0) below
      by (inr past) =
          let whole = length-map-range_with_len (left_by ls lines) 0 c.inputs in
          let each = sound.each in
          let gone = unshown side c Δ ls sound.few sound.each lines kept w past in
          get_or_past (labels_left ls lines c.inputs) w (0, 0) (omega (arith, whole))
          ∙ sym ((λ i. cond (gone i) (0, 0) (false_label ls w)) ∙ get_or_past ls w (0, 0) (omega arith))

one_label_in : (side : ℕ) (c : Wiring) (Δ : Label) (ls : List Label) (sound : Sound c Δ ls) (lines : List Line) (kept : Kept (opened_state side c Δ ls) lines)
    → OneLabelIn side c Δ ls lines
one_label_in side c Δ ls sound lines kept = record {
  once = once side c Δ ls sound.few sound.each lines kept;
  own = owned;
  released = entered;
  sheet = sheet_by_lem side c Δ ls sound lines kept;
  inputs = (let few = sound.few in ap sheet_inputs (sheet_by_lem side c Δ ls sound lines kept) ∙ sheet_inputs-sheet_of c.inputs (shown_by Δ ls lines) (omega arith));
  shown = shown_by_lem side c Δ ls sound lines kept;
  blank = blank_by side c Δ ls sound lines kept;
  stays = λ more longer w on.
      let still = stays_by side c Δ ls sound.few sound.each more lines longer w on in
      let there = shown_by_lem side c Δ ls sound (more ++ lines) longer w (owned w (entered w on)).0 still.0 in
      (there.0, there.1 ∙ ap (bit_label Δ ls w) still.1);
  enters = enters_all side c Δ ls sound.few sound.each lines kept;
  entries = λ w. ap (λ s. entry_at s.ledger w) by ∙ entry_by_lem side c Δ ls sound lines kept w;
  waiting = ap (λ s. waiting_in s.ledger) by ∙ waiting_by_lem side c Δ ls sound lines kept;
  counted = ap (λ s. released_in s.ledger) by ∙ counted_by side c Δ ls sound lines kept;
  store = store_by side c Δ ls sound lines kept;
  offset = λ still. ap stored_offset (store_by side c Δ ls sound lines kept still);
  left = λ still w. ap (λ s. stored_label s w) (store_by side c Δ ls sound lines kept still) ∙ left_by_lem side c Δ ls sound lines kept w;
  zeroed = λ shut. ap (λ s. s.store) by
      ∙ (λ i. cond (shut i) (replicate (store_length c.inputs) 0) (store_of Δ (labels_left ls lines c.inputs)));
}
  where
    by : state_after (opened_state side c Δ ls) lines ≡ state_by side c Δ ls sound.few sound.each lines
    by = by_lines side c Δ ls sound lines kept

    entered : (w : ℕ) → released_by lines w ≡ true → entered_by lines w ≡ true
    entered = released_entered side c Δ ls sound.few sound.each lines kept

    owned : (w : ℕ) → entered_by lines w ≡ true → (w < c.inputs) × (side_at c w ≡ side)
    owned = own side c Δ ls sound.few sound.each lines kept

pub one_label : OneLabel
one_label side c Δ ls sound lines kept = one_label_in side c Δ ls sound lines kept

-- What is counted in a ledger is what the lines count that led to it.
pub counts_lines : (l : Ledger) (closed : ClosedSitting) → Counts l closed → CountsLines l closed
counts_lines l closed (waiting, released) side c Δ ls sound lines kept is =
    let laws = one_label side c Δ ls sound lines kept in
    (waiting ∙ sym (ap waiting_in is) ∙ laws.waiting, released ∙ sym (ap released_in is) ∙ laws.counted)
