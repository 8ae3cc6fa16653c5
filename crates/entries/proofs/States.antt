-- The state that the lines of a kept book leave is the one that the lines alone describe.
use Rattle.std.proofs.Common.{◌≡◌, ℕ, ◌<◌, ◌≤◌, Bool, true, false, cond, ◌||◌, eqb, ◌≢◌, ◌⊎◌, List, [], ◌∷◌, map, length, set, replicate, Some, None, sym, refl, ap, ◌∙◌, subst, inl, inr}
use Rattle.std.specs.List.{range_with_len}
use Rattle.std.proofs.lemmas.List.FromFn.{fill_by_all, length-map-range_with_len}
use Rattle.std.proofs.lemmas.List.{length-replicate, get_or-replicate}
use Rattle.std.proofs.lemmas.Bool.{cases_eq, eq-eqb, ne_eqb}
use Rattle.label.specs.Sums.{halves}
use Rattle.label.specs.Labels.{Label}
use Rattle.gate.specs.Sums.{shifted}
use Rattle.wires.specs.Wires.{Wiring}
use Rattle.ledger.specs.declared.Entry.{Entry}
use Rattle.ledger.specs.declared.Entry.TheVariants.{Empty, Waiting, Released}
use Rattle.ledger.specs.declared.Ledger.{Ledger}
use Rattle.ledger.specs.Entries.{bit_of}
use Rattle.ledger.specs.Ledger.{owners_of, entry_at}
use Rattle.ledger.specs.Store.{store_of, store_length, stored_label, without_label}
use Rattle.ledger.specs.Sheet.{sheet_of, with_label}
use Rattle.ledger.proofs.Points.{point_at, point_put}
use Rattle.ledger.proofs.Sheets.{blank_shows_none, with_label-sheet_of}
use Rattle.ledger.proofs.Stores.{length-store_of, stored_label-store_of, without_label-store_of}
use Rattle.entries.specs.Steps.{Call, enter_call, change_call, release_call, close_call, State, step_fault, step_after, enter_fault, change_fault, release_fault, label_for}
use Rattle.entries.specs.Book.{Line, done_line, refused_line, opened_state, state_after, closed_by, Kept, entered_by, released_by, last_bit_by, entry_by, false_label, bit_label, shown_by, left_by, labels_left}
use Rattle.entries.proofs.Facts.{OwnInput, enter_facts, change_facts, release_facts, entry_of, empty_unentered, waiting_entered}

-- The entries of the wires below n, by the lines.
unfoldable pub entries_by : List Line → ℕ → List Entry
entries_by lines n = map (entry_by lines) (range_with_len 0 n)

none_entered : (n : ℕ) → replicate n Empty ≡ entries_by [] n
unfolding entries_by entered_by released_by
none_entered n = fill_by_all (entry_by []) (replicate n Empty) n Empty (length-replicate n Empty) (λ k h. get_or-replicate n k Empty Empty h)

pub self : (w : ℕ) → eqb w w ≡ true
self w = eq-eqb w w refl

pub apart : (v w : ℕ) → v ≢ w → eqb w v ≡ false
apart v w ne = ne_eqb w v (λ e. ne (sym e))

-- Where nothing is shown, it does not matter what would be.
hidden : (r : Bool) (x y : Label) → r ≡ false → cond r (Some x) None ≡ cond r (Some y) None
hidden r x y off = (λ i. cond (off i) (Some x) None) ∙ sym (λ i. cond (off i) (Some y) None)

module _ (side : ℕ) (c : Wiring) (Δ : Label) (ls : List Label) (few : c.inputs ≤ 512) (each : length ls ≡ c.inputs) where
  abbrev pub ledger_by : List Line → Ledger
  ledger_by lines = record { side = side; inputs = c.inputs; sides = owners_of c 512; entries = entries_by lines 512 }

  abbrev pub store_by : List Line → List ℕ
  store_by lines = cond (closed_by lines) (replicate (store_length c.inputs) 0) (store_of Δ (labels_left ls lines c.inputs))

  abbrev pub sheet_by : List Line → List ℕ
  sheet_by lines = sheet_of c.inputs (shown_by Δ ls lines)

  abbrev pub state_by : List Line → State
  state_by lines = record { ledger = ledger_by lines; store = store_by lines; sheet = sheet_by lines }

  pub entry_below : (lines : List Line) (w : ℕ) → w < 512 → entry_at (ledger_by lines) w ≡ entry_by lines w
  unfolding entries_by
  entry_below lines w below = point_at (entry_by lines) 512 w Empty below

  -- What a done call on wire w says of the lines below it.
  abbrev pub Entered : List Line → ℕ → Bool → Type 0
  Entered lines w entered = OwnInput (ledger_by lines) w × (released_by lines w ≡ false) × (entered_by lines w ≡ entered)

  pub enter_below : (lines : List Line) (w bit : ℕ) → enter_fault (ledger_by lines) w bit ≡ None → Entered lines w false
  enter_below lines w bit none =
      let facts = enter_facts (ledger_by lines) w bit none in
      let entry = sym (entry_below lines w facts.0.1) ∙ facts.1 in
      let by = empty_unentered (released_by lines w) (entered_by lines w) (last_bit_by lines w) entry in
      (facts.0, by.0, by.1)

  waits : (lines : List Line) (w : ℕ) → OwnInput (ledger_by lines) w → entry_at (ledger_by lines) w ≡ Waiting (bit_of (entry_at (ledger_by lines) w))
      → Entered lines w true
  waits lines w own is =
      let entry = sym (entry_below lines w own.1) ∙ is in
      let by = waiting_entered (released_by lines w) (entered_by lines w) (last_bit_by lines w) _ entry in
      (own, by.0, by.1)

  pub change_below : (lines : List Line) (w bit : ℕ) → change_fault (ledger_by lines) w bit ≡ None → Entered lines w true
  change_below lines w bit none = let facts = change_facts (ledger_by lines) w bit none in waits lines w facts.0 facts.1

  pub release_below : (lines : List Line) (words bytes w : ℕ) → release_fault (ledger_by lines) words bytes w ≡ None → Entered lines w true
  release_below lines words bytes w none =
      let facts = release_facts (ledger_by lines) words bytes w none in waits lines w facts.0 facts.1

  opened_by : opened_state side c Δ ls ≡ state_by []
  unfolding closed_by entered_by released_by
  opened_by = λ i. record {
    ledger = record { side = side; inputs = c.inputs; sides = owners_of c 512; entries = none_entered 512 i };
    store = store_of Δ (fill_by_all (left_by ls []) ls c.inputs (0, 0) each (λ k h. refl) i);
    sheet = blank_shows_none c.inputs i;
  }

  -- One entry of the lines changes, and the others stay.
  entries_put : (lines more : List Line) (w : ℕ) (e : Entry) → w < 512 → entry_by more w ≡ e → ((v : ℕ) → v ≢ w → entry_by more v ≡ entry_by lines v)
      → set (entries_by lines 512) w e ≡ entries_by more 512
  unfolding entries_by
  entries_put lines more w e below here other = point_put (entry_by lines) (entry_by more) 512 w e below here other

  -- A bit given for a wire that is not released shows nothing.
  enter_shown : (lines : List Line) (w bit : ℕ) → released_by lines w ≡ false
      → (v : ℕ) → shown_by Δ ls lines v ≡ shown_by Δ ls (done_line (enter_call w bit) ∷ lines) v
  unfolding released_by last_bit_by
  enter_shown lines w bit off v = by_place (cases_eq v w)
    where
      by_place : (v ≡ w) ⊎ (v ≢ w) → shown_by Δ ls lines v ≡ shown_by Δ ls (done_line (enter_call w bit) ∷ lines) v
      by_place (inl same) = hidden (released_by lines v) _ _ (ap (released_by lines) same ∙ off)
      by_place (inr ne) =
          sym (λ i. cond (released_by lines v) (Some (bit_label Δ ls v (cond (apart v w ne i) (eqb bit 1) (last_bit_by lines v)))) None)

  change_shown : (lines : List Line) (w bit : ℕ) → released_by lines w ≡ false
      → (v : ℕ) → shown_by Δ ls lines v ≡ shown_by Δ ls (done_line (change_call w bit) ∷ lines) v
  unfolding released_by last_bit_by
  change_shown lines w bit off v = enter_shown lines w bit off v

  step_enter : (lines : List Line) (w bit : ℕ) → enter_fault (ledger_by lines) w bit ≡ None
      → step_after (enter_call w bit) (state_by lines) ≡ state_by (done_line (enter_call w bit) ∷ lines)
  unfolding closed_by entered_by released_by last_bit_by
  step_enter lines w bit none =
      let below = enter_below lines w bit none in
      let here : entry_by (done_line (enter_call w bit) ∷ lines) w ≡ Waiting (eqb bit 1) =
      λ i. entry_of (below.1 i) (self w i || entered_by lines w) (cond (self w i) (eqb bit 1) (last_bit_by lines w)) in
      let other : (v : ℕ) → v ≢ w → entry_by (done_line (enter_call w bit) ∷ lines) v ≡ entry_by lines v =
      λ v ne i. entry_of (released_by lines v) (apart v w ne i || entered_by lines v) (cond (apart v w ne i) (eqb bit 1) (last_bit_by lines v)) in
      λ i. record {
        ledger = record { side = side; inputs = c.inputs; sides = owners_of c 512; entries = entries_put lines (done_line (enter_call w bit) ∷ lines) w (Waiting (eqb bit 1)) below.0.1 here other i };
        store = store_by lines;
        sheet = sheet_of c.inputs (λ v. enter_shown lines w bit below.1 v i);
      }

  step_change : (lines : List Line) (w bit : ℕ) → change_fault (ledger_by lines) w bit ≡ None
      → step_after (change_call w bit) (state_by lines) ≡ state_by (done_line (change_call w bit) ∷ lines)
  unfolding closed_by entered_by released_by last_bit_by
  step_change lines w bit none =
      let below = change_below lines w bit none in
      let here : entry_by (done_line (change_call w bit) ∷ lines) w ≡ Waiting (eqb bit 1) =
      λ i. entry_of (below.1 i) (below.2 i) (cond (self w i) (eqb bit 1) (last_bit_by lines w)) in
      let other : (v : ℕ) → v ≢ w → entry_by (done_line (change_call w bit) ∷ lines) v ≡ entry_by lines v =
      λ v ne i. entry_of (released_by lines v) (entered_by lines v) (cond (apart v w ne i) (eqb bit 1) (last_bit_by lines v)) in
      λ i. record {
        ledger = record { side = side; inputs = c.inputs; sides = owners_of c 512; entries = entries_put lines (done_line (change_call w bit) ∷ lines) w (Waiting (eqb bit 1)) below.0.1 here other i };
        store = store_by lines;
        sheet = sheet_of c.inputs (λ v. change_shown lines w bit below.1 v i);
      }

  pub store_still : (lines : List Line) → closed_by lines ≡ false → store_by lines ≡ store_of Δ (labels_left ls lines c.inputs)
  store_still lines still = λ i. cond (still i) (replicate (store_length c.inputs) 0) (store_of Δ (labels_left ls lines c.inputs))

  -- The label that a release takes is that of the wire's last bit.
  label_released : (lines : List Line) (w : ℕ) → closed_by lines ≡ false → Entered lines w true
      → label_for (ledger_by lines) (store_by lines) w ≡ bit_label Δ ls w (last_bit_by lines w)
  label_released lines w still below =
      let stored : stored_label (store_of Δ (labels_left ls lines c.inputs)) w ≡ false_label ls w =
      stored_label-store_of Δ (labels_left ls lines c.inputs) w ∙ point_at (left_by ls lines) c.inputs w (0, 0) below.0.0
      ∙ (λ i. cond (below.1 i) (0, 0) (false_label ls w)) in
      let bit : bit_of (entry_at (ledger_by lines) w) ≡ last_bit_by lines w =
      ap bit_of (entry_below lines w below.0.1) ∙ (λ i. bit_of (entry_of (below.1 i) (below.2 i) (last_bit_by lines w))) in
      ap (λ s. label_for (ledger_by lines) s w) (store_still lines still) ∙ (λ i. shifted halves Δ (stored i) (bit i))

  step_release : (lines : List Line) (w : ℕ) → closed_by lines ≡ false → step_fault (release_call w) (state_by lines) ≡ None
      → step_after (release_call w) (state_by lines) ≡ state_by (done_line (release_call w) ∷ lines)
  unfolding closed_by entered_by released_by last_bit_by
  step_release lines w still none =
      let below = release_below lines (length (store_by lines)) (length (sheet_by lines)) w none in
      let more : List Line = done_line (release_call w) ∷ lines in
      let here : entry_by more w ≡ Released = λ i. entry_of (self w i || released_by lines w) (entered_by lines w) (last_bit_by lines w) in
      let other : (v : ℕ) → v ≢ w → entry_by more v ≡ entry_by lines v =
      λ v ne i. entry_of (apart v w ne i || released_by lines v) (entered_by lines v) (last_bit_by lines v) in
      let gone : left_by ls more w ≡ (0, 0) = λ i. cond (self w i || released_by lines w) (0, 0) (false_label ls w) in
      let kept : (v : ℕ) → v ≢ w → left_by ls more v ≡ left_by ls lines v =
      λ v ne i. cond (apart v w ne i || released_by lines v) (0, 0) (false_label ls v) in
      let shows : shown_by Δ ls more w ≡ Some (bit_label Δ ls w (last_bit_by lines w)) =
      λ i. cond (self w i || released_by lines w) (Some (bit_label Δ ls w (last_bit_by lines w))) None in
      let shown : (v : ℕ) → v ≢ w → shown_by Δ ls more v ≡ shown_by Δ ls lines v =
      λ v ne i. cond (apart v w ne i || released_by lines v) (Some (bit_label Δ ls v (last_bit_by lines v))) None in
      let store : without_label (store_by lines) w ≡ store_by more =
      ap (λ s. without_label s w) (store_still lines still) ∙ without_label-store_of Δ (labels_left ls lines c.inputs) w
      ∙ ap (store_of Δ) (point_put (left_by ls lines) (left_by ls more) c.inputs w (0, 0) below.0.0 gone kept) ∙ sym (store_still more still) in
      let sheet : with_label c.inputs (sheet_by lines) w (label_for (ledger_by lines) (store_by lines) w) ≡ sheet_by more =
      ap (with_label c.inputs (sheet_by lines) w) (label_released lines w still below)
      ∙ with_label-sheet_of c.inputs (shown_by Δ ls lines) (shown_by Δ ls more) w (bit_label Δ ls w (last_bit_by lines w)) below.0.0 shows shown in
      λ i. record {
        ledger = record { side = side; inputs = c.inputs; sides = owners_of c 512; entries = entries_put lines more w Released below.0.1 here other i };
        store = store i;
        sheet = sheet i;
      }

  step_close : (lines : List Line) → closed_by lines ≡ false → step_after close_call (state_by lines) ≡ state_by (done_line close_call ∷ lines)
  unfolding closed_by entered_by released_by last_bit_by entries_by
  step_close lines still =
      let words : length (store_by lines) ≡ store_length c.inputs =
      ap length (store_still lines still) ∙ length-store_of Δ (labels_left ls lines c.inputs)
      ∙ ap store_length (length-map-range_with_len (left_by ls lines) 0 c.inputs) in
      λ i. record { ledger = ledger_by lines; store = replicate (words i) 0; sheet = sheet_by lines }

  step : (call : Call) (lines : List Line) → closed_by lines ≡ false → step_fault call (state_by lines) ≡ None
      → step_after call (state_by lines) ≡ state_by (done_line call ∷ lines)
  step (enter_call w bit) lines still none = step_enter lines w bit none
  step (change_call w bit) lines still none = step_change lines w bit none
  step (release_call w) lines still none = step_release lines w still none
  step close_call lines still none = step_close lines still

  pub state_by_lem : (lines : List Line) → Kept (opened_state side c Δ ls) lines → state_after (opened_state side c Δ ls) lines ≡ state_by lines
  unfolding state_after Kept closed_by entered_by released_by last_bit_by entries_by
  state_by_lem [] kept = opened_by
  state_by_lem (done_line call ∷ lines) kept =
      let below = state_by_lem lines kept.0 in
      ap (step_after call) below ∙ step call lines kept.1 (subst (λ s. step_fault call s ≡ None) below kept.2)
  state_by_lem (refused_line call ∷ lines) kept = state_by_lem lines kept.0
