-- One label for each wire, by induction over the lines of a kept book.
use Rattle.std.proofs.Common.{◌≡◌, ℕ, ◌+◌, ◌<◌, ◌≤◌, Bool, true, false, cond, not, ◌&&◌, ◌||◌, eqb, ◌⊎◌, List, [], ◌∷◌, ◌++◌, length, None, sym, refl, ap, ◌∙◌, subst, inl, inr, zero-add, arith}
use Rattle.std.proofs.lemmas.Bool.{cases_Bool, eqb-true, lt-ltb, or_parts, or_cases, or_right, both_ways}
use Rattle.label.specs.Labels.{Label}
use Rattle.wires.specs.Wires.{Wiring, number, side_at, is_input, wires_where}
use Rattle.ledger.specs.Ledger.{owners_of, owner_of, owner_at}
use Rattle.ledger.proofs.Points.{point_at}
use Rattle.entries.specs.Steps.{Call, enter_call, change_call, release_call, close_call, step_fault}
use Rattle.entries.specs.Book.{Line, done_line, refused_line, opened_state, Kept, releases, entered_by, released_by, waiting_by, last_bit_by, done_enters, done_releases, waiting_count, released_count}
use Rattle.entries.proofs.Counting.{count_same, count_flip, count_only}
use Rattle.entries.proofs.Facts.{OwnInput}
use Rattle.entries.proofs.States.{self, apart, ledger_by, store_by, sheet_by, state_by, Entered, enter_below, change_below, release_below, state_by_lem}

-- A wire that is not released has no done release.
unreleased : (lines : List Line) (w : ℕ) → released_by lines w ≡ false → done_releases lines w ≡ 0
unfolding released_by done_releases
unreleased [] w off = refl
unreleased (line ∷ lines) w off =
    let parts = or_parts (releases line w) (released_by lines w) off in
    let here : number (releases line w) ≡ 0 = ap number parts.0 in
    omega (arith, here, unreleased lines w parts.1)

one_more : (b : Bool) (n : ℕ) → (b ≡ true → n ≡ 0) → n ≤ 1 → number b + n ≤ 1
one_more true n none most = omega (arith, none refl)
one_more false n none most = omega arith

module _ (side : ℕ) (c : Wiring) (Δ : Label) (ls : List Label) (few : c.inputs ≤ 512) (each : length ls ≡ c.inputs) where
  abbrev pub Book : List Line → Type 0
  Book lines = Kept (opened_state side c Δ ls) lines

  -- What a done call on a wire found, by the lines below it.
  abbrev Below : List Line → ℕ → Bool → Type 0
  Below lines w entered = Entered side c Δ ls few each lines w entered

  none_below : (call : Call) (lines : List Line) → Book (done_line call ∷ lines) → step_fault call (state_by side c Δ ls few each lines) ≡ None
  unfolding Kept
  none_below call lines kept = subst (λ s. step_fault call s ≡ None) (state_by_lem side c Δ ls few each lines kept.0) kept.2

  entered : (lines : List Line) (w bit : ℕ) → Book (done_line (enter_call w bit) ∷ lines) → Below lines w false
  entered lines w bit kept = enter_below side c Δ ls few each lines w bit (none_below (enter_call w bit) lines kept)

  changed : (lines : List Line) (w bit : ℕ) → Book (done_line (change_call w bit) ∷ lines) → Below lines w true
  changed lines w bit kept = change_below side c Δ ls few each lines w bit (none_below (change_call w bit) lines kept)

  let_go : (lines : List Line) (w : ℕ) → Book (done_line (release_call w) ∷ lines) → Below lines w true
  let_go lines w kept =
      release_below side c Δ ls few each lines (length (store_by side c Δ ls few each lines)) (length (sheet_by side c Δ ls few each lines)) w
      (none_below (release_call w) lines kept)

  below : (line : Line) (lines : List Line) → Book (line ∷ lines) → Book lines
  unfolding Kept
  below line lines kept = kept.0

  pub once : (lines : List Line) → Book lines → (w : ℕ) → done_releases lines w ≤ 1
  unfolding done_releases
  once [] kept w = omega arith
  once (done_line (enter_call v bit) ∷ lines) kept w = omega (arith, once lines (below _ lines kept) w)
  once (done_line (change_call v bit) ∷ lines) kept w = omega (arith, once lines (below _ lines kept) w)
  once (done_line (release_call v) ∷ lines) kept w =
      one_more (eqb v w) (done_releases lines w)
      (λ same. unreleased lines w (ap (released_by lines) (sym (eqb-true v w same)) ∙ (let_go lines v kept).1))
      (once lines (below _ lines kept) w)
  once (done_line close_call ∷ lines) kept w = omega (arith, once lines (below _ lines kept) w)
  once (refused_line call ∷ lines) kept w = omega (arith, once lines (below _ lines kept) w)

  -- An own input of the ledger is one of the circuit.
  own_wire : (lines : List Line) (w : ℕ) → OwnInput (ledger_by side c Δ ls few each lines) w → (w < c.inputs) × (side_at c w ≡ side)
  unfolding owners_of
  own_wire lines w own =
      let input : is_input c w ≡ true = lt-ltb w c.inputs own.0 in
      let owner : owner_at (ledger_by side c Δ ls few each lines) w ≡ side_at c w =
      point_at (owner_of c) 512 w 0 own.1 ∙ (λ i. cond (input i) (side_at c w) 0) in
      (own.0, sym owner ∙ own.2)

  pub own : (lines : List Line) → Book lines → (w : ℕ) → entered_by lines w ≡ true → (w < c.inputs) × (side_at c w ≡ side)
  unfolding entered_by
  own [] kept w on = absurd (both_ways false refl on)
  own (done_line (enter_call v bit) ∷ lines) kept w on = by (or_cases (eqb v w) (entered_by lines w) on) (own lines (below _ lines kept) w)
    where
      by : (eqb v w ≡ true) ⊎ (entered_by lines w ≡ true) → (entered_by lines w ≡ true → (w < c.inputs) × (side_at c w ≡ side))
          → (w < c.inputs) × (side_at c w ≡ side)
      by (inl same) earlier =
          subst (λ u. (u < c.inputs) × (side_at c u ≡ side)) (eqb-true v w same) (own_wire lines v (entered lines v bit kept).0)
      by (inr before) earlier = earlier before
  own (done_line (change_call v bit) ∷ lines) kept w on = own lines (below _ lines kept) w on
  own (done_line (release_call v) ∷ lines) kept w on = own lines (below _ lines kept) w on
  own (done_line close_call ∷ lines) kept w on = own lines (below _ lines kept) w on
  own (refused_line call ∷ lines) kept w on = own lines (below _ lines kept) w on

  pub released_entered : (lines : List Line) → Book lines → (w : ℕ) → released_by lines w ≡ true → entered_by lines w ≡ true
  unfolding entered_by released_by
  released_entered [] kept w on = absurd (both_ways false refl on)
  released_entered (done_line (enter_call v bit) ∷ lines) kept w on =
      or_right (eqb v w) (entered_by lines w) (released_entered lines (below _ lines kept) w on)
  released_entered (done_line (change_call v bit) ∷ lines) kept w on = released_entered lines (below _ lines kept) w on
  released_entered (done_line (release_call v) ∷ lines) kept w on =
      by (or_cases (eqb v w) (released_by lines w) on) (released_entered lines (below _ lines kept) w)
    where
      by : (eqb v w ≡ true) ⊎ (released_by lines w ≡ true) → (released_by lines w ≡ true → entered_by lines w ≡ true) → entered_by lines w ≡ true
      by (inl same) earlier = ap (entered_by lines) (sym (eqb-true v w same)) ∙ (let_go lines v kept).2
      by (inr before) earlier = earlier before
  released_entered (done_line close_call ∷ lines) kept w on = released_entered lines (below _ lines kept) w on
  released_entered (refused_line call ∷ lines) kept w on = released_entered lines (below _ lines kept) w on

  -- From the inputs on no wire is touched.
  pub unentered : (lines : List Line) → Book lines → (w : ℕ) → c.inputs ≤ w → entered_by lines w ≡ false
  unentered lines kept w past = by (cases_Bool (entered_by lines w))
    where
      by : (entered_by lines w ≡ true) ⊎ (entered_by lines w ≡ false) → entered_by lines w ≡ false
      by (inl on) = let low = (own lines kept w on).0 in absurd (omega arith)
      by (inr off) = off

  pub unshown : (lines : List Line) → Book lines → (w : ℕ) → c.inputs ≤ w → released_by lines w ≡ false
  unshown lines kept w past = by (cases_Bool (released_by lines w))
    where
      by : (released_by lines w ≡ true) ⊎ (released_by lines w ≡ false) → released_by lines w ≡ false
      by (inl on) = absurd (both_ways (entered_by lines w) (unentered lines kept w past) (released_entered lines kept w on))
      by (inr off) = off

  -- One line more leaves a released wire as it is.
  given_after : (lines : List Line) (v w : ℕ) (bit : Bool) → released_by lines v ≡ false → released_by lines w ≡ true
      → cond (eqb v w) bit (last_bit_by lines w) ≡ last_bit_by lines w
  given_after lines v w bit off on = by (cases_Bool (eqb v w))
    where
      by : (eqb v w ≡ true) ⊎ (eqb v w ≡ false) → cond (eqb v w) bit (last_bit_by lines w) ≡ last_bit_by lines w
      by (inl same) = absurd (both_ways (released_by lines w) (ap (released_by lines) (sym (eqb-true v w same)) ∙ off) on)
      by (inr ne) = λ i. cond (ne i) bit (last_bit_by lines w)

  abbrev pub Stays : List Line → List Line → ℕ → Type 0
  Stays more lines w = (released_by more w ≡ true) × (last_bit_by more w ≡ last_bit_by lines w)

  stays_line : (line : Line) (lines : List Line) → Book (line ∷ lines) → (w : ℕ) → released_by lines w ≡ true → Stays (line ∷ lines) lines w
  unfolding released_by last_bit_by
  stays_line (done_line (enter_call v bit)) lines kept w on = (on, given_after lines v w (eqb bit 1) (entered lines v bit kept).1 on)
  stays_line (done_line (change_call v bit)) lines kept w on = (on, given_after lines v w (eqb bit 1) (changed lines v bit kept).1 on)
  stays_line (done_line (release_call v)) lines kept w on = (or_right (eqb v w) (released_by lines w) on, refl)
  stays_line (done_line close_call) lines kept w on = (on, refl)
  stays_line (refused_line call) lines kept w on = (on, refl)

  pub stays_by : (more lines : List Line) → Book (more ++ lines) → (w : ℕ) → released_by lines w ≡ true → Stays (more ++ lines) lines w
  stays_by [] lines kept w on = (on, refl)
  stays_by (line ∷ more) lines kept w on =
      let earlier = stays_by more lines (below line (more ++ lines) kept) w on in
      let last = stays_line line (more ++ lines) kept w earlier.0 in
      (last.0, last.1 ∙ earlier.1)

  none_picked : (p : ℕ → Bool) (n : ℕ) → ((v : ℕ) → p v ≡ false) → length (wires_where p n) ≡ 0
  unfolding wires_where
  none_picked p n none = ap (λ k. length (wires_where p k)) (sym (zero-add n)) ∙ count_only p 0 n (λ v h. none v)

  abbrev m : ℕ
  m = c.inputs

  waiting_more : (lines : List Line) (v bit : ℕ) → Below lines v false
      → waiting_count (done_line (enter_call v bit) ∷ lines) m ≡ waiting_count lines m + 1
  unfolding entered_by released_by
  waiting_more lines v bit found =
      count_flip (waiting_by lines) (waiting_by (done_line (enter_call v bit) ∷ lines)) m v found.0.0
      (λ i. found.2 i && not (released_by lines v))
      (λ i. (self v i || entered_by lines v) && not (found.1 i))
      (λ w ne i. (apart w v ne i || entered_by lines w) && not (released_by lines w))

  waiting_less : (lines : List Line) (v : ℕ) → Below lines v true
      → waiting_count lines m ≡ waiting_count (done_line (release_call v) ∷ lines) m + 1
  unfolding entered_by released_by
  waiting_less lines v found =
      count_flip (waiting_by (done_line (release_call v) ∷ lines)) (waiting_by lines) m v found.0.0
      (λ i. found.2 i && not (self v i || released_by lines v))
      (λ i. found.2 i && not (found.1 i))
      (λ w ne i. entered_by lines w && not (sym (apart w v ne) i || released_by lines w))

  released_more : (lines : List Line) (v : ℕ) → Below lines v true
      → released_count (done_line (release_call v) ∷ lines) m ≡ released_count lines m + 1
  unfolding released_by
  released_more lines v found =
      count_flip (released_by lines) (released_by (done_line (release_call v) ∷ lines)) m v found.0.0 found.1
      (λ i. self v i || released_by lines v)
      (λ w ne i. apart w v ne i || released_by lines w)

  -- A line that leaves each wire waiting or not, and released or not, leaves the counts.
  counts_stay : (line : Line) (lines : List Line) → ((w : ℕ) → waiting_by (line ∷ lines) w ≡ waiting_by lines w)
      → ((w : ℕ) → released_by (line ∷ lines) w ≡ released_by lines w)
      → waiting_count (line ∷ lines) m + released_count (line ∷ lines) m ≡ waiting_count lines m + released_count lines m
  counts_stay line lines waits gone = λ i.
      count_same (waiting_by (line ∷ lines)) (waiting_by lines) m (λ w h. waits w) i
      + count_same (released_by (line ∷ lines)) (released_by lines) m (λ w h. gone w) i

  pub enters_all : (lines : List Line) → Book lines → done_enters lines ≡ waiting_count lines m + released_count lines m
  unfolding done_enters entered_by released_by
  enters_all [] kept = omega (arith, none_picked (waiting_by []) m (λ v. refl), none_picked (released_by []) m (λ v. refl))
  enters_all (done_line (enter_call v bit) ∷ lines) kept =
      omega (
        arith,
        enters_all lines (below _ lines kept),
        waiting_more lines v bit (entered lines v bit kept),
        count_same (released_by (done_line (enter_call v bit) ∷ lines)) (released_by lines) m (λ w h. refl),
      )
  enters_all (done_line (change_call v bit) ∷ lines) kept =
      omega (arith, enters_all lines (below _ lines kept), counts_stay (done_line (change_call v bit)) lines (λ w. refl) (λ w. refl))
  enters_all (done_line (release_call v) ∷ lines) kept =
      omega (arith, enters_all lines (below _ lines kept), waiting_less lines v (let_go lines v kept), released_more lines v (let_go lines v kept))
  enters_all (done_line close_call ∷ lines) kept =
      omega (arith, enters_all lines (below _ lines kept), counts_stay (done_line close_call) lines (λ w. refl) (λ w. refl))
  enters_all (refused_line call ∷ lines) kept =
      omega (arith, enters_all lines (below _ lines kept), counts_stay (refused_line call) lines (λ w. refl) (λ w. refl))
