-- The outputs, wire by wire: one step of the loop that asks for their marks, and what is read of the marks that are kept.
use Rattle.std.proofs.Common.{◌≡◌, ℕ, zero, suc, ◌+◌, ◌*◌, ◌<◌, ◌≤◌, Bool, true, false, cond, not, ◌&&◌, ◌≢◌, List, [], ◌∷◌, ◌++◌, map, length, get_or, is_some, Option, sym, refl, ap, ◌∙◌, subst, inl, inr, arith}
use Rattle.std.specs.List.{flat_map}
use Rattle.std.proofs.lemmas.List.{map-append}
use Rattle.std.proofs.lemmas.Simd.{map-map}
use Rattle.std.proofs.lemmas.Bool.{cases_eq}
use Rattle.label.specs.Labels.{Label}
use Rattle.label.specs.Hashes.{HashFunction, Question, Asked}
use Rattle.label.proofs.Chains.{asked_append}
use Rattle.wires.specs.Wires.{Wiring, is_output, wires_where, output_wires}
use Rattle.garbling.specs.Garbling.{label_in}
use Rattle.garbling.specs.Marks.{Mark, mark_of, mark_questions}
use Rattle.garbling.specs.Words.{labels_kept, keeping}
use Rattle.garbling.specs.Evaluation.{output_index, read_mark, output_at}
use Rattle.garbling.proofs.Kept.{kept_inside}
use Rattle.form.specs.Read.{false_marks_in, true_marks_in}
use Rattle.server.specs.Outputs.{bit_byte, neither_fault, output_bytes, HoldMarks, kept_bit, kept_fault, kept_bytes}
use Rattle.server.proofs.LowestWires.{lowest_same}
use Rattle.server.proofs.Rooms.{kept_here, kept_other}
use Rattle.server.proofs.Evaluated.{joined-more}

-- The label kept for a wire below n, after one is kept for wire w.
after_here : (ws : List ℕ) (n w : ℕ) (l : Label) → w < n → length ws ≡ 2 * n → label_in (labels_kept (keeping ws w l) n) w ≡ l
after_here ws n w l below room = kept_inside (keeping ws w l) n w below ∙ kept_here ws w l (omega arith)

after_other : (ws : List ℕ) (n w k : ℕ) (l : Label) → k < n → k ≢ w → label_in (labels_kept (keeping ws w l) n) k ≡ label_in (labels_kept ws n) k
after_other ws n w k l below apart = kept_inside (keeping ws w l) n k below ∙ kept_other ws w k l apart ∙ sym (kept_inside ws n k below)

module _ {H : Type 0} (asks : H → Label → ℕ → H → Type 0) (c : Wiring) (f : HashFunction) (ls : List Label) where
  abbrev n : ℕ
  n = c.wires

  abbrev questions : ℕ → List Question
  questions w = mark_questions n w (label_in ls w)

  -- The outputs below w have their marks in the words, the further wires their labels, and what they need was asked.
  abbrev pub Marked : ℕ → H → H → List ℕ → Type 0
  Marked w h₀ h ws =
      ((k : ℕ) → k < n → k < w → is_output c k ≡ true → label_in (labels_kept ws n) k ≡ mark_of f n k (label_in ls k))
      × ((k : ℕ) → k < n → w ≤ k → label_in (labels_kept ws n) k ≡ label_in ls k)
      × Asked asks (flat_map questions (wires_where (is_output c) w)) h₀ h

  asked_more : (w : ℕ) (b : Bool) (h₀ h h' : H) → is_output c w ≡ b
      → Asked asks (flat_map questions (wires_where (is_output c) w)) h₀ h → Asked asks (cond b (questions w) []) h h'
      → Asked asks (flat_map questions (wires_where (is_output c) (w + 1))) h₀ h'
  asked_more w b h₀ h h' is before more =
      subst (λ qs. Asked asks qs h₀ h') (sym (joined-more questions (is_output c) w))
      (asked_append asks (flat_map questions (wires_where (is_output c) w)) (cond (is_output c w) (questions w) []) h₀ h h' before
      (subst (λ t. Asked asks (cond t (questions w) []) h h') (sym is) more))

  pub marked_start : (h : H) (ws : List ℕ) → ls ≡ labels_kept ws n → Marked 0 h h ws
  unfolding wires_where
  marked_start h ws same = ((λ k below none. absurd (omega arith)), (λ k below past. sym (ap (λ xs. label_in xs k) same)), refl)

  -- A wire that is no output is passed over.
  pub marked_left : (w : ℕ) (h₀ h h' : H) (ws ws' : List ℕ) → is_output c w ≡ false → Marked w h₀ h ws → ws' ≡ ws → h' ≡ h → Marked (w + 1) h₀ h' ws'
  marked_left w h₀ h h' ws ws' passed (marks, rest, asked) same same-hash =
      let here : (k : ℕ) → k < n → k < w + 1 → is_output c k ≡ true → label_in (labels_kept ws n) k ≡ mark_of f n k (label_in ls k) =
      λ k below reached output.
      elim (cases_eq k w) [
        | inl at ↦ absurd (never k (ap (is_output c) at ∙ passed) output)
        | inr apart ↦ marks k below (let far : k ≢ w = apart in omega arith) output
      ] in
      subst (λ vs. Marked (w + 1) h₀ h' vs) (sym same)
      (here, (λ k below past. rest k below (omega arith)), asked_more w false h₀ h h' passed asked same-hash)
    where
      never : (k : ℕ) → is_output c k ≡ false → is_output c k ≡ true → ⊥
      never k p q = let z : ◌≡◌ {A = ℕ} 0 1 = cc in omega arith

  -- The mark of an output is asked for and kept.
  pub marked_taken : (w : ℕ) (h₀ h h' : H) (ws ws' : List ℕ) → is_output c w ≡ true → w < n → length ws ≡ 2 * n → Marked w h₀ h ws
      → ws' ≡ keeping ws w (mark_of f n w (label_in (labels_kept ws n) w)) → Asked asks (mark_questions n w (label_in (labels_kept ws n) w)) h h'
      → Marked (w + 1) h₀ h' ws'
  marked_taken w h₀ h h' ws ws' output inside room (marks, rest, asked) kept more =
      let l : Mark = mark_of f n w (label_in (labels_kept ws n) w) in
      let own = rest w inside (omega arith) in
      let here : (k : ℕ) → k < n → k < w + 1 → is_output c k ≡ true → label_in (labels_kept ws' n) k ≡ mark_of f n k (label_in ls k) =
      λ k below reached is.
      ap (λ vs. label_in (labels_kept vs n) k) kept
      ∙ elim (cases_eq k w) [
        | inl at ↦
            ap (λ j. label_in (labels_kept (keeping ws w l) n) j) at ∙ after_here ws n w l inside room ∙ ap (mark_of f n w) own
            ∙ sym (ap (λ j. mark_of f n j (label_in ls j)) at)
        | inr apart ↦ after_other ws n w k l below apart ∙ marks k below (let far : k ≢ w = apart in omega arith) is
      ] in (
        here,
        (λ k below past. ap (λ vs. label_in (labels_kept vs n) k) kept ∙ after_other ws n w k l below (omega arith) ∙ rest k below (omega arith)),
        asked_more w true h₀ h h' output asked (subst (λ x. Asked asks (mark_questions n w x) h h') own more),
      )

-- Functions that agree on the wires picked list the same.
map-where : {X : Type 0} (p : ℕ → Bool) (g h : ℕ → X) (n : ℕ) → ((w : ℕ) → w < n → p w ≡ true → g w ≡ h w)
    → map g (wires_where p n) ≡ map h (wires_where p n)
unfolding wires_where
map-where p g h zero alike = refl
map-where p g h (suc n) alike =
    map-append g (wires_where p n) (cond (p n) (n ∷ []) [])
    ∙ (λ i. map-where p g h n (λ w below. alike w (omega arith)) i ++ one (p n) (alike n (omega arith)) i)
    ∙ sym (map-append h (wires_where p n) (cond (p n) (n ∷ []) []))
  where
    one : (b : Bool) → (b ≡ true → g n ≡ h n) → map g (cond b (n ∷ []) []) ≡ map h (cond b (n ∷ []) [])
    one true same = λ i. same refl i ∷ []
    one false same = refl

module _ (c : Wiring) (F : List ℕ) (f : HashFunction) (ls : List Label) (ws : List ℕ) (marks : HoldMarks c f ls ws) where
  -- The bit read by the mark kept is the output's.
  bit_same : (w : ℕ) → w < c.wires → is_output c w ≡ true
      → kept_bit c F ws w (output_index c w) ≡ output_at c f (false_marks_in F) (true_marks_in F) ls w
  bit_same w below output =
      ap (read_mark (get_or (false_marks_in F) (output_index c w) (0, 0)) (get_or (true_marks_in F) (output_index c w) (0, 0))) (marks w below output)

  and_same : (b : Bool) (x y : Option Bool) → (b ≡ true → x ≡ y) → (b && not (is_some x)) ≡ (b && not (is_some y))
  and_same true x y same = ap (λ o. not (is_some o)) (same refl)
  and_same false x y same = refl

  pub fault_same : kept_fault c F ws ≡ neither_fault c F f ls
  unfolding neither_fault
  fault_same = lowest_same 16 _ _ c.wires (λ w below. and_same (is_output c w) _ _ (bit_same w below))

  pub bytes_same : kept_bytes c F ws ≡ output_bytes c F f ls
  unfolding output_bytes
  bytes_same =
      map-where (is_output c) _ _ c.wires (λ w below output. ap bit_byte (bit_same w below output))
      ∙ sym (map-map bit_byte (output_at c f (false_marks_in F) (true_marks_in F) ls) (output_wires c))
