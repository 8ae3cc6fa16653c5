-- Evaluation, wire by wire: one step of the loop that keeps the labels met.
use Rattle.std.proofs.Common.{◌≡◌, ℕ, ◌+◌, ◌*◌, ◌<◌, ◌≤◌, Bool, true, false, cond, List, [], ◌∷◌, ◌++◌, length, sym, refl, ap, ◌∙◌, subst, add-one, arith}
use Rattle.std.specs.List.{flat_map}
use Rattle.std.proofs.lemmas.List.{append-nil}
use Rattle.std.proofs.lemmas.Grind.{flat_map-append}
use Rattle.std.proofs.lemmas.Bool.{ltb-true}
use Rattle.label.specs.Sums.{halves}
use Rattle.label.specs.Labels.{Label}
use Rattle.label.specs.Hashes.{HashFunction, Question, Asked}
use Rattle.label.proofs.Chains.{asked_append}
use Rattle.wires.specs.Wires.{Wiring, first_at, second_at, class_at, is_input, is_free, is_garbled, wires_where}
use Rattle.gate.specs.declared.garble.SentGate.{SentGate}
use Rattle.gate.specs.Classes.{parity_of}
use Rattle.gate.specs.Sums.{sum_of}
use Rattle.garbling.specs.Tweaks.{gate_tweak}
use Rattle.garbling.specs.Garbling.{label_in, gate_index}
use Rattle.garbling.specs.Words.{kept_at, labels_kept, keeping}
use Rattle.garbling.specs.Steps.{met_with, met_asks}
use Rattle.garbling.specs.Evaluation.{met_from, met_below, gate_met, evaluate_asks_at}
use Rattle.garbling.proofs.Kept.{kept_more, kept_none}
use Rattle.form.specs.Read.{gates_in}
use Rattle.server.specs.Gates.{sent_at}
use Rattle.server.specs.Labels.{HoldInputs}
use Rattle.server.proofs.Numbered.{sent_same}
use Rattle.server.proofs.Rooms.{kept_other}

-- What is joined over the wires picked so far, with one wire more.
joined-one : {A : Type 0} (g : ℕ → List A) (b : Bool) (w : ℕ) → flat_map g (cond b (w ∷ []) []) ≡ cond b (g w) []
joined-one g true w = append-nil (g w)
joined-one g false w = refl

pub joined-more : {A : Type 0} (g : ℕ → List A) (p : ℕ → Bool) (w : ℕ)
    → flat_map g (wires_where p (w + 1)) ≡ flat_map g (wires_where p w) ++ cond (p w) (g w) []
unfolding wires_where
joined-more g p w =
    rw add-one (flat_map-append g (wires_where p w) (cond (p w) (w ∷ []) []) ∙ ap (λ zs. flat_map g (wires_where p w) ++ zs) (joined-one g (p w) w))

-- Where a test decides, only the part that is taken counts.
cond_part : {A : Type 0} (b : Bool) (x y z : A) → (b ≡ true → x ≡ y) → cond b x z ≡ cond b y z
cond_part true x y z same = same refl
cond_part false x y z same = refl

met_more : (c : Wiring) (f : HashFunction) (gs : List SentGate) (xs : List Label) (w : ℕ)
    → met_below c f gs xs (w + 1) ≡ met_below c f gs xs w ++ (met_from c f gs xs (met_below c f gs xs w) w ∷ [])
unfolding met_below
met_more c f gs xs w = ap (met_below c f gs xs) (add-one w)

module _ {H : Type 0} (asks : H → Label → ℕ → H → Type 0) (c : Wiring) (F : List ℕ) (f : HashFunction) (xs : List Label) where
  -- The wires below w are evaluated: their labels are kept, the further words are as before, and what they need was asked.
  abbrev pub Met : ℕ → H → H → List ℕ → List ℕ → Type 0
  Met w h₀ h ws₀ ws =
      (labels_kept ws w ≡ met_below c f (gates_in F) xs w)
      × ((k : ℕ) → w ≤ k → kept_at ws k ≡ kept_at ws₀ k)
      × Asked asks (flat_map (evaluate_asks_at c f (gates_in F) xs) (wires_where (is_garbled c) w)) h₀ h

  pub met_start : (h : H) (ws : List ℕ) → Met 0 h h ws ws
  unfolding met_below wires_where
  met_start h ws = (kept_none ws, (λ k past. refl), refl)

  -- The label of one wire more.
  label_met : (w k : ℕ) (ws₀ ws : List ℕ) → HoldInputs c ws₀ xs → w < c.wires → k ≡ gate_index c w
      → labels_kept ws w ≡ met_below c f (gates_in F) xs w → kept_at ws w ≡ kept_at ws₀ w
      → met_with c f (sent_at F k) (kept_at ws w) (labels_kept ws w) w ≡ met_from c f (gates_in F) xs (met_below c f (gates_in F) xs w) w
  label_met w k ws₀ ws held below count met own =
      let bs : List Label = met_below c f (gates_in F) xs w in
      let a : Label = label_in bs (first_at c w) in
      let b : Label = label_in bs (second_at c w) in
      let free : Bool = is_free (class_at c w) in
      let same = sent_same f (parity_of (class_at c w)) F (gate_index c w) a b (gate_tweak w) in
      (λ i. met_with c f (sent_at F (count i)) (kept_at ws w) (met i) w)
      ∙ (λ i. cond (is_input c w) (kept_at ws w) (cond free (sum_of halves a b) (same i)))
      ∙ cond_part (is_input c w) (kept_at ws w) (label_in xs w) (cond free (sum_of halves a b) (gate_met c f (gates_in F) bs w))
      (λ input. own ∙ held w below (ltb-true w c.inputs input))

  pub met_step : (w k : ℕ) (h₀ h h' : H) (ws₀ ws ws' : List ℕ) → HoldInputs c ws₀ xs → w < c.wires → length ws ≡ 2 * c.wires
      → k ≡ gate_index c w → Met w h₀ h ws₀ ws
      → ws' ≡ keeping ws w (met_with c f (sent_at F k) (kept_at ws w) (labels_kept ws w) w)
      → Asked asks (met_asks c (labels_kept ws w) w) h h'
      → Met (w + 1) h₀ h' ws₀ ws'
  met_step w k h₀ h h' ws₀ ws ws' held below room count (met, frame, asked) kept more =
      let l : Label = met_with c f (sent_at F k) (kept_at ws w) (labels_kept ws w) w in
      let questions : ℕ → List Question = evaluate_asks_at c f (gates_in F) xs in (
        ap (λ us. labels_kept us (w + 1)) kept ∙ kept_more ws w l (omega arith)
            ∙ (λ i. met i ++ (label_met w k ws₀ ws held below count met (frame w (omega arith)) i ∷ []))
            ∙ sym (met_more c f (gates_in F) xs w),
        (λ j past. ap (λ us. kept_at us j) kept ∙ kept_other ws w j l (omega arith) ∙ frame j (omega arith)),
        subst (λ qs. Asked asks qs h₀ h') (sym (joined-more questions (is_garbled c) w))
            (asked_append asks (flat_map questions (wires_where (is_garbled c) w)) (cond (is_garbled c w) (questions w) []) h₀ h h' asked
            (subst (λ bs. Asked asks (met_asks c bs w) h h') met more)),
      )
