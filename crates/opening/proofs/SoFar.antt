-- How far a garbling has come after some wires, and how one wire more takes it on.
use Rattle.std.proofs.Common.{◌≡◌, ℕ, ◌+◌, ◌*◌, Bool, true, false, cond, List, [], ◌∷◌, ◌++◌, map, length, sym, refl, ap, ◌∙◌, subst, add-one, arith}
use lib.ListN.{length-map}
use Rattle.std.specs.List.{flat_map}
use Rattle.std.proofs.lemmas.List.{append-nil, map-append, flat_map_more}
use Rattle.label.specs.Labels.{Label}
use Rattle.label.specs.Hashes.{HashFunction, Question, Asked}
use Rattle.label.proofs.Chains.{asked_append}
use Rattle.wires.specs.Wires.{Wiring, is_garbled, wires_where, garbled_wires}
use Rattle.gate.specs.declared.garble.GarbledGate.{GarbledGate}
use Rattle.gate.specs.declared.garble.SentGate.{SentGate}
use Rattle.garbling.specs.Garbling.{gate_index, gate_from, false_from, falses_below, gate_at, garble_asks_at}
use Rattle.garbling.specs.Words.{labels_kept}
use Rattle.garbling.specs.Steps.{made_asks}
use Rattle.garbling.proofs.Kept.{kept_none}
use Rattle.form.specs.Layout.{ciphertext_bytes, control_bytes, gate_bytes}
use Rattle.opening.specs.Rows.{Rows}
use Rattle.opening.specs.Opening.{gates_sent}
use Rattle.slices.proofs.Widths.{length-joined}
use Rattle.opening.proofs.TwoRows.{rows_done}

-- One wire more is picked or not.
pub picked_more : (p : ℕ → Bool) (w : ℕ) → wires_where p (w + 1) ≡ wires_where p w ++ cond (p w) (w ∷ []) []
unfolding wires_where
picked_more p w = rw add-one

-- A map, or a row of lists, over one wire or none.
pub map-one : {X Y : Type 0} (h : X → Y) (b : Bool) (x : X) → map h (cond b (x ∷ []) []) ≡ cond b (h x ∷ []) []
map-one h true x = refl
map-one h false x = refl

pub joined-append : {I X : Type 0} (h : I → List X) (is : List I) (b : Bool) (i : I)
    → flat_map h (is ++ cond b (i ∷ []) []) ≡ flat_map h is ++ cond b (h i) []
joined-append h is true i = sym (flat_map_more h [] is i)
joined-append h is false i = ap (flat_map h) (append-nil is) ∙ sym (append-nil (flat_map h is))

abbrev sent : GarbledGate → SentGate
sent g = g.sent

module _ (c : Wiring) (T : List ℕ) (f : HashFunction) where
  -- The gates to send, and the questions asked, of the wires below w.
  abbrev pub gates_to : ℕ → List SentGate
  gates_to w = map sent (map (gate_at c T f) (wires_where (is_garbled c) w))

  abbrev pub asks_to : ℕ → List Question
  asks_to w = flat_map (garble_asks_at c T f) (wires_where (is_garbled c) w)

  falses_more : (w : ℕ) → falses_below c T f (w + 1) ≡ falses_below c T f w ++ (false_from c T f (falses_below c T f w) w ∷ [])
  unfolding falses_below
  falses_more w = rw add-one

  gates_more : (w : ℕ) → gates_to (w + 1) ≡ gates_to w ++ cond (is_garbled c w) (sent (gate_at c T f w) ∷ []) []
  gates_more w =
      ap (λ vs. map sent (map (gate_at c T f) vs)) (picked_more (is_garbled c) w)
      ∙ ap (map sent) (map-append (gate_at c T f) (wires_where (is_garbled c) w) _ ∙ ap (λ gs. map (gate_at c T f) (wires_where (is_garbled c) w) ++ gs) (map-one (gate_at c T f) (is_garbled c w) w))
      ∙ map-append sent (map (gate_at c T f) (wires_where (is_garbled c) w)) _
      ∙ ap (λ gs. gates_to w ++ gs) (map-one sent (is_garbled c w) (gate_at c T f w))

  asks_more : (w : ℕ) → asks_to (w + 1) ≡ asks_to w ++ made_asks c T (falses_below c T f w) w
  asks_more w = ap (flat_map (garble_asks_at c T f)) (picked_more (is_garbled c) w) ∙ joined-append (garble_asks_at c T f) (wires_where (is_garbled c) w) (is_garbled c w) w

  pub length-gates : (w : ℕ) → length (gates_to w) ≡ gate_index c w
  length-gates w = length-map (map (gate_at c T f) (wires_where (is_garbled c) w)) sent ∙ length-map (wires_where (is_garbled c) w) (gate_at c T f)

  -- The labels of the wires below w are kept, and their gates written, in all q of them.
  abbrev pub Garbled : ℕ → ℕ → ℕ → List ℕ → List ℕ → Type 0
  Garbled q w next ws bs =
      (next ≡ gate_index c w) × (labels_kept ws w ≡ falses_below c T f w) × Rows ciphertext_bytes control_bytes (24 * q) (gates_to w) bs

  pub garbled_none : (q : ℕ) (ws bs : List ℕ) → Garbled q 0 0 ws bs
  unfolding wires_where falses_below
  garbled_none q ws bs = (refl, kept_none ws, (refl, refl))

  -- One wire more, by a hash whose function is still f.
  pub garbled_more : (q w next next' : ℕ) (ws ws' bs bs' : List ℕ) (f' : HashFunction) → f' ≡ f → Garbled q w next ws bs
      → next' ≡ gate_index c (w + 1)
      → labels_kept ws' (w + 1) ≡ labels_kept ws w ++ (false_from c T f' (labels_kept ws w) w ∷ [])
      → ((gs : List SentGate) → length gs ≡ next → Rows ciphertext_bytes control_bytes (24 * q) gs bs
      → Rows ciphertext_bytes control_bytes (24 * q) (gs ++ cond (is_garbled c w) (sent (gate_from c T f' (labels_kept ws w) w) ∷ []) []) bs')
      → Garbled q (w + 1) next' ws' bs'
  garbled_more q w next next' ws ws' bs bs' f' same (index, kept, rows) index' label row = (
    index',
    label ∙ (λ i. kept i ++ (false_from c T (same i) (kept i) w ∷ [])) ∙ sym (falses_more w),
    subst (λ gs. Rows ciphertext_bytes control_bytes (24 * q) gs bs')
        ((λ i. gates_to w ++ cond (is_garbled c w) (sent (gate_from c T (same i) (kept i) w) ∷ []) []) ∙ sym (gates_more w))
        (row (gates_to w) (length-gates w ∙ sym index) rows),
  )

  pub asked_none : {H : Type 0} (asks : H → Label → ℕ → H → Type 0) (h : H) → Asked asks (asks_to 0) h h
  unfolding wires_where
  asked_none asks h = refl

  pub asked_more : {H : Type 0} (asks : H → Label → ℕ → H → Type 0) (w : ℕ) (ws : List ℕ) (h i k : H)
      → labels_kept ws w ≡ falses_below c T f w → Asked asks (asks_to w) h i → Asked asks (made_asks c T (labels_kept ws w) w) i k
      → Asked asks (asks_to (w + 1)) h k
  asked_more asks w ws h i k kept before here =
      subst (λ qs. Asked asks qs h k) (ap (λ below. asks_to w ++ made_asks c T below w) kept ∙ sym (asks_more w))
      (asked_append asks (asks_to w) (made_asks c T (labels_kept ws w) w) h i k before here)

  -- After the last wire the gates fill their part.
  pub gates_done : (q next : ℕ) (ws bs : List ℕ) → Garbled q c.wires next ws bs → q ≡ length (garbled_wires c) → length bs ≡ 26 * q
      → bs ≡ gate_bytes (gates_sent c T f)
  gates_done q next ws bs (index, kept, rows) all long =
      let count = length-gates c.wires in
      let one = length-joined ciphertext_bytes 24 (λ g. refl) (gates_to c.wires) in
      let two = length-joined control_bytes 2 (λ g. refl) (gates_to c.wires) in
      rows_done ciphertext_bytes control_bytes (24 * q) (gates_to c.wires) bs rows (omega (arith, one, count, all)) (omega (arith, two, count, all, long))
