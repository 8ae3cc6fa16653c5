-- What a wire that was made tells: whether it is garbled, its false label, and how the loop over the wires goes on.
use Rattle.std.proofs.Common.{◌≡◌, ℕ, ◌+◌, ◌*◌, ◌<◌, Bool, true, false, cond, ltb, List, [], ◌∷◌, ◌++◌, length, set, Some, None, sym, refl, ap, ◌∙◌, subst, arith, length-set}
use Rattle.std.specs.Option.{is_some}
use Rattle.std.proofs.lemmas.List.{append-nil}
use Rattle.std.proofs.lemmas.Bool.{cond-true, cond-false}
use Rattle.label.specs.Labels.{Label}
use Rattle.label.specs.Hashes.{HashFunction}
use Rattle.wires.specs.declared.Circuit.{Circuit}
use Rattle.wires.specs.Read.{wiring_of}
use Rattle.wires.specs.Wires.{Wiring, is_garbled, wires_where}
use Rattle.wires.proofs.Scans.{count_more, count_below}
use Rattle.gate.specs.declared.garble.GarbledGate.{GarbledGate}
use Rattle.gate.specs.declared.garble.SentGate.{SentGate}
use Rattle.garbling.specs.declared.garble.MadeWire.{MadeWire}
use Rattle.garbling.specs.Garbling.{gate_index, gate_with, gate_from, false_from}
use Rattle.garbling.specs.Words.{labels_kept, keeping}
use Rattle.garbling.specs.Steps.{made_gate, made_label, made_from}
use Rattle.garbling.proofs.Kept.{kept_more}
use Rattle.garbling.proofs.Made.{made_label_lem}

-- What was made of a circuit's wire, where the circuit is read from another place.
pub made_same : (T : List ℕ) (f : HashFunction) (below : List Label) (w k : ℕ) (m : MadeWire) (c c' : Circuit) → c ≡ c'
    → m ≡ made_from (wiring_of c) T f below w k → m ≡ made_from (wiring_of c') T f below w k
made_same T f below w k m c c' same made = made ∙ ap (λ (d : Circuit). made_from (wiring_of d) T f below w k) same

gate_told : (b : Bool) (g : GarbledGate) (l : Label) → is_some (cond b (made_gate g) (made_label l)).gate ≡ b
gate_told true g l = refl
gate_told false g l = refl

-- Keeping a label leaves the number of words.
pub length-kept : (ws : List ℕ) (w : ℕ) (l : Label) → length (keeping ws w l) ≡ length ws
length-kept ws w l = by_cases (ltb (2 * w + 1) (length ws))
  where
    by_cases : (b : Bool) → length (cond b (set (set ws (2 * w) l.0) (2 * w + 1) l.1) ws) ≡ length ws
    by_cases true = length-set (set ws (2 * w) l.0) (2 * w + 1) l.1 ∙ length-set ws (2 * w) l.0
    by_cases false = refl

module _ (c : Wiring) (T : List ℕ) (f : HashFunction) (ws : List ℕ) (w k : ℕ) (index : k ≡ gate_index c w) where
  abbrev below : List Label
  below = labels_kept ws w

  -- A gate is made of a wire that is garbled, and of no other.
  pub not_garbled : (m : MadeWire) → m ≡ made_from c T f below w k → m.gate ≡ None → is_garbled c w ≡ false
  not_garbled m made none = sym (ap is_some (sym none) ∙ ap (λ (n : MadeWire). is_some n.gate) made ∙ gate_told (is_garbled c w) _ _)

  pub is_garbled_lem : (m : MadeWire) (s : SentGate) → m ≡ made_from c T f below w k → m.gate ≡ Some s → is_garbled c w ≡ true
  is_garbled_lem m s made some = sym (ap is_some (sym some) ∙ ap (λ (n : MadeWire). is_some n.gate) made ∙ gate_told (is_garbled c w) _ _)

  -- What is sent of it.
  pub gate_is : (m : MadeWire) (s : SentGate) → m ≡ made_from c T f below w k → m.gate ≡ Some s → s ≡ (gate_from c T f below w).sent
  gate_is m s made some =
      let same : Some s ≡ Some (gate_with c T f below w k).sent =
      sym some ∙ ap (λ (n : MadeWire). n.gate) (made ∙ cond-true _ _ _ (is_garbled_lem m s made some)) in
      let one : s ≡ (gate_with c T f below w k).sent = cc in
      one ∙ ap (λ n. (gate_with c T f below w n).sent) index

  -- The label kept for it is the wire's false label.
  pub label_kept : (m : MadeWire) → m ≡ made_from c T f below w k → 2 * w + 1 < length ws
      → labels_kept (keeping ws w m.label) (w + 1) ≡ below ++ (false_from c T f below w ∷ [])
  label_kept m made room =
      kept_more ws w m.label room
      ∙ ap (λ l. below ++ (l ∷ [])) (ap (λ (n : MadeWire). n.label) (made ∙ ap (made_from c T f below w) index) ∙ made_label_lem c T f below w)

-- The wires that a test picks, counted: one more or not, and each has its place among all.
module _ (p : ℕ → Bool) (w k : ℕ) (index : k ≡ length (wires_where p w)) where
  pub count_stays : p w ≡ false → k ≡ length (wires_where p (w + 1))
  count_stays passed = let step = count_more p w ∙ ap (λ b. length (wires_where p w) + cond b 1 0) passed in omega (arith, step, index)

  pub count_rises : p w ≡ true → k + 1 ≡ length (wires_where p (w + 1))
  count_rises picked = let step = count_more p w ∙ ap (λ b. length (wires_where p w) + cond b 1 0) picked in omega (arith, step, index)

  pub has_place : (n : ℕ) → p w ≡ true → w < n → k < length (wires_where p n)
  has_place n picked within = let place = count_below p w n within picked in omega (arith, place, index)

-- The items of a row go on with one more, or with none.
pub with_more : {I : Type 0} (P : List I → Type 0) (b : Bool) (is : List I) (i j : I) → b ≡ true → i ≡ j → P (is ++ (i ∷ [])) → P (is ++ cond b (j ∷ []) [])
with_more P b is i j picked same holds =
    subst P (λ n. is ++ ((λ m. same m ∷ []) ∙ sym (cond-true b (j ∷ []) [] picked)) n) holds

pub with_none : {I : Type 0} (P : List I → Type 0) (b : Bool) (is : List I) (j : I) → b ≡ false → P is → P (is ++ cond b (j ∷ []) [])
with_none P b is j passed holds =
    subst P (sym (append-nil is) ∙ ap (λ zs. is ++ zs) (sym (cond-false b (j ∷ []) [] passed))) holds
