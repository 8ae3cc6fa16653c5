-- A throw for one truth, carried over to another truth of the class: the server sees the same, and carrying back undoes it.
use Rattle.std.proofs.Common.{◌≡◌, Bool, true, [], ◌∷◌, sym, refl, ap, ◌∙◌}
use Rattle.label.specs.Sums.{Group, Laws, pairs}
use Rattle.label.specs.declared.xor.ControlPair.{ControlPair}
use Rattle.label.proofs.Groups.{pairs_laws}
use Rattle.label.proofs.Solve.{var, add, solve}
use Rattle.gate.specs.declared.views.Parity.{Parity}
use Rattle.gate.specs.declared.views.Truth.{Truth}
use Rattle.gate.specs.declared.views.Dice.{Dice}
use Rattle.gate.specs.declared.views.View.{View}
use Rattle.gate.specs.Views.{fits, parity_of, view_at}
use Rattle.gate.specs.Numbers.{Five, Six, back_left, back_right}
use Rattle.gate.specs.Sums.{LabelOver, Three, last_three, shifted, added_left, added_right, coded_left, coded_right, controls}
use Rattle.gate.specs.Gates.{trimmed_five, low_bit, high_bit}
use Rattle.gate_laws.specs.GateLaw.{met}
use Rattle.gate_laws.specs.GateBlind.{Throw, gate_view}
use Rattle.gate_laws.proofs.Law.{rest, first_once, second_once}
use Rattle.gate_laws.proofs.Space.{controls_back}
use Rattle.gate_laws.proofs.Turn.{turned, view_kept, turned_twice}
use Rattle.gate_laws.proofs.Shift.{moved, gap, numbers_kept, gap_back, moved_twice, met_kept}

-- What a truth and its dice add to the answers, on the left and on the right: a side of a gate, in one group.
abbrev Sides : Group → Type 0
Sides X = Truth → Dice → Bool → Bool → X.El

module _ (X : Group) (i j : Bool) (K M : Sides X) where
  -- The answers under t with dice d, moved to t' with dice d'.
  abbrev to : (t t' : Truth) (d d' : Dice) → Six X.El → Six X.El
  to t t' d d' = moved X i j (gap X (K t d) (M t d) (K t' d') (M t' d'))

  -- Moved there and back, where the dice come back too, they are what they were.
  to_and_back : Laws X → (t t' : Truth) (d d' d'' : Dice) → d'' ≡ d → (w : Six X.El) → to t' t d' d'' (to t t' d d' w) ≡ w
  to_and_back L t t' d d' d'' e w =
      ap (λ (z : Dice). to t' t d' z (to t t' d d' w)) e
      ∙ ap (λ (δ : Three X.El). moved X i j δ (to t t' d d' w)) (gap_back X L (K t d) (M t d) (K t' d') (M t' d'))
      ∙ moved_twice X L i j (gap X (K t d) (M t d) (K t' d') (M t' d')) w

-- The first two control numbers, from the answers met, the view at hand and the other three numbers.
abbrev first_known : Parity → Bool → Bool → Three ControlPair → View → Three ControlPair → ControlPair
first_known c i j m v n =
    pairs.◌⊕◌ (pairs.◌⊕◌ (pairs.◌⊕◌ m.a m.s) (coded_left pairs low_bit high_bit c v)) (back_left pairs (rest pairs n) i j)

abbrev second_known : Parity → Bool → Bool → Three ControlPair → View → Three ControlPair → ControlPair
second_known c i j m v n =
    pairs.◌⊕◌ (pairs.◌⊕◌ (pairs.◌⊕◌ m.b m.s) (coded_right pairs low_bit high_bit c v)) (back_right pairs (rest pairs n) i j)

-- A number that stands once in a known value is known.
known : (b n r k : ControlPair) → b ≡ pairs.◌⊕◌ n r → b ≡ k → n ≡ pairs.◌⊕◌ k r
known b n r k once value =
    solve pairs pairs_laws (n ∷ r ∷ []) (var 0) (add (add (var 0) (var 1)) (var 1)) refl
    ∙ ap (λ (z : ControlPair). pairs.◌⊕◌ z r) (sym once ∙ value)

-- What is added to the controls' answers.
abbrev code_left : Parity → Sides pairs
code_left c t d = λ i j. coded_left pairs low_bit high_bit c (view_at c t d i j)

abbrev code_right : Parity → Sides pairs
code_right c t d = λ i j. coded_right pairs low_bit high_bit c (view_at c t d i j)

module _ (c : Parity) (i j : Bool) where
  abbrev sent : Truth → Dice → Six ControlPair → Five ControlPair
  sent t d q = controls pairs low_bit high_bit c t d q

  -- The first two control numbers are known from what the server sees.
  firsts_known : (t : Truth) → fits c (parity_of t) ≡ true → (d : Dice) (q : Six ControlPair)
      → ((sent t d q).n1 ≡ first_known c i j (met q i j) (view_at c t d i j) (last_three (sent t d q)))
      × ((sent t d q).n2 ≡ second_known c i j (met q i j) (view_at c t d i j) (last_three (sent t d q)))
  firsts_known t h d q =
      let back = controls_back pairs pairs_laws c t d h low_bit high_bit q i j in
      let n : Five ControlPair = sent t d q in (
        known (back_left pairs n i j) n.n1 (back_left pairs (rest pairs (last_three n)) i j) _ (first_once pairs pairs_laws n i j) back.0,
        known (back_right pairs n i j) n.n2 (back_right pairs (rest pairs (last_three n)) i j) _ (second_once pairs pairs_laws n i j) back.1,
      )

  -- Carried over to t', the dice turned and the pairs moved, all five control numbers are what they were.
  controls_kept : (t t' : Truth) → fits c (parity_of t) ≡ true → fits c (parity_of t') ≡ true → (d : Dice) (q : Six ControlPair)
      → let d' : Dice = turned c t t' i j d in sent t' d' (to pairs i j (code_left c) (code_right c) t t' d d' q) ≡ sent t d q
  controls_kept t t' h h' d q =
      let d' : Dice = turned c t t' i j d in
      let q' : Six ControlPair = to pairs i j (code_left c) (code_right c) t t' d d' q in
      let rest-kept : last_three (sent t' d' q') ≡ last_three (sent t d q) =
      numbers_kept pairs pairs_laws i j q (code_left c t d) (code_right c t d) (code_left c t' d') (code_right c t' d') in
      let same_met : met q' i j ≡ met q i j = met_kept pairs i j (gap pairs (code_left c t d) (code_right c t d) (code_left c t' d') (code_right c t' d')) q in
      let same_view : view_at c t' d' i j ≡ view_at c t d i j = view_kept c t t' i j d in
      let one : (sent t' d' q').n1 ≡ (sent t d q).n1 =
      (firsts_known t' h' d' q').0 ∙ (λ k. first_known c i j (same_met k) (same_view k) (rest-kept k)) ∙ sym (firsts_known t h d q).0 in
      let two : (sent t' d' q').n2 ≡ (sent t d q).n2 =
      (firsts_known t' h' d' q').1 ∙ (λ k. second_known c i j (same_met k) (same_view k) (rest-kept k)) ∙ sym (firsts_known t h d q).1 in
      λ k. record { n1 = one k; n2 = two k; n3 = (rest-kept k).a; n4 = (rest-kept k).b; n5 = (rest-kept k).s }

module _ (X : Group) (c : Parity) (i j : Bool) (Δ x y : LabelOver X) where
  abbrev half_left : Sides X
  half_left t d = added_left X c t d Δ (shifted X Δ x i) (shifted X Δ y j)

  abbrev half_right : Sides X
  half_right t d = added_right X c t d Δ (shifted X Δ x i) (shifted X Δ y j)

  -- A throw for the truth t, as one for t'.
  abbrev pub carried : Truth → Truth → Throw X.El → Throw X.El
  carried t t' ρ =
      let d : Dice = ρ.dice in
      let d' : Dice = turned c t t' i j d in
      record {
        dice = d';
        words = to X i j half_left half_right t t' d d' ρ.words;
        pairs = to pairs i j (code_left c) (code_right c) t t' d d' ρ.pairs;
      }

  -- Carried there and back, it is the throw that it was.
  pub carried_twice : Laws X → (t t' : Truth) (ρ : Throw X.El) → carried t' t (carried t t' ρ) ≡ ρ
  carried_twice L t t' ρ =
      let d : Dice = ρ.dice in
      let d' : Dice = turned c t t' i j d in
      let d'' : Dice = turned c t' t i j d' in
      let e : d'' ≡ d = turned_twice c t t' i j d in
      λ k. record {
        dice = e k;
        words = to_and_back X i j half_left half_right L t t' d d' d'' e ρ.words k;
        pairs = to_and_back pairs i j (code_left c) (code_right c) pairs_laws t t' d d' d'' e ρ.pairs k;
      }

  -- The server sees the same.
  pub carried_view : Laws X → (t t' : Truth) → fits c (parity_of t) ≡ true → fits c (parity_of t') ≡ true → (ρ : Throw X.El)
      → gate_view X c t' i j Δ x y (carried t t' ρ) ≡ gate_view X c t i j Δ x y ρ
  carried_view L t t' h h' ρ =
      let d : Dice = ρ.dice in
      let d' : Dice = turned c t t' i j d in
      let δ : Three X.El = gap X (half_left t d) (half_right t d) (half_left t' d') (half_right t' d') in
      let ε : Three ControlPair =
      gap pairs (code_left c t d) (code_right c t d) (code_left c t' d') (code_right c t' d') in
      λ k. record {
        control = trimmed_five c (controls_kept c i j t t' h h' d ρ.pairs k);
        ciphertexts = numbers_kept X L i j ρ.words (half_left t d) (half_right t d) (half_left t' d') (half_right t' d') k;
        words = met_kept X i j δ ρ.words k;
        pairs = met_kept pairs i j ε ρ.pairs k;
      }
