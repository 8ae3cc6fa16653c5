-- A label whose marks are told apart is read as its bit.
use Rattle.std.proofs.Common.{◌≡◌, ℕ, Bool, true, false, ◌&&◌, eqb, Some, sym, refl, ◌∙◌, ap₂, inl, inr}
use Rattle.std.proofs.lemmas.Bool.{cases_Bool, eqb-true, eqb-false, eq-eqb, ne_eqb, cond-true, cond-false, and_from}
use Rattle.garbling.specs.Marks.{Mark, same_mark}
use Rattle.garbling.specs.Evaluation.{read_mark}

pub same_itself : (m : Mark) → same_mark m m ≡ true
same_itself m = and_from _ _ (eq-eqb m.0 m.0 refl) (eq-eqb m.1 m.1 refl)

eqb_swap : (a b : ℕ) → eqb a b ≡ eqb b a
eqb_swap a b = elim (cases_Bool (eqb a b)) [
  | inl same ↦ same ∙ sym (eq-eqb b a (sym (eqb-true a b same)))
  | inr apart ↦ apart ∙ sym (ne_eqb b a (λ e. eqb-false a b apart (sym e)))
]

-- Whether two marks are equal does not depend on which comes first.
pub same_swap : (m k : Mark) → same_mark m k ≡ same_mark k m
same_swap m k = ap₂ (λ (a b : Bool). a && b) (eqb_swap m.0 k.0) (eqb_swap m.1 k.1)

pub read_bit : (mark : Bool → Mark) → same_mark (mark false) (mark true) ≡ false → (b : Bool) → read_mark (mark false) (mark true) (mark b) ≡ Some b
read_bit mark apart false = cond-true _ _ _ (same_itself (mark false))
read_bit mark apart true =
    cond-false _ _ _ (same_swap (mark true) (mark false) ∙ apart) ∙ cond-true _ _ _ (same_itself (mark true))
