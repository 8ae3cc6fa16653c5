-- Each view of a gate has equally many causes, whichever truth of the class was garbled.
use Rattle.std.proofs.Common.{◌≡◌, ℕ, Bool, true, false, sym, refl, ap, ◌∙◌}
use mathlib.Core.HLevel.{hedberg}
use Rattle.label.specs.Sums.{halves}
use Rattle.label.specs.Labels.{Label}
use Rattle.gate.specs.declared.views.Parity.{Parity}
use Rattle.gate.specs.declared.views.Truth.{Truth}
use Rattle.gate.specs.Views.{fits, parity_of}
use Rattle.gate.specs.Sums.{LabelOver, Three}
use Rattle.gate_laws.specs.GateBlind.{Throw, GateView, gate_view, Word, FitsWords, numbers_of, Causes, GateBlind}
use Rattle.gate_laws.proofs.Words.{words, words_laws}
use Rattle.gate_laws.proofs.Carried.{carried, carried_twice, carried_view}
use Rattle.gate_laws.proofs.Fibres.{same_fibres}
use Rattle.gate_laws.proofs.Finite.{Finite, equally_many}
use Rattle.gate_laws.proofs.Part.{finite_part}
use Rattle.gate_laws.proofs.Shapes.{finite_throw, view_discrete}

view_set : IsSet (GateView ℕ)
view_set = hedberg view_discrete

-- The causes of a view are finitely many.
finite_causes : (c : Parity) (t : Truth) (i j : Bool) (Δ x y : Label) (v : GateView ℕ) → Finite (Causes c t i j Δ x y v)
finite_causes c t i j Δ x y v =
    finite_part finite_throw
    (λ (ρ : Throw Word). gate_view halves c t i j Δ x y (numbers_of ρ) ≡ v)
    (λ ρ. view_set (gate_view halves c t i j Δ x y (numbers_of ρ)) v)
    (λ ρ. view_discrete (gate_view halves c t i j Δ x y (numbers_of ρ)) v)

abbrev three_numbers : Three Word → Three ℕ
three_numbers k = record { a = k.a.0; b = k.b.0; s = k.s.0 }

-- The numbers of what is seen in words.
abbrev view_numbers : GateView Word → GateView ℕ
view_numbers v = record { control = v.control; ciphertexts = three_numbers v.ciphertexts; words = three_numbers v.words; pairs = v.pairs }

-- A label whose halves are words.
abbrev in_words : (l : Label) → FitsWords l → LabelOver words
in_words l h = ((l.0, h.0), (l.1, h.1))

-- The numbers of what is seen in words are what is seen in numbers.
seen_in_words : (c : Parity) (t : Truth) (i j : Bool) (Δ x y : Label) (hΔ : FitsWords Δ) (hx : FitsWords x) (hy : FitsWords y) (ρ : Throw Word)
    → view_numbers (gate_view words c t i j (in_words Δ hΔ) (in_words x hx) (in_words y hy) ρ) ≡ gate_view halves c t i j Δ x y (numbers_of ρ)
seen_in_words c t false false Δ x y hΔ hx hy ρ = refl
seen_in_words c t false true Δ x y hΔ hx hy ρ = refl
seen_in_words c t true false Δ x y hΔ hx hy ρ = refl
seen_in_words c t true true Δ x y hΔ hx hy ρ = refl

pub gate_blind : GateBlind
gate_blind c t t' h h' i j Δ x y hΔ hx hy v =
    let Δw : LabelOver words = in_words Δ hΔ in
    let xw : LabelOver words = in_words x hx in
    let yw : LabelOver words = in_words y hy in
    let view : Truth → Throw Word → GateView ℕ = λ t ρ. gate_view halves c t i j Δ x y (numbers_of ρ) in
    let seen : (t : Truth) (ρ : Throw Word) → view_numbers (gate_view words c t i j Δw xw yw ρ) ≡ view t ρ =
    λ t. seen_in_words c t i j Δ x y hΔ hx hy in
    let carry : Truth → Truth → Throw Word → Throw Word = carried words c i j Δw xw yw in
    let back : (t t' : Truth) (ρ : Throw Word) → carry t' t (carry t t' ρ) ≡ ρ = carried_twice words c i j Δw xw yw words_laws in
    let keeps : (t t' : Truth) → fits c (parity_of t) ≡ true → fits c (parity_of t') ≡ true → (ρ : Throw Word) → view t' (carry t t' ρ) ≡ view t ρ =
    λ t t' h h' ρ. sym (seen t' (carry t t' ρ)) ∙ ap view_numbers (carried_view words c i j Δw xw yw words_laws t t' h h' ρ) ∙ seen t ρ in
    equally_many
    (finite_causes c t i j Δ x y v)
    (same_fibres view_set (view t) (view t') (carry t t') (carry t' t) (back t' t) (back t t') (keeps t t' h h') (keeps t' t h' h) v)
