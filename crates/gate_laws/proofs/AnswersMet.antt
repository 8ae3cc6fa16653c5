-- The server's three answers are those of the garbler's six that are met at the colours of its labels.
use Rattle.std.proofs.Common.{◌≡◌, ℕ, Bool, true, sym, ap, ◌∙◌}
use Rattle.label.specs.Sums.{◌⊻◌, halves}
use Rattle.label.specs.Labels.{Label, colour_of}
use Rattle.label.specs.Hashes.{HashFunction}
use Rattle.label.specs.declared.hash.Answer.{Answer}
use Rattle.label.proofs.Groups.{halves_laws}
use Rattle.gate.specs.Numbers.{Six}
use Rattle.gate.specs.Sums.{Three, shifted, sum_of}
use Rattle.gate.specs.Gates.{tweak_after, colourless}
use Rattle.gate_laws.specs.GateLaw.{met}
use Rattle.gate_laws.proofs.Colours.{colour_of_shifted, shifted_twice, shifted_back, sum_shifted, by_colour_lem}

-- A part of each of the server's three answers, for its labels x and y.
abbrev pub three_of : {E : Type 0} → HashFunction → (Answer → E) → (x y : Label) → ℕ → Three E
three_of f part x y t =
    record { a = part (f x t); b = part (f y (tweak_after t 1)); s = part (f (sum_of halves x y) (tweak_after t 2)) }

-- A part of each of the garbler's six answers, for its labels A and B of colour 0.
abbrev pub six_of : {E : Type 0} → HashFunction → (Answer → E) → (Δ A B : Label) → ℕ → Six E
six_of f part Δ A B t =
    let S : Label = sum_of halves A B in
    record {
      a0 = part (f A t);
      a1 = part (f (shifted halves Δ A true) t);
      b0 = part (f B (tweak_after t 1));
      b1 = part (f (shifted halves Δ B true) (tweak_after t 1));
      s0 = part (f S (tweak_after t 2));
      s1 = part (f (shifted halves Δ S true) (tweak_after t 2));
    }

by_colours_met : {E : Type 0} (f : HashFunction) (part : Answer → E) (Δ A B : Label) (t : ℕ) (i j : Bool)
    → three_of f part (shifted halves Δ A i) (shifted halves Δ B j) t ≡ met (six_of f part Δ A B t) i j
by_colours_met f part Δ A B t i j = λ k. record {
  a = by_colour_lem (λ l. part (f l t)) Δ A i k;
  b = by_colour_lem (λ l. part (f l (tweak_after t 1))) Δ B j k;
  s =
      (ap (λ (l : Label). part (f l (tweak_after t 2))) (sum_shifted halves halves_laws Δ A B i j)
      ∙ by_colour_lem (λ l. part (f l (tweak_after t 2))) Δ (sum_of halves A B) (i ⊻ j)) k;
}

module _ (Δ : Label) (one : colour_of Δ ≡ true) where
  -- The label of an input bit is the garbler's label of its colour.
  pub label_met : (A : Label) (u : Bool) → shifted halves Δ A u ≡ shifted halves Δ (colourless Δ A) (colour_of (shifted halves Δ A u))
  label_met A u =
      sym (shifted_twice halves halves_laws Δ A (colour_of A) u)
      ∙ ap (shifted halves Δ (colourless Δ A)) (sym (colour_of_shifted Δ A one u))

  -- And the garbler's label of colour 0 is that label, shifted by its colour.
  pub colourless_met : (A : Label) (u : Bool)
      → colourless Δ A ≡ shifted halves Δ (shifted halves Δ A u) (colour_of (shifted halves Δ A u))
  colourless_met A u =
      let i : Bool = colour_of (shifted halves Δ A u) in
      sym (shifted_back halves halves_laws Δ (colourless Δ A) i) ∙ ap (λ (x : Label). shifted halves Δ x i) (sym (label_met A u))

  pub answers_met : {E : Type 0} (f : HashFunction) (part : Answer → E) (A B : Label) (t : ℕ) (u v : Bool)
      → let x : Label = shifted halves Δ A u in
      let y : Label = shifted halves Δ B v in
      three_of f part x y t ≡ met (six_of f part Δ (colourless Δ A) (colourless Δ B) t) (colour_of x) (colour_of y)
  answers_met f part A B t u v =
      (λ k. three_of f part (label_met A u k) (label_met B v k) t)
      ∙ by_colours_met f part Δ (colourless Δ A) (colourless Δ B) t (colour_of (shifted halves Δ A u)) (colour_of (shifted halves Δ B v))
