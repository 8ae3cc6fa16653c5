-- A gate that was garbled is evaluated to the label of its value: the laws of sums, at the answers of a hash.
use Rattle.std.proofs.Common.{◌≡◌, ℕ, Bool, true, ap, ◌∙◌, ap₂}
use Rattle.label.specs.Sums.{halves, pairs}
use Rattle.label.specs.Labels.{Label, colour_of}
use Rattle.label.specs.declared.xor.ControlPair.{ControlPair}
use Rattle.label.proofs.Groups.{halves_laws}
use Rattle.gate.specs.declared.views.Truth.{Truth}
use Rattle.gate.specs.declared.views.View.{View}
use Rattle.gate.specs.Views.{fits, parity_of, by_colours, dice_of, truth_at, view_at}
use Rattle.gate.specs.Numbers.{Five, Six}
use Rattle.gate.specs.Sums.{last_three, shifted, garbled, controls, evaluated}
use Rattle.gate.specs.Gates.{trimmed_five, low_bit, high_bit, colourless, view_from}
use Rattle.gate_laws.specs.GateLaw.{met}
use Rattle.gate_laws.specs.Computes.{GateComputes}
use Rattle.gate_laws.specs.GateSeen.{GateSeen}
use Rattle.gate_laws.proofs.Law.{gate_law}
use Rattle.gate_laws.proofs.Control.{view_read}
use Rattle.gate_laws.proofs.Colours.{colour_of_shifted}
use Rattle.gate_laws.proofs.AnswersMet.{six_of, label_met, colourless_met, answers_met}
use Rattle.gate_laws.proofs.Parities.{parity_by_colours, truth_by_colours}

pub gate_computes : GateComputes
gate_computes f c g d h Δ A B one t u v =
    let T : Truth = by_colours g (colour_of A) (colour_of B) in
    let fit : fits c (parity_of T) ≡ true = ap (fits c) (parity_by_colours g (colour_of A) (colour_of B)) ∙ h in
    let A0 : Label = colourless Δ A in
    let B0 : Label = colourless Δ B in
    let w : Six ℕ = six_of f (λ r. r.word) Δ A0 B0 t in
    let q : Six ControlPair = six_of f (λ r. r.pair) Δ A0 B0 t in
    let n : Five ℕ = garbled halves c T (dice_of d) Δ A0 B0 w in
    let k : Five ControlPair = trimmed_five c (controls pairs low_bit high_bit c T (dice_of d) q) in
    let x : Label = shifted halves Δ A u in
    let y : Label = shifted halves Δ B v in
    let i : Bool = colour_of x in
    let j : Bool = colour_of y in
    let words-met = answers_met Δ one f (λ r. r.word) A B t u v in
    let pairs-met = answers_met Δ one f (λ r. r.pair) A B t u v in
    (λ p. evaluated halves (last_three n) (view_from c k (pairs-met p) i j) x y (words-met p) i j)
    ∙ ap (λ (e : View). evaluated halves (last_three n) e x y (met w i j) i j) (view_read c T (dice_of d) fit q i j)
    ∙ (λ p. evaluated halves (last_three n) (view_at c T (dice_of d) i j) (label_met Δ one A u p) (label_met Δ one B v p) (met w i j) i j)
    ∙ gate_law halves halves_laws c T (dice_of d) fit Δ A0 B0 w i j
    ∙ ap (shifted halves Δ (n.n1, n.n2))
    (ap₂ (λ (a b : Bool). truth_at T a b) (colour_of_shifted Δ A one u) (colour_of_shifted Δ B one v)
    ∙ truth_by_colours g (colour_of A) (colour_of B) u v)

pub gate_seen : GateSeen
gate_seen f c g d Δ A B one t u v =
    let T : Truth = by_colours g (colour_of A) (colour_of B) in
    let w : Six ℕ = six_of f (λ r. r.word) Δ (colourless Δ A) (colourless Δ B) t in
    let q : Six ControlPair = six_of f (λ r. r.pair) Δ (colourless Δ A) (colourless Δ B) t in
    λ p. record {
      control = trimmed_five c (controls pairs low_bit high_bit c T (dice_of d) q);
      ciphertexts = last_three (garbled halves c T (dice_of d) Δ (colourless_met Δ one A u p) (colourless_met Δ one B v p) w);
      words = answers_met Δ one f (λ r. r.word) A B t u v p;
      pairs = answers_met Δ one f (λ r. r.pair) A B t u v p;
    }
