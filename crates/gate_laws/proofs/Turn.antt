-- The dice, turned so that under another truth the view at the colours at hand stays.
use Rattle.std.proofs.Common.{◌≡◌, Bool, true, false, not, ◌&&◌, refl, ◌∙◌, ap₂}
use mathlib.Core.Bool.{false≢true}
use Rattle.label.specs.Sums.{◌⊻◌}
use Rattle.label.proofs.Every.{every, every_at}
use Rattle.gate.specs.declared.views.Parity.{Parity}
use Rattle.gate.specs.declared.views.Parity.TheVariants.{Even, Odd, Hidden}
use Rattle.gate.specs.declared.views.Truth.{Truth}
use Rattle.gate.specs.declared.views.Dice.{Dice}
use Rattle.gate.specs.Views.{parity_of, if_hidden, a_of, b_of, alpha_shift, beta_shift, corner_of, view_at}

-- An equation of four bits holds where it holds at each of them.
same_bit : (a b : Bool) → not (a ⊻ b) ≡ true → a ≡ b
same_bit true true h = refl
same_bit true false h = absurd (false≢true h)
same_bit false true h = absurd (false≢true h)
same_bit false false h = refl

abbrev same_at : (Bool → Bool → Bool → Bool → Bool) → (Bool → Bool → Bool → Bool → Bool) → Bool
same_at f g = every (λ a. every (λ b. every (λ c. every (λ d. not (f a b c d ⊻ g a b c d)))))

same_bits : (f g : Bool → Bool → Bool → Bool → Bool) → same_at f g ≡ true → (a b c d : Bool) → f a b c d ≡ g a b c d
same_bits f g h a b c d = same_bit (f a b c d) (g a b c d) (every_at _ (every_at _ (every_at _ (every_at _ h a) b) c) d)

-- In a hidden gate γ0 turns by the parities' sum where the colour is 0, and so does ε0.
abbrev turn : Parity → Truth → Truth → Bool → Bool
turn c t t' i = if_hidden c ((parity_of t ⊻ parity_of t') && not i)

abbrev cornered : Parity → Truth → Truth → Bool → Bool → Dice → Dice
cornered c t t' i j d = record { rho1 = d.rho1; rho2 = d.rho2; gamma0 = d.gamma0 ⊻ turn c t t' i; epsilon0 = d.epsilon0 ⊻ turn c t t' j }

-- The dice under t' that show at colours i and j what the dice d show under t.
abbrev pub turned : Parity → Truth → Truth → Bool → Bool → Dice → Dice
turned c t t' i j d =
    let e : Dice = cornered c t t' i j d in
    record {
      rho1 = d.rho1 ⊻ (alpha_shift i j (a_of c t d) (b_of c t d) ⊻ alpha_shift i j (a_of c t' e) (b_of c t' e));
      rho2 = d.rho2 ⊻ (beta_shift i j (a_of c t d) (b_of c t d) ⊻ beta_shift i j (a_of c t' e) (b_of c t' e));
      gamma0 = e.gamma0;
      epsilon0 = e.epsilon0;
    }

cancel : (r s u : Bool) → (r ⊻ (s ⊻ u)) ⊻ u ≡ r ⊻ s
unfolding every
cancel r s u = same_bits (λ r s u _. (r ⊻ (s ⊻ u)) ⊻ u) (λ r s u _. r ⊻ s) refl r s u true

undo : (r s u : Bool) → (r ⊻ (s ⊻ u)) ⊻ (u ⊻ s) ≡ r
unfolding every
undo r s u = same_bits (λ r s u _. (r ⊻ (s ⊻ u)) ⊻ (u ⊻ s)) (λ r s u _. r) refl r s u true

corner_kept : (c : Parity) (p p' g i : Bool) → corner_of c p' (g ⊻ if_hidden c ((p ⊻ p') && not i)) i ≡ corner_of c p g i
unfolding every
corner_kept Even p p' g i = refl
corner_kept Odd p p' g i = refl
corner_kept Hidden p p' g i = same_bits (λ p p' g i. (g ⊻ ((p ⊻ p') && not i)) ⊻ (p' && not i)) (λ p p' g i. g ⊻ (p && not i)) refl p p' g i

-- The view at these colours stays.
pub view_kept : (c : Parity) (t t' : Truth) (i j : Bool) (d : Dice) → view_at c t' (turned c t t' i j d) i j ≡ view_at c t d i j
view_kept c t t' i j d =
    let e : Dice = cornered c t t' i j d in
    λ k. record {
      alpha = cancel d.rho1 (alpha_shift i j (a_of c t d) (b_of c t d)) (alpha_shift i j (a_of c t' e) (b_of c t' e)) k;
      beta = cancel d.rho2 (beta_shift i j (a_of c t d) (b_of c t d)) (beta_shift i j (a_of c t' e) (b_of c t' e)) k;
      gamma = corner_kept c (parity_of t) (parity_of t') d.gamma0 i k;
      epsilon = corner_kept c (parity_of t) (parity_of t') d.epsilon0 j k;
    }

turn_twice : (c : Parity) (p p' g i : Bool) → (g ⊻ if_hidden c ((p ⊻ p') && not i)) ⊻ if_hidden c ((p' ⊻ p) && not i) ≡ g
unfolding every
turn_twice Even p p' g i = same_bits (λ _ _ g _. (g ⊻ false) ⊻ false) (λ _ _ g _. g) refl p p' g i
turn_twice Odd p p' g i = same_bits (λ _ _ g _. (g ⊻ false) ⊻ false) (λ _ _ g _. g) refl p p' g i
turn_twice Hidden p p' g i = same_bits (λ p p' g i. (g ⊻ ((p ⊻ p') && not i)) ⊻ ((p' ⊻ p) && not i)) (λ p p' g i. g) refl p p' g i

-- What a shift of the colours' table, alpha_shift or beta_shift, adds to ρ1 or ρ2 is taken off by turning back.
rho_back : (shift : Bool → Bool → Bool) (r u : Bool) {g g' e e' : Bool} → g' ≡ g → e' ≡ e → (r ⊻ (shift g e ⊻ u)) ⊻ (u ⊻ shift g' e') ≡ r
rho_back shift r u {g} {g'} {e} {e'} eg ee =
    ap₂ (λ (a b : Bool). (r ⊻ (shift g e ⊻ u)) ⊻ (u ⊻ shift a b)) eg ee ∙ undo r (shift g e) u

-- Turned there and back, the dice are what they were.
pub turned_twice : (c : Parity) (t t' : Truth) (i j : Bool) (d : Dice) → turned c t' t i j (turned c t t' i j d) ≡ d
turned_twice c t t' i j d =
    let e : Dice = cornered c t t' i j d in
    let eg : (d.gamma0 ⊻ turn c t t' i) ⊻ turn c t' t i ≡ d.gamma0 = turn_twice c (parity_of t) (parity_of t') d.gamma0 i in
    let ee : (d.epsilon0 ⊻ turn c t t' j) ⊻ turn c t' t j ≡ d.epsilon0 = turn_twice c (parity_of t) (parity_of t') d.epsilon0 j in
    let shift : (Bool → Bool → Bool → Bool → Bool) → Bool → Bool → Bool =
    λ s g e. s i j ((t.t10 ⊻ t.t11) ⊻ if_hidden c g) ((t.t01 ⊻ t.t11) ⊻ if_hidden c e) in
    λ k. record {
      rho1 = rho_back (shift alpha_shift) d.rho1 (alpha_shift i j (a_of c t' e) (b_of c t' e)) eg ee k;
      rho2 = rho_back (shift beta_shift) d.rho2 (beta_shift i j (a_of c t' e) (b_of c t' e)) eg ee k;
      gamma0 = eg k;
      epsilon0 = ee k;
    }
