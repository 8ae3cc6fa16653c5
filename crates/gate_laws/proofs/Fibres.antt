-- Two inverse maps that keep what is seen match the causes of each view one to one.
use Rattle.std.proofs.Common.{◌≡◌, ◌∙◌}
use mathlib.Core.Equiv.{◌≃◌, Fiber, iso_to_equiv}
use mathlib.Core.HLevel.{Σ_prop_path}

pub same_fibres : {A B V : Type 0} → IsSet V → (u : A → V) (u' : B → V) (f : A → B) (g : B → A)
    → ((b : B) → f (g b) ≡ b) → ((a : A) → g (f a) ≡ a) → ((a : A) → u' (f a) ≡ u a) → ((b : B) → u (g b) ≡ u' b)
    → (v : V) → Fiber u v ≃ Fiber u' v
same_fibres {A = A} {B = B} set u u' f g fg gf e e' v =
    iso_to_equiv
    record {
      fun = λ (p : Fiber u v). (f p.0, e p.0 ∙ p.1);
      inv = λ (q : Fiber u' v). (g q.0, e' q.0 ∙ q.1);
      rinv = λ (q : Fiber u' v). Σ_prop_path (λ (b : B). set (u' b) v) (fg q.0);
      linv = λ (p : Fiber u v). Σ_prop_path (λ (a : A). set (u a) v) (gf p.0);
    }
