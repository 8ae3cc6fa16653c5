-- Two finite types that match one to one, with a view of each that the matching keeps: each view has equally many causes in the one and in the other.
use mathlib.Core.Equiv.{Iso, Fiber}
use mathlib.Core.HLevel.{Discrete, hedberg}
use Rattle.std.proofs.Common.{◌≡◌, sym, ap, ◌∙◌}
use Rattle.gate_laws.specs.Many.{EquallyMany}
use Rattle.gate_laws.proofs.Fibres.{same_fibres}
use Rattle.gate_laws.proofs.Finite.{Finite, equally_many}
use Rattle.gate_laws.proofs.Part.{finite_part}

pub equally_seen : {A B V : Type 0} → Finite A → Discrete V → (I : Iso A B) (u : A → V) (u' : B → V)
    → ((a : A) → u' (I.fun a) ≡ u a) → (v : V) → EquallyMany (Fiber u v) (Fiber u' v)
equally_seen finite dec I u u' kept v =
    equally_many
    (finite_part finite (λ a. u a ≡ v) (λ a. hedberg dec (u a) v) (λ a. dec (u a) v))
    (same_fibres (hedberg dec) u u' I.fun I.inv I.rinv I.linv kept (λ b. sym (kept (I.inv b)) ∙ ap u' (I.rinv b)) v)
