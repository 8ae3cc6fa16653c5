-- Steps of the loop that looks for the lowest faulty wire.
use Rattle.std.proofs.Common.{◌≡◌, ℕ, zero, suc, ◌+◌, ◌-◌, ◌<◌, Bool, Some, None, Option, ap, ◌∙◌, subst, add-zero, add-suc, add-one, arith}
use Rattle.wires.specs.declared.Class.{Class}
use Rattle.wires.specs.Wires.{Wiring}
use Rattle.circuit.specs.Check.{Fault, or_else, wire_fault, lowest_fault}

-- One wire more is looked at.
pub lowest_more : (rule : Class → ℕ → Bool) (c : Wiring) (w : ℕ)
    → lowest_fault rule c (w + 1) ≡ or_else (lowest_fault rule c w) (wire_fault rule c w)
unfolding lowest_fault
lowest_more rule c w = rw add-one

-- Where no lower wire is faulty, this wire's fault is the lowest.
pub lowest_here : (rule : Class → ℕ → Bool) (c : Wiring) (w : ℕ) (r : Option Fault)
    → lowest_fault rule c w ≡ None → wire_fault rule c w ≡ r → lowest_fault rule c (w + 1) ≡ r
lowest_here rule c w r none here = lowest_more rule c w ∙ ap (λ f. or_else f (wire_fault rule c w)) none ∙ here

-- A fault that is found is the lowest, however many wires follow.
pub lowest_stays : (rule : Class → ℕ → Bool) (c : Wiring) (w k : ℕ) (f : Fault)
    → lowest_fault rule c w ≡ Some f → lowest_fault rule c (w + k) ≡ Some f
unfolding lowest_fault
lowest_stays rule c w zero f found = rw add-zero found
lowest_stays rule c w (suc k) f found =
    rw add-suc (ap (λ g. or_else g (wire_fault rule c (w + k))) (lowest_stays rule c w k f found))

-- So the fault of the first faulty wire is that of them all.
pub lowest_found : (rule : Class → ℕ → Bool) (c : Wiring) (w n : ℕ) (f : Fault)
    → w < n → lowest_fault rule c w ≡ None → wire_fault rule c w ≡ Some f → lowest_fault rule c n ≡ Some f
lowest_found rule c w n f below none here =
    let whole : (w + 1) + (n - (w + 1)) ≡ n = omega arith in
    subst (λ k. lowest_fault rule c k ≡ Some f) whole
    (lowest_stays rule c (w + 1) (n - (w + 1)) f (lowest_here rule c w (Some f) none here))
