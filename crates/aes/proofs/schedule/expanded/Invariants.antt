-- After i turns the first i words stand: of the key, and then of the schedule.
use Rattle.std.proofs.Common.{◌≡◌, ℕ, ◌-◌, ◌<◌, length, get_or, take}
use Rattle.aes.specs.Fips197.{key_word, schedule}
use Rattle.aes.proofs.schedule.expanded.Given as goal

abbrev pub invariant-loop-i : goal.invariant-loop-i
invariant-loop-i l = ((k : ℕ) → k < l.i → get_or l.w k 0 ≡ key_word l.key k) × (length l.w ≡ 44)

abbrev pub invariant-loop-i-2 : goal.invariant-loop-i-2
invariant-loop-i-2 l = (take l.i l.w ≡ schedule (l.i - 4) l.key) × (length l.w ≡ 44)
