-- After k turns the first k entries are multiples.
use Rattle.std.proofs.Common.{◌≡◌, ℕ, ◌<◌, length, get_or}
use Rattle.aes.specs.Multiples.{multiple}
use Rattle.aes.proofs.multiples.multiples_of.Given as goal

abbrev pub invariant-loop-k : goal.invariant-loop-k
invariant-loop-k l = ((i : ℕ) → i < l.k → get_or l.entry-items i 0 ≡ multiple l.a i) × (length l.entry-items ≡ 128)
