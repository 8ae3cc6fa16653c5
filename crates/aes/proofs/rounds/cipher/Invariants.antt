-- Before a round the state is that after the rounds before it.
use Rattle.std.proofs.Common.{◌≡◌, ◌-◌}
use Rattle.aes.specs.Fips197.{rounds}
use Rattle.aes.specs.Columns.{state_of}
use Rattle.aes.proofs.rounds.cipher.Given as goal

abbrev pub invariant-loop-round : goal.invariant-loop-round
invariant-loop-round l = state_of l.s ≡ rounds (l.round - 1) l.block l.w
