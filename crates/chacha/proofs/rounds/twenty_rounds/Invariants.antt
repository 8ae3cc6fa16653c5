-- After i turns the state has had i double rounds.
use Rattle.std.proofs.Common.{◌≡◌}
use Rattle.chacha.specs.Rounds.{double_rounds}
use Rattle.chacha.proofs.rounds.twenty_rounds.Given as goal

abbrev pub invariant-loop-i : goal.invariant-loop-i
invariant-loop-i l = l.s ≡ double_rounds l._i l.initial.s
