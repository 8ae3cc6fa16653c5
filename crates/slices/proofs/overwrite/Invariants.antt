use Rattle.std.proofs.Common.{◌≡◌, take, replicate}
use Rattle.slices.proofs.overwrite.Given as goal

abbrev pub invariant-loop-at : goal.invariant-loop-at
invariant-loop-at g l = take l.at l.items ≡ replicate l.at l.value
