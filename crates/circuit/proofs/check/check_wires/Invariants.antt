use Rattle.std.proofs.Common.{◌≡◌, None}
use Rattle.circuit.specs.Check.{lowest_fault}
use Rattle.wires.specs.Read.{wiring_of}
use Rattle.circuit.specs.Read.{rule_of}
use Rattle.circuit.proofs.check.check_wires.Given as goal

abbrev pub invariant-loop-wire : goal.invariant-loop-wire
invariant-loop-wire l = lowest_fault (rule_of l.rule) (wiring_of l.circuit) l.wire ≡ None
