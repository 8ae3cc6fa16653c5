use Rattle.std.proofs.Common.{None, refl, arith}
use Rattle.std.proofs.lemmas.Result.{err_from_is_err_and}
use Rattle.circuit.specs.Check.{lowest_fault}
use Rattle.wires.specs.Read.{wiring_of}
use Rattle.circuit.specs.Read.{rule_of}
use Rattle.circuit.proofs.Scans.{lowest_here, lowest_found}
use Rattle.circuit.proofs.check.check_wires.Goals as goal

pub loop-wire-init : goal.loop-wire-init
unfolding lowest_fault
loop-wire-init c = refl

pub returns-in_err-check_wire : goal.returns-in_err-check_wire
returns-in_err-check_wire c =
    let p = err_from_is_err_and c.from_residual.result c.from_residual.ensures.1 in
    rw (p.1, p.2)
    (lowest_found (rule_of c.args.rule) (wiring_of c.args.circuit.now) c.loop-wire.wire _ _ (omega arith) c.loop-wire.invariant c.in_err-check_wire.ensures)

pub loop-wire-preserved : goal.loop-wire-preserved
loop-wire-preserved c =
    lowest_here (rule_of c.args.rule) (wiring_of c.args.circuit.now) c.loop-wire.wire None c.loop-wire.invariant c.in_ok-check_wire.ensures
