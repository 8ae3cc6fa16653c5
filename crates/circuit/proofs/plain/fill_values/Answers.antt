use Rattle.std.proofs.Common.{refl, arith}
use Rattle.circuit.specs.Plain.{values_below}
use Rattle.wires.specs.Read.{wiring_of}
use Rattle.circuit.proofs.PlainRuns.{values_step}
use Rattle.circuit.proofs.plain.fill_values.Goals as goal

pub loop-wire-init : goal.loop-wire-init
unfolding values_below
loop-wire-init c = refl

pub loop-wire-preserved : goal.loop-wire-preserved
loop-wire-preserved c =
    simp c.from.ensures
    (values_step (wiring_of c.args.circuit.now) c.args.inputs.now c.loop-wire.values c.loop-wire.wire c.value_from-value.result
    (omega arith) c.loop-wire.invariant c.value_from-value.ensures)
