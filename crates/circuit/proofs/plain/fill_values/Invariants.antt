use Rattle.std.proofs.Common.{◌≡◌, take}
use Rattle.circuit.specs.Plain.{values_below}
use Rattle.wires.specs.Read.{wiring_of}
use Rattle.circuit.proofs.plain.fill_values.Given as goal

abbrev pub invariant-loop-wire : goal.invariant-loop-wire
invariant-loop-wire l = take l.wire l.values ≡ values_below (wiring_of l.circuit) l.inputs l.wire
