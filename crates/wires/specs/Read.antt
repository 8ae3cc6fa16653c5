-- The wiring that a value of the code stands for.
use Rattle.wires.specs.declared.Circuit.{Circuit}
use Rattle.wires.specs.Wires.{Wiring}

abbrev pub wiring_of : Circuit → Wiring
wiring_of c = record { wires = c.wires; inputs = c.inputs; arrays = c.arrays.now }
