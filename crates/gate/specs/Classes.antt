-- From a wire's class to the parity by which its gate is garbled.
use Rattle.wires.specs.declared.Class.{Class}
use Rattle.wires.specs.declared.Class.TheVariants.{Free, Even as EvenClass, Odd as OddClass, Hidden as HiddenClass}
use Rattle.gate.specs.declared.views.Parity.{Parity}
use Rattle.gate.specs.declared.views.Parity.TheVariants.{Even, Odd, Hidden}

-- The parity of a class that is garbled; free gates are not, and have none of their own.
abbrev pub parity_of : Class → Parity
parity_of Free = Even
parity_of EvenClass = Even
parity_of OddClass = Odd
parity_of HiddenClass = Hidden
