use Rattle.std.proofs.Common.{false, get_or}
use Rattle.wires.specs.Wires.{output_wires}
use Rattle.wires.specs.Read.{wiring_of}
use Rattle.wires.proofs.Scans.{Ahead, Written}
use Rattle.circuit.proofs.plain.pick_outputs.Given as goal

abbrev pub invariant-loop-next : goal.invariant-loop-next
invariant-loop-next l = record {
  can : (goal.iterator-loop-next).can_next l.next-iterator;
  finite : (goal.iterator-loop-next).is_finite l.next-iterator;
  ahead : Ahead (goal.iterator-loop-next).next_gives l.next-iterator (output_wires (wiring_of l.circuit)) l.yielded;
  written : Written (λ w. get_or l.values w false) l.outputs l.yielded;
}
