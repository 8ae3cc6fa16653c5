use Rattle.wires.specs.Wires.{output_wires}
use Rattle.wires.specs.Read.{wiring_of}
use Rattle.wires.proofs.Scans.{Ahead, Written}
use Rattle.garbling.specs.Evaluation.{output_index}
use Rattle.server.specs.Outputs.{bit_byte, kept_bit}
use Rattle.server.proofs.outputs.write_outputs.Given as goal

abbrev pub invariant-loop-next : goal.invariant-loop-next
invariant-loop-next l = record {
  can : (goal.iterator-loop-next).can_next l.next-iterator;
  finite : (goal.iterator-loop-next).is_finite l.next-iterator;
  ahead : Ahead (goal.iterator-loop-next).next_gives l.next-iterator (output_wires (wiring_of l.form.circuit)) l.yielded;
  written :
      Written (λ w. bit_byte (kept_bit (wiring_of l.form.circuit) l.form.bytes.now l.words w (output_index (wiring_of l.form.circuit) w)))
      l.outputs l.yielded;
}
