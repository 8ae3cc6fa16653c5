use Rattle.std.proofs.Common.{◌≡◌, length, ap, ◌∙◌, arith}
use Rattle.std.proofs.lemmas.List.FromFn.{fill_by_all}
use Rattle.circuit.specs.Public.{public_byte, public_first}
use Rattle.wires.specs.Read.{wiring_of}
use Rattle.circuit.proofs.publish.public_arrays.Goals as goal

made : (c : goal.After-loop-at) → c.loop-at.arrays ≡ public_first (wiring_of c.args.circuit.now) (length c.args.arrays.now)
made c =
    fill_by_all (public_byte (wiring_of c.args.circuit.now)) c.loop-at.arrays (length c.args.arrays.now) 0 (omega arith)
    (λ k below. c.loop-at.invariant k (omega arith))

pub returns : goal.returns
returns c = record {
  first = made c;
  whole = λ all. made c ∙ ap (public_first (wiring_of c.args.circuit.now)) all;
}
