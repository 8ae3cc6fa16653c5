use Rattle.std.proofs.Common.{ap, ◌∙◌, rules}
use Rattle.circuit.specs.Plain.{at_outputs}
use Rattle.wires.specs.Read.{wiring_of}
use Rattle.circuit.proofs.PlainRuns.{plain_run_of, rooms_fit}
use Rattle.circuit.proofs.plain.run_plain.Goals as goal

pub returns : goal.returns
returns c =
    let circuit = wiring_of c.args.circuit.now in
    let values = c.fill_values.ensures in
    let outputs = c.pick_outputs.ensures in
    record {
      fault = rooms_fit circuit _ _ (search rules) (search rules);
      values = values;
      outputs = outputs ∙ ap (at_outputs circuit) values;
      run = λ _. plain_run_of circuit c.args.inputs.now c.fill_values.new.values c.pick_outputs.new.outputs values outputs;
    }
