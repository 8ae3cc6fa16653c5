use Rattle.std.proofs.Common.{◌≡◌, cond, [], ◌∷◌, ◌++◌, length, is_ok, sym, ◌∙◌, subst}
use Rattle.refusal.specs.Told.{Finds}
use Rattle.label.specs.Hashes.{Asked}
use Rattle.label.proofs.Chains.{asked_append}
use Rattle.wires.specs.Read.{wiring_of}
use Rattle.garbling.specs.Words.{labels_kept}
use Rattle.garbling.specs.Evaluation.{evaluate_asks, output_asks}
use Rattle.form.specs.Read.{gates_in}
use Rattle.server.specs.Sheets.{inputs_on, lengths_fault, sheets_fault, missing_fault}
use Rattle.server.specs.Outputs.{neither_fault, output_bytes}
use Rattle.server.specs.Runs.{labels_met}
use Rattle.server.proofs.Stops.{go_on}
use Rattle.server.proofs.runs.run_steps.Goals as goal

pub returns : goal.returns
returns g c =
    let asks = g.H.Hash.asks in
    let circuit = wiring_of c.args.form.now.circuit in
    let F = c.args.form.now.bytes.now in
    let f = g.H.Hash.function c.args.hash.now in
    let sheets = c.args.sheet0.now ∷ c.args.sheet1.now ∷ [] in
    let xs = inputs_on circuit sheets in
    let ls = labels_met circuit F f sheets in
    let held = c.in_ok-take_labels.ensures.labels in
    let kept = c.evaluate_wires.ensures.kept in
    let met : labels_kept c.evaluate_wires.new.words c.args.form.now.circuit.wires ≡ ls = c.evaluate_wires.ensures.labels xs held in
    let on = go_on (lengths_fault circuit sheets (length c.args.work.now) (length c.args.outputs.now)) (sheets_fault circuit sheets) (missing_fault circuit sheets)
    (neither_fault circuit F f ls) (evaluate_asks circuit f (gates_in F) xs ++ output_asks circuit ls)
    c.in_ok-check_lengths.ensures c.in_ok-check.ensures c.in_ok-take_labels.ensures.fault in
    record {
      fault =
          subst (Finds c.read_outputs.result) (sym on.0)
          (subst (λ zs. Finds c.read_outputs.result (neither_fault circuit F f zs)) met
          (subst (λ fn. Finds c.read_outputs.result (neither_fault circuit F fn (labels_kept c.evaluate_wires.new.words c.args.form.now.circuit.wires))) kept c.read_outputs.ensures.fault));
      outputs = c.read_outputs.ensures.outputs ∙ (λ i. cond (is_ok c.read_outputs.result) (output_bytes circuit F (kept i) (met i)) c.args.outputs.now);
      kept = c.read_outputs.ensures.kept ∙ kept;
      asked =
          subst (λ qs. Asked asks qs c.args.hash.now c.read_outputs.new.hash) (sym on.1)
          (asked_append asks (evaluate_asks circuit f (gates_in F) xs) (output_asks circuit ls) c.args.hash.now c.evaluate_wires.new.hash c.read_outputs.new.hash
          (c.evaluate_wires.ensures.asked xs held)
          (subst (λ zs. Asked asks (output_asks circuit zs) c.evaluate_wires.new.hash c.read_outputs.new.hash) met c.read_outputs.ensures.asked));
    }
