-- The questions of a run are those of its steps, on the circuit that the form states.
use Rattle.std.proofs.Common.{ℕ, List, [], ◌∷◌, length, subst, ap, ◌∙◌}
use Rattle.label.specs.Hashes.{Question, Asked}
use Rattle.server.specs.Runs.{asks_on, run_asks}
use Rattle.server.specs.declared.read.Form.{Form}
use Rattle.server.proofs.runs.run.Goals as goal

pub returns-clause-asked : goal.returns-clause-asked
returns-clause-asked g c =
    let f = g.H.Hash.function c.args.hash.now in
    let sheets : List (List ℕ) = c.args.sheet0.now ∷ c.args.sheet1.now ∷ [] in
    let work = length c.args.work.now in
    let outputs = length c.args.outputs.now in
    subst (λ (asks : List Question). Asked g.H.Hash.asks asks c.args.hash.now c.run_steps-answer.new.hash)
    (ap (λ w. asks_on w c.form.result.bytes.now f sheets work outputs) c.form.result.stated
    ∙ ap (λ (form : Form). run_asks form.bytes.now f sheets work outputs) c.form.ensures)
    c.run_steps-answer.ensures.asked
