use Rattle.server.proofs.Passing.{form_passes}
use Rattle.server.proofs.checked.CheckedForm.check.Goals as goal

pub returns-in_err-check-clause-passes : goal.returns-in_err-check-clause-passes
returns-in_err-check-clause-passes c = form_passes

pub returns-clause-passes : goal.returns-clause-passes
returns-clause-passes c = form_passes
