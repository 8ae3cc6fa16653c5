use Rattle.form.proofs.Backs.{form_back}
use Rattle.form.proofs.form_length.Goals as goal

pub returns-clause-back : goal.returns-clause-back
returns-clause-back c = form_back
