use Rattle.std.proofs.Common.{not, ◌∙◌, rules, tests}
use Rattle.std.proofs.lemmas.Iterator.{YieldsList-from_slice}
use Rattle.std.proofs.lemmas.Iterator.Search.{all_from_yields_List}
use Rattle.label.specs.declared.xor.ControlPair.{ControlPair}
use Rattle.form.specs.Controls.{controls_in}
use Rattle.server.proofs.check.highs_clear.Goals as goal

pub returns : goal.returns
returns c =
    all_from_yields_List (λ (pair : ControlPair). not pair.high) _ _ _ c.all.ensures.ran
    (YieldsList-from_slice (controls_in c.args.word) (cc)) (λ x b q k. search (rules, tests))
    ∙ search rules
