use Rattle.std.proofs.Common.{sym, ◌∙◌, arith}
use Rattle.garbling.proofs.Kept.{kept_inside, kept_outside}
use Rattle.garbling.proofs.words.label_below.Goals as goal

-- src/words.rt:18:1
pub returns-then-wire-end : goal.returns-then-wire-end
returns-then-wire-end c = c.kept.ensures ∙ sym (kept_inside c.args.words.now c.args.end c.args.wire (omega (arith, c)))

-- src/words.rt:18:1
pub returns-else-wire-end : goal.returns-else-wire-end
returns-else-wire-end c = sym (kept_outside c.args.words.now c.args.end c.args.wire (omega (arith, c)))
