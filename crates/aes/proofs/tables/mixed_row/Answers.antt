-- The word of row 0, turned by R places.
use Rattle.std.proofs.Common.{◌∙◌, arith}
use Rattle.aes.proofs.Words.{turned_row}
use Rattle.aes.proofs.tables.mixed_row.Goals as goal

pub returns : goal.returns
returns g c = c.rotate_right.ensures ∙ turned_row _ c.args.x c.mixed_row0.result (omega arith) c.mixed_row0.ensures
