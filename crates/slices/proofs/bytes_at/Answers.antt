use Rattle.std.proofs.Common.{◌+◌, slice_index, rules}
use Rattle.slices.proofs.Calls.{made_by}
use Rattle.slices.proofs.bytes_at.Goals as goal

pub returns : goal.returns
returns g c =
    made_by _ _ (λ i. slice_index c.args.bytes.now (c.args.at + i)) g.row.N 0 (λ i y q below called. search rules) (λ i y q below called. search rules)
    c.from_fn.result c.from_fn.ensures.items
