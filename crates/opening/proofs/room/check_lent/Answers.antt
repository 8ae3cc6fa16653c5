use Rattle.std.proofs.lemmas.Result.{err_from_is_err_and}
use Rattle.opening.proofs.EarlyFaults.{table_early}
use Rattle.opening.proofs.room.check_lent.Goals as goal

pub returns-in_err-table-clause-early : goal.returns-in_err-table-clause-early
returns-in_err-table-clause-early c =
    let p = err_from_is_err_and c.from_residual.result c.from_residual.ensures.1 in
    rw (p.1, p.2) (table_early c.args.bytes.now _ c.in_err-table.ensures.fault)
