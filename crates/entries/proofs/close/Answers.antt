use Rattle.std.proofs.Common.{arith, rules}
use Rattle.entries.proofs.Promise.{one_label, counts_lines}
use Rattle.entries.proofs.SampleBook.{sample_kept}
use Rattle.entries.proofs.close.Goals as goal

pub returns-in_err-map_err-clause-book : goal.returns-in_err-map_err-clause-book
returns-in_err-map_err-clause-book c = one_label

pub returns-in_err-map_err-clause-sample : goal.returns-in_err-map_err-clause-sample
returns-in_err-map_err-clause-sample c = sample_kept

pub returns-clause-lines : goal.returns-clause-lines
returns-clause-lines c =
    counts_lines c.args.ledger.now _ (search (rules, arith), search (rules, arith))

pub returns-clause-book : goal.returns-clause-book
returns-clause-book c = one_label

pub returns-clause-sample : goal.returns-clause-sample
returns-clause-sample c = sample_kept
