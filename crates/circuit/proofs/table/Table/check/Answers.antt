use Rattle.circuit.proofs.Accepts.{passes_exactly}
use Rattle.circuit.proofs.table.Table.check.Goals as goal

pub returns : goal.returns
returns c = record {
  fault = c.scan.ensures.fault;
  holds = c.scan.ensures.holds;
  exact = passes_exactly c.args.bytes.now c.scan.result c.scan.ensures.fault;
}
