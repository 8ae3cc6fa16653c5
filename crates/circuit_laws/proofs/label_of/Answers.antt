-- The theorems that this contract names.
use Rattle.circuit_laws.proofs.Computing.{circuit_computes}
use Rattle.circuit_laws.proofs.label_of.Goals as goal

pub returns-clause-computes : goal.returns-clause-computes
returns-clause-computes c = circuit_computes
