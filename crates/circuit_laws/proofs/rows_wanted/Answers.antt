-- The theorems that this contract names.
use Rattle.circuit_laws.proofs.Blindness.{circuit_blind}
use Rattle.circuit_laws.proofs.MondayPlayed.{monday_round}
use Rattle.circuit_laws.proofs.rows_wanted.Goals as goal

pub returns-clause-blind : goal.returns-clause-blind
returns-clause-blind c = circuit_blind

pub returns-clause-monday : goal.returns-clause-monday
returns-clause-monday c = monday_round
