-- The Monday gate, by computing.
use Rattle.std.proofs.Common.{refl}
use Rattle.gate_laws.specs.Monday.{MondayGate}

pub monday_gate_lem : MondayGate
monday_gate_lem = record { label = refl; ciphertexts = refl; controls = refl; no_no = refl; no_yes = refl; yes_no = refl; yes_yes = refl }
