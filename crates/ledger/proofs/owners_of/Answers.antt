use Rattle.std.proofs.Common.{rules}
use Rattle.slices.proofs.Calls.{made_by}
use Rattle.wires.specs.Read.{wiring_of}
use Rattle.ledger.specs.Ledger.{owners_of, owner_of}
use Rattle.ledger.proofs.owners_of.Goals as goal

pub returns : goal.returns
unfolding owners_of
returns c =
    made_by _ _ (owner_of (wiring_of c.args.circuit.now)) 512 0 (λ i y q below called. search rules) (λ i y q below called. search rules)
    c.from_fn.result c.from_fn.ensures.items
