use Rattle.std.proofs.Common.{◌∷◌, get_or, sym, ◌∙◌, subst, arith, rules}
use Rattle.circuit.specs.Check.{table_wiring}
use Rattle.circuit.specs.Public.{PublicOf}
use Rattle.wires.specs.Read.{wiring_of}
use Rattle.circuit.proofs.Publics.{four_and_rest, public_of_lem}
use Rattle.circuit.proofs.publish.public_table.Goals as goal

pub returns : goal.returns
returns c =
    let n = c.to_le_bytes.ensures in
    let m = c.to_le_bytes-2.ensures in
    let circuit = wiring_of c.args.circuit.now in
    let arrays = c.public_arrays.ensures.whole (search rules) in
    let written =
    four_and_rest c.args.table.now c.copy_from_slice.new.self c.public_arrays.new.arrays _ _ _ _ (omega arith) (search rules)
    ∙ (λ i. get_or (n i) 0 0 ∷ get_or (n i) 1 0 ∷ get_or (m i) 0 0 ∷ get_or (m i) 1 0 ∷ arrays i) in
    record {
      fault = search rules;
      table = written;
      shows = λ _. subst (λ t. PublicOf circuit (table_wiring t)) (sym written) (public_of_lem circuit (omega arith) (omega arith));
    }
