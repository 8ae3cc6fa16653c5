use Rattle.std.proofs.Common.{◌∙◌}
use Rattle.label.specs.Sums.{Group, Laws, group}
use Rattle.label.proofs.Groups.{laws_of}
use Rattle.gate.specs.Numbers.{back_left, back_right, five_in}
use Rattle.gate_laws.proofs.Space.{gate_space}
use Rattle.gate_laws.proofs.Law.{gate_law}
use Rattle.gate_laws.proofs.Control.{control_law}
use Rattle.gate_laws.proofs.Matrices.{numbers_by_inverse, back_by_v, values_by_m, matrix_facts}
use Rattle.gate_laws.proofs.Basis.{views_by_basis, controls_compressed}
use Rattle.gate_laws.proofs.value_back.Goals as goal

pub returns : goal.returns
returns g c =
    let xor = g.T.Xor in
    let met = g.met.T.Xor in
    let X : Group = group xor.plus xor.nought in
    let laws : Laws X = laws_of xor.plus xor.nought met.assoc met.comm met.neutral met.inverse in
    let i = c.args.colours.0 in
    let j = c.args.colours.1 in
    let numbers = c.gate_numbers.ensures in
    record {
      value = c.add_back.ensures ∙ (λ k. (back_left X (five_in X (numbers k)) i j, back_right X (five_in X (numbers k)) i j));
      space = gate_space _ laws;
      law = gate_law _ laws;
      controls = control_law _ laws;
      inverse = numbers_by_inverse _ laws;
      rows = back_by_v _ laws;
      mixing = values_by_m _ laws;
      basis = views_by_basis _ laws;
      compressed = controls_compressed _ laws;
      facts = matrix_facts;
    }
