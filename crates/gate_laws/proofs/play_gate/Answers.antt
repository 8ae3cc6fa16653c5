-- The evaluation is on the gate that was garbled and the labels of the bits; so the gate's laws speak of the call.
use Rattle.std.proofs.Common.{sym, ◌∙◌, subst}
use Rattle.label.specs.Hashes.{Asked}
use Rattle.wires.specs.Wires.{truth}
use Rattle.label.specs.Sums.{halves}
use Rattle.label.proofs.Chains.{asked_append}
use Rattle.gate.specs.declared.labels.LabelPair.{LabelPair}
use Rattle.gate.specs.Gates.{evaluated_gate, gate_questions, three_questions}
use Rattle.gate.specs.Sums.{shifted}
use Rattle.gate_laws.proofs.Computes.{gate_computes, gate_seen}
use Rattle.gate_laws.proofs.Parities.{allowed_suits}
use Rattle.gate_laws.proofs.Blind.{gate_blind}
use Rattle.gate_laws.proofs.MondayProof.{monday_gate_lem}
use Rattle.gate_laws.proofs.play_gate.Goals as goal

pub returns : goal.returns
returns g c =
    let a = c.args in
    let f = g.H.Hash.function a.hash.now in
    let A = a.labels.first in
    let B = a.labels.second in
    let u = a.bits.0 in
    let v = a.bits.1 in
    let gate = c.garble_gate-gate.result in
    let gate_is = c.garble_gate-gate.ensures.value in
    let met = c.shifted-met.ensures in
    let value =
    c.evaluate_gate-output.ensures.value
    ∙ (λ i. evaluated_gate (c.garble_gate-gate.ensures.kept i) a.parity gate.sent.ciphertexts gate.sent.controls (met i).first (met i).second a.tweak) in
    let asks : Asked g.H.Hash.asks (three_questions (shifted halves a.delta A u) (shifted halves a.delta B v) a.tweak) c.garble_gate-gate.new.hash c.evaluate_gate-output.new.hash =
    subst (λ (p : LabelPair). Asked g.H.Hash.asks (three_questions p.first p.second a.tweak) c.garble_gate-gate.new.hash c.evaluate_gate-output.new.hash) met c.evaluate_gate-output.ensures.asked in
    record {
      gate = gate_is;
      value = value;
      right = λ fits odd.
          value
          ∙ (λ i. evaluated_gate f a.parity (gate_is i).sent.ciphertexts (gate_is i).sent.controls (shifted halves a.delta A u) (shifted halves a.delta B v) a.tweak)
          ∙ gate_computes f a.parity a.truth_table a.dice fits a.delta A B odd a.tweak u v
          ∙ (λ i. shifted halves a.delta (sym gate_is i).label (truth a.truth_table u v));
      kept = c.evaluate_gate-output.ensures.kept ∙ c.garble_gate-gate.ensures.kept;
      asked =
          asked_append g.H.Hash.asks (gate_questions a.delta A B a.tweak)
          (three_questions (shifted halves a.delta A u) (shifted halves a.delta B v) a.tweak) a.hash.now
          c.garble_gate-gate.new.hash c.evaluate_gate-output.new.hash c.garble_gate-gate.ensures.asked asks;
      allowed = allowed_suits;
      seen = gate_seen;
      blind = gate_blind;
      monday = monday_gate_lem;
    }
