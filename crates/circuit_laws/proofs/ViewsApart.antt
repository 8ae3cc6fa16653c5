-- Views of the server can be told apart, by their parts.
use Rattle.std.proofs.Common.{ℕ, List, refl}
use mathlib.Core.Equiv.{Iso}
use mathlib.Core.HLevel.{Discrete, ×_discrete}
use mathlib.Core.List.{List-discrete}
use native.Mathlib.Decide.{ℕ_discrete}
use Rattle.label.specs.Labels.{Label}
use Rattle.label.specs.declared.hash.Answer.{Answer}
use Rattle.label.specs.declared.xor.ControlPair.{ControlPair}
use Rattle.gate_laws.proofs.Shapes.{discrete_iso, pair_discrete}
use Rattle.gate.specs.declared.garble.SentGate.{SentGate}
use Rattle.garbling.specs.Marks.{Mark}
use Rattle.circuit_laws.specs.CircuitBlind.{ServerView}

gate_parts : Iso SentGate (List ℕ × List ControlPair)
gate_parts = record { fun = λ g. (g.ciphertexts, g.controls); inv = λ p. record { ciphertexts = p.0; controls = p.1 }; rinv = λ p. refl; linv = λ g. refl }

answer_parts : Iso Answer (ℕ × ControlPair)
answer_parts = record { fun = λ r. (r.word, r.pair); inv = λ p. record { word = p.0; pair = p.1 }; rinv = λ p. refl; linv = λ r. refl }

view_parts : Iso ServerView (List SentGate × (List Mark × (List Mark × (List Label × List Answer))))
view_parts = record {
  fun = λ v. (v.gates, (v.false_marks, (v.true_marks, (v.labels, v.answers))));
  inv = λ p. record { gates = p.0; false_marks = p.1.0; true_marks = p.1.1.0; labels = p.1.1.1.0; answers = p.1.1.1.1 };
  rinv = λ p. refl;
  linv = λ v. refl;
}

pub view_discrete : Discrete ServerView
view_discrete =
    let numbers : Discrete (ℕ × ℕ) = ×_discrete ℕ_discrete ℕ_discrete in
    discrete_iso view_parts
    (×_discrete (List-discrete (discrete_iso gate_parts (×_discrete (List-discrete ℕ_discrete) (List-discrete pair_discrete))))
    (×_discrete (List-discrete numbers) (×_discrete (List-discrete numbers) (×_discrete (List-discrete numbers)
    (List-discrete (discrete_iso answer_parts (×_discrete ℕ_discrete pair_discrete)))))))
