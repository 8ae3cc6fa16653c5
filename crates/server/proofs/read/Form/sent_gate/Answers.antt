use Rattle.std.proofs.Common.{◌≡◌, nat_lt, sym, ap, ◌∙◌, arith}
use Rattle.std.proofs.lemmas.Bool.{lt-ltb, cond-true}
use Rattle.std.proofs.lemmas.Grind.{common_steps}
use Rattle.gate.specs.declared.garble.SentGate.{SentGate}
use Rattle.slices.specs.Little.{short_at}
use Rattle.form.specs.Controls.{controls_in}
use Rattle.form.specs.Read.{gates_stated, gate_at}
use Rattle.server.specs.Gates.{blank_gate}
use Rattle.server.proofs.read.Form.sent_gate.Goals as goal

pub returns : goal.returns
returns c =
    let F = c.args.self.now.bytes.now in
    let q = gates_stated F in
    let k = c.args.gate in
    let g : SentGate = gate_at F (short_at F 0) q k in
    let words : c.map.result ≡ g.ciphertexts = grind (arith, common_steps) in
    let pairs : c.controls_of.result ≡ g.controls = c.controls_of.ensures ∙ ap controls_in c.control_word.ensures in
    (λ i. record { ciphertexts = words i; controls = pairs i })
    ∙ sym (cond-true (nat_lt k q) g blank_gate (lt-ltb k q (omega arith)))
