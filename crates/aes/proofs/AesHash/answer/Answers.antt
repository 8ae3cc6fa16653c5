-- The answer is what is read from the sum of the ciphertext and the doubled halves.
use Rattle.std.proofs.Common.{ap, ◌∙◌}
use Rattle.label.specs.declared.xor.ControlPair.{ControlPair}
use Rattle.aes.specs.Keys.{material_of}
use Rattle.aes.proofs.Readings.{answer_is}
use Rattle.aes.proofs.AesHash.answer.Goals as goal

pub returns : goal.returns
unfolding material_of
returns c =
    ap (λ (p : ControlPair). record { word = c.xor-word.result.0; pair = p }) c.in_bits.ensures
    ∙ answer_is (material_of c.args.self.now) c.args.label c.xor-masked.result c.args.tweak
    c.times.result c.times-2.result c.twice.result c.twice-2.result
    c.to_bytes.result c.encrypt.result c.label_at-ciphertext.result c.xor-word.result
    c.times.ensures c.times-2.ensures c.xor-masked.ensures c.to_bytes.ensures.value c.encrypt.ensures c.label_at-ciphertext.ensures
    c.twice.ensures c.twice-2.ensures c.twice.type_inv c.xor-word.ensures
