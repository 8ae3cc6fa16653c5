-- The words hold the key that they were made from.
use Rattle.std.proofs.Common.{◌≡◌, ℕ, ◌<◌, List, length, get_or, take, sym, ap, ◌∙◌, arith, length-take, rules}
use Rattle.aes.specs.Columns.{state_of}
use Rattle.aes.specs.Fips197.{key_expansion}
use Rattle.aes.specs.Keys.{material_of}
use Rattle.aes.proofs.Endian.{word_is}
use Rattle.aes.proofs.KeyBytes.{take_below, key_is}
use Rattle.aes.proofs.AesHash.new.Goals as goal

holds_key : (bytes words : List ℕ) → words ≡ key_expansion (take 16 bytes) → length bytes ≡ 32 → ((i : ℕ) → get_or bytes i 0 < 256)
    → state_of words ≡ take 16 bytes
holds_key bytes words e long below =
    ap state_of e ∙ key_is (take 16 bytes) (simp length-take (omega arith)) (take_below 16 bytes below)

pub invariant_of-result : goal.invariant_of-result
invariant_of-result c =
    let long : length c.args.key.now ≡ 32 = search rules in
    let e = c.expanded.ensures in
    let key = holds_key c.args.key.now c.expanded.result e long (λ i. (c.type_inv.key i).fits) in
    record { expands = e ∙ ap key_expansion (sym key) }

pub returns-clause-holds : goal.returns-clause-holds
unfolding material_of
returns-clause-holds c =
    let bytes = c.args.key.now in
    let long : length bytes ≡ 32 = search rules in
    let key = holds_key bytes c.expanded.result c.expanded.ensures long (λ i. (c.type_inv.key i).fits) in
    let first = c.new.ensures ∙ ap (λ (l : ℕ × ℕ). l.0) c.label_at-u1.ensures ∙ word_is bytes 16 (omega arith) in
    let second = c.new-2.ensures ∙ ap (λ (l : ℕ × ℕ). l.1) c.label_at-u1.ensures ∙ word_is bytes 24 (omega arith) in
    λ i. record { key = key i; u1 = first i; u2 = second i }
