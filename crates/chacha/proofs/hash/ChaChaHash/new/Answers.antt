-- The key material is put together again from the bytes of its seven words.
use Rattle.std.proofs.Common.{◌≡◌, length, ap, ◌∙◌, rules}
use Rattle.chacha.specs.Bytes.{serialised}
use Rattle.chacha.specs.Hash.{material_of}
use Rattle.chacha.proofs.Words.{material_back}
use Rattle.chacha.proofs.hash.ChaChaHash.new.Goals as goal

pub returns-clause-holds : goal.returns-clause-holds
unfolding material_of
returns-clause-holds c =
    let long : length c.args.key.now ≡ 28 = search rules in
    ap serialised c.words_in.ensures ∙ material_back c.args.key.now long (λ i. (c.type_inv.key i).fits)
