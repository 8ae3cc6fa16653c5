-- Each call reads its word.
use Rattle.std.proofs.Common.{◌≡◌, ◌+◌, ◌*◌, [], ◌∷◌, get_or, ◌∙◌, arith, rules}
use Rattle.std.specs.Int.{from_le_bytes, w32}
use Rattle.chacha.specs.Bytes.{word_at}
use Rattle.slices.proofs.Calls.{made_by}
use Rattle.chacha.proofs.Words.{word_is}
use Rattle.chacha.proofs.blocks.words_in.Goals as goal

pub returns : goal.returns
returns g c =
    let s = c.args.bytes.now in
    made_by _ _ (λ i. word_at s (4 * i)) _ 0
    (λ i y q below k.
    let e : y ≡ from_le_bytes w32 (get_or s (4 * i) 0 ∷ get_or s (4 * i + 1) 0 ∷ get_or s (4 * i + 2) 0 ∷ get_or s (4 * i + 3) 0 ∷ []) = search rules in
    e ∙ word_is s (4 * i) (omega arith))
    (λ i y q below k. search rules)
    c.from_fn.result c.from_fn.ensures.items
