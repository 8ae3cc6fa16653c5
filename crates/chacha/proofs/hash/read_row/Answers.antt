-- The number of the first two words, and the two low bits of the third.
use Rattle.std.proofs.Common.{◌≡◌, ◌+◌, ◌*◌, ◌/◌, ◌%◌, ◌^◌, ◌++◌, get_or, sym, refl, ap, ◌∙◌, arith}
use Rattle.std.proofs.lemmas.Nat.{field_of}
use Rattle.std.proofs.lemmas.List.FromFn.{fill_by_all}
use Rattle.slices.specs.Little.{bytes_of}
use Rattle.slices.proofs.LittleLaws.{little-pair}
use Rattle.chacha.specs.Bytes.{serialised}
use Rattle.chacha.specs.Hash.{read_block}
use Rattle.chacha.proofs.hash.read_row.Goals as goal

pub returns : goal.returns
unfolding bytes_of
returns c rest =
    let s = c.args.first in
    let w0 = get_or s 0 0 in
    let w1 = get_or s 1 0 in
    let w2 = get_or s 2 0 in
    let word = little-pair 4 4 w0 w1 (omega arith) (omega arith) in
    let code : c.from.result + c.from-2.result * 2 ^ 32 % 2 ^ 64 ≡ w0 + 2 ^ 32 * w1 = omega arith in
    let low : w2 % 256 % 2 ≡ w2 % 2 = omega arith in
    let high : w2 % 256 / 2 % 2 ≡ w2 / 2 % 2 = rw (field_of w2 7 1) (omega arith) in
    (simp (c.in_bits.ensures, c.from-3.ensures, code, word, low, high))
    ∙ sym (ap (λ l. read_block (serialised (l ++ rest))) (fill_by_all (λ i. get_or s i 0) s 4 0 (omega arith) (λ i h. refl)))
