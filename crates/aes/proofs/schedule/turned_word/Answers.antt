-- The word of the four bytes, each substituted.
use Rattle.std.proofs.Common.{◌≡◌, ℕ, List, get_or, sym, ap, ◌∙◌}
use Rattle.aes.specs.Fips197.{s_box, bytes_of, word_of}
use Rattle.aes.proofs.Words.{turned_is}
use Rattle.aes.proofs.schedule.turned_word.Goals as goal

pub returns : goal.returns
returns c =
    let e : c.to_be_bytes.result ≡ bytes_of c.args.w = c.to_be_bytes.ensures in
    let p = c.sub_byte.ensures.value in
    let q = c.sub_byte-2.ensures.value in
    let r = c.sub_byte-3.ensures.value in
    let s = c.sub_byte-4.ensures.value in
    c.from_be_bytes.ensures
    ∙ (λ i. word_of (p i) (q i) (r i) (s i))
    ∙ ap (λ (l : List ℕ). word_of (s_box (get_or l 1 0)) (s_box (get_or l 2 0)) (s_box (get_or l 3 0)) (s_box (get_or l 0 0))) e
    ∙ sym (turned_is c.args.w)
