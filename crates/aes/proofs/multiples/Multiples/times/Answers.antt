-- Each turn adds the multiple for the next four coefficients.
use Rattle.std.proofs.Common.{◌≡◌, ℕ, ◌+◌, ◌*◌, ◌/◌, ◌%◌, ◌^◌, ◌<◌, List, get_or, ap, ◌∙◌, ap₂, arith}
use lib.Bits.{bit_xor, xor_comm}
use Rattle.std.proofs.lemmas.List.FromFn.{get_or-map-range_with_len}
use Rattle.aes.specs.Hash.{times64}
use Rattle.aes.specs.Multiples.{multiple, multiples}
use Rattle.aes.proofs.Tweaks.{low_none, low_more}
use Rattle.aes.proofs.multiples.Multiples.times.Goals as goal

-- the entry for the four coefficients from 4·j on
entry_is : (a j part : ℕ) → j < 8 → part < 16 → get_or (multiples a) (16 * j + part) 0 ≡ times64 a (part * 2 ^ (4 * j))
unfolding multiple multiples
entry_is a j part hj hp =
    get_or-map-range_with_len (multiple a) 0 128 (16 * j + part) (16 * j + part) 0 (omega arith) (omega arith)
    ∙ ap₂ (λ (r q : ℕ). times64 a (r * 2 ^ (4 * q))) (omega arith) (omega arith)

pub loop-j-init : goal.loop-j-init
loop-j-init c = low_none c.args.self.now.factor c.args.tweak (omega arith)

pub loop-j-preserved : goal.loop-j-preserved
loop-j-preserved c =
    let a = c.args.self.now.factor in
    let part : ℕ = c.args.tweak / 2 ^ (4 * c.loop-j.j) % 16 in
    xor_comm c.loop-j.sum (get_or c.args.self.now.entries (16 * c.loop-j.j + part) 0)
    ∙ ap (λ (x : ℕ). bit_xor x c.loop-j.sum)
    (ap (λ (l : List ℕ). get_or l (16 * c.loop-j.j + part) 0) c.args.self.now.rule
    ∙ entry_is a c.loop-j.j part (omega arith) (omega arith))
    ∙ low_more a c.args.tweak c.loop-j.j c.loop-j.sum (omega arith) c.loop-j.invariant
