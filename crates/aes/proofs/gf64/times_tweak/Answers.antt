-- The sum is the product with the tweak's coefficients from i on, and at the end with all of them.
use Rattle.std.proofs.Common.{◌≡◌, ℕ, ◌+◌, ◌-◌, ◌*◌, ◌/◌, ◌%◌, ◌^◌, ap, ◌∙◌, arith}
use lib.Bits.{bit_xor}
use Rattle.aes.proofs.Tweaks.{high_product, high_none, high_more, high_all}
use Rattle.aes.proofs.gf64.times_tweak.Goals as goal

pub loop-i-init : goal.loop-i-init
loop-i-init c = high_none c.args.a c.args.tweak

pub loop-i-preserved : goal.loop-i-preserved
loop-i-preserved c =
    let a = c.args.a in
    let tweak = c.args.tweak in
    let i : ℕ = c.loop-i.i - 1 in
    let next : c.loop-i.i ≡ i + 1 = omega arith in
    ap (λ (v : ℕ). bit_xor (v * a) c.twice.result) c.from-coefficient.ensures
    ∙ ap (bit_xor (tweak / 2 ^ i % 2 * a)) c.twice.ensures
    ∙ high_more a tweak i c.loop-i.sum (omega arith) (omega arith) (c.loop-i.invariant ∙ ap (high_product a tweak) next)

pub returns : goal.returns
returns c =
    let end : c.loop-i.i ≡ 0 = omega arith in
    c.loop-i.invariant ∙ ap (high_product c.args.a c.args.tweak) end ∙ high_all c.args.a c.args.tweak (omega arith) (omega arith)
