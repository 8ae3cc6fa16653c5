-- Each turn writes the next multiple.
use Rattle.std.proofs.Common.{◌≡◌, ℕ, ◌+◌, ◌*◌, ◌/◌, ◌%◌, ◌^◌, ◌<◌, ◌≤◌, get_or, set, ap, ◌∙◌, arith, length-set, pow_mono}
use Rattle.std.proofs.lemmas.Nat.{shl_below, shl_whole}
use Rattle.std.proofs.lemmas.List.FromFn.{fill_by_all}
use Rattle.std.proofs.lemmas.List.Edits.{fill_by_more}
use Rattle.aes.specs.Hash.{times64}
use Rattle.aes.specs.Multiples.{multiple, multiples}
use Rattle.aes.proofs.multiples.multiples_of.Goals as goal

-- four coefficients stay within 32 when they are shifted by at most 28
part_lt : (k : ℕ) → k < 128 → k % 16 * 2 ^ (4 * (k / 16)) < 2 ^ 32
part_lt k h =
    let p : k % 16 * 2 ^ (4 * (k / 16)) < 2 ^ (4 + 4 * (k / 16)) = shl_below (k % 16) 4 (4 * (k / 16)) (omega arith) in
    let le : 4 + 4 * (k / 16) ≤ 32 = omega arith in
    let q : 2 ^ (4 + 4 * (k / 16)) ≤ 2 ^ 32 = pow_mono le in
    omega arith

part_is : (k : ℕ) → k < 128 → (k % 16 * 2 ^ (4 * (k / 16))) % 2 ^ 64 ≡ k % 16 * 2 ^ (4 * (k / 16))
part_is k h = shl_whole (k % 16) 4 (4 * (k / 16)) 64 (omega arith) (omega arith)

pub overflow_cast-k : goal.overflow_cast-k
overflow_cast-k c = record { fits = rw (part_is c.loop-k.k (omega arith)) (part_lt c.loop-k.k (omega arith)) }

pub loop-k-preserved : goal.loop-k-preserved
unfolding multiple
loop-k-preserved c =
    let k = c.loop-k.k in
    let e : c.times_tweak.result ≡ multiple c.args.a k =
    c.times_tweak.ensures ∙ ap (times64 c.args.a) (part_is k (omega arith)) in (
      (λ i h. ap (λ (v : ℕ). get_or (set c.loop-k.entry-items k v) i 0) e
          ∙ fill_by_more (multiple c.args.a) c.loop-k.entry-items k 0 (omega arith) c.loop-k.invariant.0 i h),
      simp length-set c.loop-k.invariant.1,
    )

pub returns : goal.returns
unfolding multiples
returns c =
    fill_by_all (multiple c.args.a) c.loop-k.entry-items 128 0 c.loop-k.invariant.1 (λ i h. c.loop-k.invariant.0 i (omega arith))
