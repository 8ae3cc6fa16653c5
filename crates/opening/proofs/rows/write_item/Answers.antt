use Rattle.std.proofs.Common.{◌≡◌, ℕ, ◌+◌, ◌-◌, ◌*◌, ◌≤◌, List, length, take, drop, sym, ap, ◌∙◌, arith}
use Rattle.std.proofs.Math.Nat.{mul-le-mul_left, mul-suc, add-mul}
use borrow.Rule.Slice.PartMut.{put_mid}
use Rattle.opening.proofs.TwoRows.{both_written, length-written, first_written, second_written}
use Rattle.opening.proofs.rows.write_item.Goals as goal

pub returns : goal.returns
returns g c =
    let a : ℕ = g.row.A in
    let b : ℕ = g.row.B in
    let n : ℕ = c.args.next in
    let q : ℕ = c.args.count in
    let bs : List ℕ = c.args.rows.now in
    let xs : List ℕ = c.args.first in
    let ys : List ℕ = c.args.second in
    let one : length xs ≡ a = let kept = c.copy_from_slice.auto.self in let now = ap length c.copy_from_slice.ensures.after in omega (arith, kept, now) in
    let two : length ys ≡ b = let kept = c.copy_from_slice-2.auto.self in let now = ap length c.copy_from_slice-2.ensures.after in omega (arith, kept, now) in
    let below : n + 1 ≤ q = let place = c.requires.place in omega (arith, place) in
    let front : a * n + a ≤ a * q = let most = mul-le-mul_left a below in let more = mul-suc a n in omega (arith, most, more) in
    let back : b * n + b ≤ b * q = let most = mul-le-mul_left b below in let more = mul-suc b n in omega (arith, most, more) in
    let apart : a * n + length xs ≤ a * q = omega (arith, front, one) in
    let room : a * q + b * n + length ys ≤ length bs =
    let bytes = c.requires.bytes in let parts = add-mul a b q in omega (arith, back, two, bytes, parts) in
    let wide : (k w : ℕ) (zs : List ℕ) → length zs ≡ w → k + w - k ≡ length zs = λ k w zs long. omega (arith, long) in
    let written : _ ≡ both_written bs xs ys (a * n) (a * q) (b * n) apart room =
    λ i. put_mid (a * q + b * n) (wide (a * q + b * n) b ys two i) (put_mid (a * n) (wide (a * n) a xs one i) bs (c.copy_from_slice.ensures.after i)) (c.copy_from_slice-2.ensures.after i) in
    rw (c.from-at.ensures, c.second_place-later.ensures)
    record {
      first = (λ i. take (a * n + sym one i) (written i)) ∙ first_written bs xs ys (a * n) (a * q) (b * n) apart room;
      second = (λ i. take (b * n + sym two i) (drop (a * q) (written i))) ∙ second_written bs xs ys (a * n) (a * q) (b * n) apart room;
      len = ap length written ∙ length-written bs xs ys (a * n) (a * q) (b * n) apart room;
    }
