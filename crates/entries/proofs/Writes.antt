-- What the calls write into a part of a buffer.
use Rattle.std.proofs.Common.{◌≡◌, ℕ, zero, suc, ◌+◌, ◌-◌, ◌<◌, ◌≤◌, List, [], ◌∷◌, ◌++◌, length, take, drop, set, refl, ap, arith}
use borrow.Rule.Slice.PartMut.{put_mid}
use Rattle.std.proofs.lemmas.List.{drop-drop}

-- 16 bytes copied to a place, and the rest as it was
pub put_sixteen : (s : List ℕ) (p : ℕ) (xs ys : List ℕ) → xs ≡ ys → put_mid p (p + 16 - p) s xs ≡ take p s ++ (ys ++ drop (p + 16) s)
put_sixteen s p xs ys is =
    let width : p + 16 - p ≡ 16 = omega arith in
    rw (width, is) (ap (λ r. take p s ++ (ys ++ r)) (drop-drop 16 p s))

-- two words copied to a place
two_set : (s : List ℕ) (p a b : ℕ) → p + 2 ≤ length s → take p s ++ (a ∷ b ∷ drop 2 (drop p s)) ≡ set (set s p a) (suc p) b
two_set [] p a b room = absurd (omega arith)
two_set (x ∷ []) zero a b room = absurd (omega arith)
two_set (x ∷ y ∷ s) zero a b room = refl
two_set (x ∷ s) (suc p) a b room = ap (λ r. x ∷ r) (two_set s p a b (omega arith))

pub put_two :
    (s : List ℕ) (p q a b : ℕ) (xs : List ℕ) → q ≡ suc p → q < length s → xs ≡ a ∷ b ∷ []
    → put_mid p (p + 2 - p) s xs ≡ set (set s p a) q b
put_two s p q a b xs next room is =
    let width : p + 2 - p ≡ 2 = omega arith in
    rw (width, is, next) (two_set s p a b (omega arith))
