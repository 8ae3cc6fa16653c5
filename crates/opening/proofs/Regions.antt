-- Parts of a buffer written one after the other: how far it is filled from its front.
use Rattle.std.proofs.Common.{◌≡◌, ℕ, ◌+◌, ◌-◌, ◌≤◌, List, ◌++◌, length, take, drop, sym, ap, ◌∙◌, arith, length-drop}
use borrow.Rule.Slice.PartMut.{put_mid, same_len_mid}
use Rattle.std.proofs.lemmas.List.{append_assoc, take_all, length-take-le}
use Rattle.std.proofs.lemmas.Slice.{take-put_mid}

-- A part written leaves the length.
pub length_part : {X : Type 0} (a k : ℕ) (xs ys : List X) → a + k ≤ length xs → length ys ≡ k → length (put_mid a k xs ys) ≡ length xs
length_part a k xs ys room long =
    same_len_mid a k xs ys (long ∙ sym (length-take-le k (drop a xs) (let rest = length-drop a xs in omega (arith, rest))))

-- A part written right after the front takes the front on.
pub front_more : {X : Type 0} (a k : ℕ) (xs ys front : List X) → take a xs ≡ front → a ≤ length xs → length ys ≡ k
    → take (a + k) (put_mid a k xs ys) ≡ front ++ ys
front_more a k xs ys front so_far room long =
    take-put_mid a k xs ys (a + k) (omega (arith, long)) room ∙ ap (λ zs. zs ++ ys) so_far

-- A front that is as long as the buffer is all of it.
pub front_all : {X : Type 0} (n : ℕ) (xs front : List X) → take n xs ≡ front → length xs ≤ n → xs ≡ front
front_all n xs front so_far all = sym (take_all n xs all) ∙ so_far

-- A part written after the front, up to the end.
pub front_and_rest : {X : Type 0} (n k : ℕ) (zs front rest : List X) → take n zs ≡ front → n ≤ length zs → k ≡ length zs - n → length rest ≡ k
    → put_mid n k zs rest ≡ front ++ rest
front_and_rest n k zs front rest so_far room all long =
    front_all (n + k) _ _ (front_more n k zs rest front so_far room long)
    (let same = length_part n k zs rest (omega (arith, room, all)) long in omega (arith, same, room, all))

-- After the front two parts, which fill the rest.
pub three_parts : {X : Type 0} (a k k' l' : ℕ) (P G M front : List X) → take a P ≡ front → length P ≡ a + length G + length M
    → k ≡ length G → k' ≡ length G → l' ≡ length (put_mid a k' P G) - (a + k)
    → put_mid (a + k) l' (put_mid a k' P G) M ≡ front ++ (G ++ M)
three_parts a k k' l' P G M front so_far whole wide wide' rest =
    let one : length (put_mid a k' P G) ≡ length P = length_part a k' P G (omega arith) (sym wide') in
    let two : take (a + k) (put_mid a k' P G) ≡ front ++ G =
    ap (λ n. take (a + n) (put_mid a k' P G)) (wide ∙ sym wide') ∙ front_more a k' P G front so_far (omega arith) (sym wide') in
    let last : length M ≡ l' = omega (arith, rest, one, whole, wide) in
    let three : take (a + k + l') (put_mid (a + k) l' (put_mid a k' P G) M) ≡ (front ++ G) ++ M =
    front_more (a + k) l' (put_mid a k' P G) M (front ++ G) two (omega (arith, one, whole, wide)) last in
    let all : length (put_mid (a + k) l' (put_mid a k' P G) M) ≡ length P =
    length_part (a + k) l' (put_mid a k' P G) M (omega (arith, one, whole, wide, last)) last ∙ one in
    front_all (a + k + l') _ _ three (omega (arith, all, whole, wide, last)) ∙ append_assoc front G M
