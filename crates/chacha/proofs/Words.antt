-- Words in bytes: the four bytes at a place, and the bytes of words that were read; and the words of two states added.
use Rattle.std.proofs.Common.{◌≡◌, ℕ, zero, suc, ◌+◌, ◌*◌, ◌<◌, ◌≤◌, List, [], ◌∷◌, ◌++◌, map, length, get_or, take, drop, sym, ap, ◌∙◌, ap₂, add-one, arith, drop-cons, drop-drop, take_all, refl, set, append_assoc, append-nil, length-set, take-suc-set}
use Rattle.std.proofs.Math.Seq.{take-add}
use Rattle.std.specs.Int.{from_le_bytes, w32}
use Rattle.std.specs.List.{range_with_len}
use Rattle.slices.specs.Little.{little, bytes_of}
use Rattle.slices.proofs.LittleLaws.{bytes_of-little}
use Rattle.std.proofs.lemmas.List.{get_or-take, length-take-le}
use Rattle.std.proofs.lemmas.List.FromFn.{fill_by_all}
use Rattle.chacha.specs.Words.{plus}
use Rattle.chacha.specs.Bytes.{four_at, word_at, words_in, serialised}
use Rattle.chacha.specs.Block.{added}

-- a part that begins with the byte at i
part_more : (l : List ℕ) (n i j : ℕ) → j ≡ i + 1 → i < length l → take (suc n) (drop i l) ≡ get_or l i 0 ∷ take n (drop j l)
part_more l n i j e h = rw (drop-cons l i 0 h, e, add-one)

-- the four bytes at p, one by one
pub four_at-bytes :
    (l : List ℕ) (p : ℕ) → p + 4 ≤ length l
    → four_at l p ≡ get_or l p 0 ∷ get_or l (p + 1) 0 ∷ get_or l (p + 2) 0 ∷ get_or l (p + 3) 0 ∷ []
unfolding four_at
four_at-bytes l p h =
    part_more l 3 p (p + 1) (omega arith) (omega arith)
    ∙ ap (λ r. get_or l p 0 ∷ r) (part_more l 2 (p + 1) (p + 2) (omega arith) (omega arith))
    ∙ ap (λ r. get_or l p 0 ∷ get_or l (p + 1) 0 ∷ r) (part_more l 1 (p + 2) (p + 3) (omega arith) (omega arith))
    ∙ ap (λ r. get_or l p 0 ∷ get_or l (p + 1) 0 ∷ get_or l (p + 2) 0 ∷ r)
    (part_more l 0 (p + 3) (p + 4) (omega arith) (omega arith))

-- the word of those bytes, by the library's reading
pub word_is : (l : List ℕ) (p : ℕ) → p + 4 ≤ length l
    → from_le_bytes w32 (get_or l p 0 ∷ get_or l (p + 1) 0 ∷ get_or l (p + 2) 0 ∷ get_or l (p + 3) 0 ∷ []) ≡ word_at l p
unfolding little
word_is l p h = rw (four_at-bytes l p h) (omega arith)

module _ (s : List ℕ) (below : (i : ℕ) → get_or s i 0 < 256) where
  -- the bytes of the word at p are those that it was read from
  word_back : (p : ℕ) → p + 4 ≤ length s → bytes_of 4 (word_at s p) ≡ four_at s p
  word_back p h =
      rw (four_at-bytes s p h)
      (bytes_of-little _ (below p, (below (p + 1), (below (p + 2), (below (p + 3), tt)))))

  -- and so are those of n words, from the word at 4·a on
  pub words_back : (n a : ℕ) → 4 * a + 4 * n ≤ length s
      → serialised (map (λ i. word_at s (4 * i)) (range_with_len a n)) ≡ take (4 * n) (drop (4 * a) s)
  unfolding four_at
  words_back zero a h = search arith
  words_back (suc n) a h =
      ap₂ (λ x y. x ++ y) (word_back (4 * a) (omega arith)) (words_back n (a + 1) (omega arith))
      ∙ ap (λ k. take 4 (drop (4 * a) s) ++ take (4 * n) (drop k s)) (omega arith)
      ∙ ap (λ l. take 4 (drop (4 * a) s) ++ take (4 * n) l) (sym (drop-drop 4 (4 * a) s))
      ∙ sym (take-add 4 (4 * n) (drop (4 * a) s))
      ∙ ap (λ k. take k (drop (4 * a) s)) (omega arith)

-- 28 bytes are those of their seven words
pub material_back : (s : List ℕ) → length s ≡ 28 → ((i : ℕ) → get_or s i 0 < 256) → serialised (words_in 7 s) ≡ s
material_back s long below = words_back s below 7 0 (omega arith) ∙ take_all 28 s (omega arith)

-- the front that ends with the byte just written
front_set : (l : List ℕ) (i n a : ℕ) → n ≡ i + 1 → i < length l → take n (set l i a) ≡ take i l ++ a ∷ []
front_set l i n a e h = rw (e, add-one) (take-suc-set l i a h)

-- the front that ends with the four bytes just written
pub front_set_four :
    (l : List ℕ) (p n b0 b1 b2 b3 : ℕ) → n ≡ p + 4 → p + 4 ≤ length l
    → take n (set (set (set (set l p b0) (p + 1) b1) (p + 2) b2) (p + 3) b3) ≡ take p l ++ b0 ∷ b1 ∷ b2 ∷ b3 ∷ []
front_set_four l p n b0 b1 b2 b3 e h =
    let l1 = set l p b0 in
    let l2 = set l1 (p + 1) b1 in
    let l3 = set l2 (p + 2) b2 in
    front_set l3 (p + 3) n b3 (omega arith) (simp length-set (omega arith))
    ∙ ap (λ r. r ++ b3 ∷ []) (front_set l2 (p + 2) (p + 3) b2 (omega arith) (simp length-set (omega arith)))
    ∙ ap (λ r. (r ++ b2 ∷ []) ++ b3 ∷ []) (front_set l1 (p + 1) (p + 2) b1 (omega arith) (simp length-set (omega arith)))
    ∙ ap (λ r. ((r ++ b1 ∷ []) ++ b2 ∷ []) ++ b3 ∷ []) (front_set l p (p + 1) b0 refl (omega arith))
    ∙ simp append_assoc

-- one word more
pub serialised_push : (ws : List ℕ) (w : ℕ) → serialised (ws ++ w ∷ []) ≡ serialised ws ++ bytes_of 4 w
serialised_push [] w = append-nil (bytes_of 4 w)
serialised_push (x ∷ xs) w = ap (λ r. bytes_of 4 x ++ r) (serialised_push xs w) ∙ simp append_assoc

-- two states added are as long as they are
pub added_length : (xs ys : List ℕ) → length xs ≡ length ys → length (added xs ys) ≡ length xs
added_length [] ys e = refl
added_length (x ∷ xs) [] e = absurd (omega arith)
added_length (x ∷ xs) (y ∷ ys) e = ap suc (added_length xs ys (omega arith))

-- and hold the sums of their words
added_at : (xs ys : List ℕ) (k : ℕ) → length xs ≡ length ys → k < length xs → get_or (added xs ys) k 0 ≡ plus (get_or xs k 0) (get_or ys k 0)
added_at [] ys k e below = absurd (omega arith)
added_at (x ∷ xs) [] k e below = absurd (omega arith)
added_at (x ∷ xs) (y ∷ ys) zero e below = refl
added_at (x ∷ xs) (y ∷ ys) (suc k) e below = added_at xs ys k (omega arith) (omega arith)

-- the first n of them are the sums of the first n words
pub added_front :
    (xs ys : List ℕ) (n : ℕ) → length xs ≡ length ys → n ≤ length xs
    → take n (added xs ys) ≡ map (λ i. plus (get_or xs i 0) (get_or ys i 0)) (range_with_len 0 n)
added_front xs ys n e fits =
    let long = added_length xs ys e in
    fill_by_all (λ i. plus (get_or xs i 0) (get_or ys i 0)) (take n (added xs ys)) n 0
    (length-take-le n (added xs ys) (omega arith))
    (λ k below. get_or-take n (added xs ys) k 0 below ∙ added_at xs ys k e (omega arith))
