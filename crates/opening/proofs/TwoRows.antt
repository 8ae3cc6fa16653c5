-- Two rows of items in one buffer: the first from its start, the second from a base on, both growing item by item.
use Rattle.std.proofs.Common.{◌≡◌, ℕ, ◌+◌, ◌*◌, ◌≤◌, List, [], ◌∷◌, ◌++◌, length, take, drop, sym, refl, ap, ◌∙◌, arith, length-append, length-drop}
use borrow.Rule.Slice.PartMut.{put_mid, same_len_mid}
use Rattle.std.specs.List.{flat_map}
use Rattle.std.proofs.lemmas.List.{take_all, flat_map_more, take-append-drop, drop-take, drop-append-le, length-take-le}
use Rattle.slices.proofs.Widths.{length-joined}
use Rattle.opening.specs.Rows.{Rows}
use Rattle.std.proofs.lemmas.Slice.{take-put_mid, take-put_mid_below, drop-put_mid}

-- What is written into a part leaves the length.
pub length-put : {X : Type 0} (a : ℕ) (xs ys : List X) → a + length ys ≤ length xs → length (put_mid a (length ys) xs ys) ≡ length xs
length-put a xs ys room =
    same_len_mid a (length ys) xs ys (sym (length-take-le (length ys) (drop a xs) (let long = length-drop a xs in omega (arith, long))))

module _ {X : Type 0} (bs xs ys : List X) (at base k : ℕ) (apart : at + length xs ≤ base) (room : base + k + length ys ≤ length bs) where
  abbrev one_written : List X
  one_written = put_mid at (length xs) bs xs

  abbrev pub both_written : List X
  both_written = put_mid (base + k) (length ys) one_written ys

  one_long : length one_written ≡ length bs
  one_long = length-put at bs xs (omega arith)

  pub length-written : length both_written ≡ length bs
  length-written = length-put (base + k) one_written ys (omega (arith, one_long)) ∙ one_long

  pub first_written : take (at + length xs) both_written ≡ take at bs ++ xs
  first_written =
      take-put_mid_below (base + k) (length ys) one_written ys (at + length xs) (omega arith) (omega (arith, one_long))
      ∙ take-put_mid at (length xs) bs xs (at + length xs) refl (omega arith)

  pub second_written : take (k + length ys) (drop base both_written) ≡ take k (drop base bs) ++ ys
  second_written =
      let whole : base + (k + length ys) ≡ base + k + length ys = omega arith in
      sym (drop-take base (k + length ys) both_written)
      ∙ ap (λ n. drop base (take n both_written)) whole
      ∙ ap (drop base) (take-put_mid (base + k) (length ys) one_written ys (base + k + length ys) refl (omega (arith, one_long)))
      ∙ drop-append-le base (take (base + k) one_written) ys (let long = length-take-le (base + k) one_written (omega (arith, one_long)) in omega (arith, long))
      ∙ ap (λ zs. zs ++ ys) (drop-take base k one_written)
      ∙ ap (λ zs. take k zs ++ ys) (drop-put_mid at (length xs) bs xs base apart (omega arith) refl)

-- A row of items of one width, from the start of a list, with one item more.
row_more : {I X : Type 0} (h : I → List X) (wide : ℕ) (all : (i : I) → length (h i) ≡ wide) (n : ℕ) (is : List I) (i : I) (bs cs : List X)
    → take (length (flat_map h is)) bs ≡ flat_map h is → length is ≡ n → take (wide * n + wide) cs ≡ take (wide * n) bs ++ h i
    → take (length (flat_map h (is ++ (i ∷ [])))) cs ≡ flat_map h (is ++ (i ∷ []))
row_more h wide all n is i bs cs so_far here written =
    let more : flat_map h is ++ h i ≡ flat_map h (is ++ (i ∷ [])) = flat_map_more h [] is i in
    let front : length (flat_map h is) ≡ wide * n = length-joined h wide all is ∙ ap (λ k. wide * k) here in
    let long : length (flat_map h (is ++ (i ∷ []))) ≡ wide * n + wide =
    ap length (sym more) ∙ length-append (flat_map h is) (h i) ∙ (λ j. front j + all i j) in
    ap (λ k. take k cs) long ∙ written ∙ ap (λ zs. zs ++ h i) (ap (λ k. take k bs) (sym front) ∙ so_far) ∙ more

-- One item more, written in both rows.
pub rows_more : {I X : Type 0} (f g : I → List X) (a b base n : ℕ) (is : List I) (i : I) (bs cs : List X)
    → ((i : I) → length (f i) ≡ a) → ((i : I) → length (g i) ≡ b)
    → Rows f g base is bs → length is ≡ n
    → take (a * n + a) cs ≡ take (a * n) bs ++ f i
    → take (b * n + b) (drop base cs) ≡ take (b * n) (drop base bs) ++ g i
    → Rows f g base (is ++ (i ∷ [])) cs
rows_more f g a b base n is i bs cs fs gs (firsts, seconds) here one two =
    (row_more f a fs n is i bs cs firsts here one, row_more g b gs n is i (drop base bs) (drop base cs) seconds here two)

-- The items are all: the buffer is the first row and then the second.
pub rows_done : {I X : Type 0} (f g : I → List X) (base : ℕ) (is : List I) (bs : List X)
    → Rows f g base is bs → length (flat_map f is) ≡ base → base + length (flat_map g is) ≡ length bs
    → bs ≡ flat_map f is ++ flat_map g is
rows_done f g base is bs (firsts, seconds) full whole =
    sym (take-append-drop base bs)
    ∙ (λ i. (ap (λ n. take n bs) (sym full) ∙ firsts) i
    ++ (sym (take_all (length (flat_map g is)) (drop base bs) (let long = length-drop base bs in omega (arith, long))) ∙ seconds) i)
