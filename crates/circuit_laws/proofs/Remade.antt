-- A list made anew, place by place: its length, its elements, and how it is made back.
use Rattle.std.proofs.Common.{◌≡◌, ℕ, zero, suc, ◌+◌, ◌<◌, List, [], ◌∷◌, map, length, get_or, take, drop, sym, refl, ap, ◌∙◌, zero-add}
use Rattle.std.specs.List.{range_with_len}
use Rattle.std.proofs.lemmas.List.FromFn.{length-map-range_with_len, get_or-map-range_with_len, fill_by_all}
use Rattle.circuit_laws.specs.Chance.{Each}

abbrev pub remade : {A : Type 0} → (ℕ → A → A) → A → List A → List A
remade F z xs = map (λ i. F i (get_or xs i z)) (range_with_len 0 (length xs))

pub length-remade : {A : Type 0} (F : ℕ → A → A) (z : A) (xs : List A) → length (remade F z xs) ≡ length xs
length-remade F z xs = length-map-range_with_len _ 0 (length xs)

pub remade_at : {A : Type 0} (F : ℕ → A → A) (z : A) (xs : List A) (i : ℕ) (y : A) → i < length xs → get_or (remade F z xs) i y ≡ F i (get_or xs i z)
remade_at F z xs i y below = get_or-map-range_with_len (λ i. F i (get_or xs i z)) 0 (length xs) i i y below (zero-add i)

-- Made anew twice, it is what it was where each element is.
pub remade_back : {A : Type 0} (F G : ℕ → A → A) (z : A) (xs : List A) → ((i : ℕ) → i < length xs → G i (F i (get_or xs i z)) ≡ get_or xs i z)
    → remade G z (remade F z xs) ≡ xs
remade_back F G z xs back =
    ap (λ (n : ℕ). map (λ i. G i (get_or (remade F z xs) i z)) (range_with_len 0 n)) (length-remade F z xs)
    ∙ sym (fill_by_all _ xs (length xs) z refl (λ i below. sym (ap (G i) (remade_at F z xs i z below) ∙ back i below)))

-- What holds of each element, and of what stands past the end, holds at every place; and back.
pub each_at : {A : Type 0} (P : A → Type 0) (xs : List A) (z : A) → Each P xs → P z → (i : ℕ) → P (get_or xs i z)
each_at P [] z hs hz i = hz
each_at P (x ∷ xs) z (h, hs) hz zero = h
each_at P (x ∷ xs) z (h, hs) hz (suc i) = each_at P xs z hs hz i

each_made : {A : Type 0} (P : A → Type 0) (F : ℕ → A) → ((i : ℕ) → P (F i)) → (a n : ℕ) → Each P (map F (range_with_len a n))
each_made P F all a zero = tt
each_made P F all a (suc n) = (all a, each_made P F all (a + 1) n)

pub each_remade : {A : Type 0} (P : A → Type 0) (F : ℕ → A → A) (z : A) (xs : List A) → ((i : ℕ) → P (F i (get_or xs i z))) → Each P (remade F z xs)
each_remade P F z xs all = each_made P (λ i. F i (get_or xs i z)) all 0 (length xs)

pub each_take : {A : Type 0} (P : A → Type 0) (n : ℕ) (xs : List A) → Each P xs → Each P (take n xs)
each_take P zero xs hs = tt
each_take P (suc n) [] hs = tt
each_take P (suc n) (x ∷ xs) (h, hs) = (h, each_take P n xs hs)

pub each_drop : {A : Type 0} (P : A → Type 0) (n : ℕ) (xs : List A) → Each P xs → Each P (drop n xs)
each_drop P zero xs hs = hs
each_drop P (suc n) [] hs = tt
each_drop P (suc n) (x ∷ xs) (h, hs) = each_drop P n xs hs
