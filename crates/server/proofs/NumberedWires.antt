-- The wires that a test picks, each with its number among them: the first of these that a second test picks is the lowest.
use Rattle.std.proofs.Common.{◌≡◌, ℕ, zero, suc, ◌+◌, ◌<◌, ◌≤◌, Bool, true, false, cond, ◌&&◌, List, [], ◌∷◌, ◌++◌, length, Some, None, Option, sym, refl, ap, ◌∙◌, add-one, arith}
use Rattle.std.specs.List.{filter, zip, find, range_with_len}
use Rattle.std.specs.Option.{option_map}
use Rattle.std.proofs.lemmas.List.{append-nil}
use Rattle.std.proofs.lemmas.Iterator.Adapters.{option_map_id}
use Rattle.wires.specs.Wires.{wires_where}
use Rattle.wires.proofs.Bits.{number_small}
use Rattle.wires.proofs.Scans.{count_more, where_filtered}
use Rattle.circuit.specs.Check.{Fault, or_else}
use Rattle.server.specs.Lowest.{lowest_where}

-- No more wires are picked than there are.
pub few : (p : ℕ → Bool) (n : ℕ) → length (wires_where p n) ≤ n
unfolding wires_where
few p zero = omega arith
few p (suc w) =
    let step = ap (λ k. length (wires_where p k)) (sym (add-one w)) ∙ count_more p w in
    omega (arith, step, few p w, number_small (p w))

-- One wire more gets the next number.
numbered_more : (xs : List ℕ) (w a m : ℕ) → length xs < m
    → zip (xs ++ (w ∷ [])) (range_with_len a m) ≡ zip xs (range_with_len a m) ++ ((w, a + length xs) ∷ [])
numbered_more [] w a zero room = absurd (omega arith)
numbered_more [] w a (suc m) room = let here : a ≡ a + 0 = omega arith in λ i. (w, here i) ∷ []
numbered_more (x ∷ xs) w a zero room = absurd (omega arith)
numbered_more (x ∷ xs) w a (suc m) room =
    let place : a + 1 + length xs ≡ a + suc (length xs) = omega arith in
    ap (λ ys. (x, a) ∷ ys) (numbered_more xs w (a + 1) m (omega arith) ∙ ap (λ k. zip xs (range_with_len (a + 1) m) ++ ((w, k) ∷ [])) place)

-- What is told of the first that is found.
abbrev pub told_of : ℕ → Option (ℕ × ℕ) → Option Fault
told_of k o = option_map (λ (x : ℕ × ℕ). (k, x.0)) o

found_more : (k : ℕ) (test : ℕ × ℕ → Bool) (xs : List (ℕ × ℕ)) (x : ℕ × ℕ)
    → told_of k (find test (xs ++ (x ∷ []))) ≡ or_else (told_of k (find test xs)) (cond (test x) (Some (k, x.0)) None)
found_more k test [] x = last (test x)
  where
    last : (b : Bool) → told_of k (cond b (Some x) None) ≡ cond b (Some (k, x.0)) None
    last true = refl
    last false = refl
found_more k test (y ∷ ys) x = first (test y) (found_more k test ys x)
  where
    more : Option Fault
    more = cond (test x) (Some (k, x.0)) None

    first : (b : Bool) → told_of k (find test (ys ++ (x ∷ []))) ≡ or_else (told_of k (find test ys)) more
        → told_of k (cond b (Some y) (find test (ys ++ (x ∷ [])))) ≡ or_else (told_of k (cond b (Some y) (find test ys))) more
    first true below = refl
    first false below = below

or_none : (o : Option Fault) → o ≡ or_else o None
or_none None = refl
or_none (Some f) = refl

lowest_numbered : (k : ℕ) (p : ℕ → Bool) (test : ℕ × ℕ → Bool) (n m : ℕ) → n ≤ m
    → told_of k (find test (zip (wires_where p n) (range_with_len 0 m))) ≡ lowest_where k (λ w. p w && test (w, length (wires_where p w))) n
unfolding wires_where lowest_where
lowest_numbered k p test zero m room = refl
lowest_numbered k p test (suc w) m room =
    let xs : List ℕ = wires_where p w in
    let told : Option Fault = told_of k (find test (zip xs (range_with_len 0 m))) in
    more (p w) ∙ ap (λ o. or_else o (cond (p w && test (w, length xs)) (Some (k, w)) None)) (lowest_numbered k p test w m (omega arith))
  where
    more : (b : Bool)
        → told_of k (find test (zip (wires_where p w ++ cond b (w ∷ []) []) (range_with_len 0 m)))
        ≡ or_else (told_of k (find test (zip (wires_where p w) (range_with_len 0 m)))) (cond (b && test (w, length (wires_where p w))) (Some (k, w)) None)
    more true =
        let xs : List ℕ = wires_where p w in
        let place : 0 + length xs ≡ length xs = omega arith in
        ap (λ ys. told_of k (find test ys)) (numbered_more xs w 0 m (let short : length xs ≤ w = few p w in omega arith))
        ∙ ap (λ j. told_of k (find test (zip xs (range_with_len 0 m) ++ ((w, j) ∷ [])))) place
        ∙ found_more k test (zip xs (range_with_len 0 m)) (w, length xs)
    more false =
        ap (λ ys. told_of k (find test (zip ys (range_with_len 0 m)))) (append-nil (wires_where p w))
        ∙ or_none (told_of k (find test (zip (wires_where p w) (range_with_len 0 m))))

-- The same of what a chain finds.
pub lowest_by_find : (k : ℕ) (p : ℕ → Bool) (test : ℕ × ℕ → Bool) (n : ℕ) (found : Option (ℕ × ℕ))
    → option_map (λ (x : ℕ × ℕ). (x.0, x.1)) found ≡ find test (zip (filter p (range_with_len 0 n)) (range_with_len 0 n))
    → told_of k found ≡ lowest_where k (λ w. p w && test (w, length (wires_where p w))) n
lowest_by_find k p test n found chain =
    ap (told_of k) (sym (option_map_id found) ∙ chain ∙ ap (λ ws. find test (zip ws (range_with_len 0 n))) (where_filtered p n))
    ∙ lowest_numbered k p test n n (omega arith)
