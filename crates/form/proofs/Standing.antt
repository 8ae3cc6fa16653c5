-- Bytes that stand in others from a place on: parts of what is joined, items of one width, and the numbers read there.
use Rattle.std.proofs.Common.{◌≡◌, ℕ, zero, suc, ◌+◌, ◌*◌, ◌/◌, ◌%◌, ◌^◌, ◌<◌, List, [], ◌∷◌, ◌++◌, length, get_or, sym, refl, ap, ◌∙◌, subst, add-zero, mul-zero, zero-add, mul-suc, arith, length-append}
use Rattle.std.specs.List.{flat_map}
use Rattle.std.proofs.lemmas.List.{get_or_append_left, get_or-append-add}
use Rattle.slices.specs.Little.{short_bytes, short_at, word_bytes, word_at}
use Rattle.label.specs.Labels.{Label, label_bytes, label_at}

-- The list xs stands in F from place p on.
abbrev pub Stands : List ℕ → ℕ → List ℕ → Type 0
Stands F p xs = (j : ℕ) → j < length xs → get_or F (p + j) 0 ≡ get_or xs j 0

pub stands_whole : (F : List ℕ) → Stands F 0 F
stands_whole F j below = ap (λ k. get_or F k 0) (zero-add j)

pub stands_first : (F : List ℕ) (p : ℕ) (xs ys : List ℕ) → Stands F p (xs ++ ys) → Stands F p xs
stands_first F p xs ys here j below =
    let long = length-append xs ys in
    here j (omega (arith, long)) ∙ get_or_append_left xs ys 0 j below

pub stands_rest : (F : List ℕ) (p q : ℕ) (xs ys : List ℕ) → p + length xs ≡ q → Stands F p (xs ++ ys) → Stands F q ys
stands_rest F p q xs ys place here j below =
    let long = length-append xs ys in
    let same : q + j ≡ p + (length xs + j) = omega arith in
    ap (λ k. get_or F k 0) same ∙ here (length xs + j) (omega (arith, long)) ∙ get_or-append-add xs ys j 0

-- An item of those of one width.
pub stands_item : {X : Type 0} (f : X → List ℕ) (k : ℕ) → ((x : X) → length (f x) ≡ k) → (xs : List X) (d : X) (F : List ℕ) (p i : ℕ)
    → Stands F p (flat_map f xs) → i < length xs → Stands F (p + k * i) (f (get_or xs i d))
stands_item f k wide [] d F p i here below = absurd (omega arith)
stands_item f k wide (x ∷ xs) d F p zero here below =
    let same : p ≡ p + k * 0 = sym (ap (λ n. p + n) (mul-zero k) ∙ add-zero p) in
    subst (λ q. Stands F q (f x)) same (stands_first F p (f x) (flat_map f xs) here)
stands_item f k wide (x ∷ xs) d F p (suc i) here below =
    let more = mul-suc k i in
    let same : p + k + k * i ≡ p + k * suc i = omega arith in
    subst (λ q. Stands F q (f (get_or xs i d))) same
    (stands_item f k wide xs d F (p + k) i (stands_rest F p (p + k) (f x) (flat_map f xs) (ap (λ n. p + n) (wide x)) here) (omega arith))

-- The first of the bytes that stand at a place.
here_at : (F : List ℕ) (p : ℕ) (xs : List ℕ) → 0 < length xs → Stands F p xs → get_or F p 0 ≡ get_or xs 0 0
here_at F p xs some here = ap (λ k. get_or F k 0) (sym (add-zero p)) ∙ here 0 some

-- Numbers of 16 and of 64 bits, and labels.
pub short_stands : (F : List ℕ) (p x : ℕ) → x < 2 ^ 16 → Stands F p (short_bytes x) → short_at F p ≡ x
short_stands F p x fits here =
    (λ i. here_at F p (short_bytes x) (omega arith) here i + here 1 (omega arith) i * 256) ∙ omega arith

word_from_bytes : (x : ℕ) → x < 2 ^ 64
    → x % 256 + x / 256 % 256 * 256 + x / 65536 % 256 * 65536 + x / 16777216 % 256 * 16777216
    + x / 4294967296 % 256 * 4294967296 + x / 1099511627776 % 256 * 1099511627776 + x / 281474976710656 % 256 * 281474976710656
    + x / 72057594037927936 % 256 * 72057594037927936 ≡ x
word_from_bytes x fits = omega arith

pub word_stands : (F : List ℕ) (p x : ℕ) → x < 2 ^ 64 → Stands F p (word_bytes x) → word_at F p ≡ x
word_stands F p x fits here =
    (λ i. here_at F p (word_bytes x) (omega arith) here i + here 1 (omega arith) i * 256 + here 2 (omega arith) i * 65536 + here 3 (omega arith) i * 16777216
    + here 4 (omega arith) i * 4294967296 + here 5 (omega arith) i * 1099511627776 + here 6 (omega arith) i * 281474976710656
    + here 7 (omega arith) i * 72057594037927936)
    ∙ word_from_bytes x fits

pub label_stands : (F : List ℕ) (p : ℕ) (l : Label) → l.0 < 2 ^ 64 → l.1 < 2 ^ 64 → Stands F p (label_bytes l) → label_at F p ≡ l
label_stands F p l left right here = λ i. (
  word_stands F p l.0 left (stands_first F p (word_bytes l.0) (word_bytes l.1) here) i,
  word_stands F (p + 8) l.1 right (stands_rest F p (p + 8) (word_bytes l.0) (word_bytes l.1) refl here) i,
)
