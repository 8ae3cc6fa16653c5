-- A store gives back what it was made of, and a label taken out of it leaves zero.
use Rattle.std.proofs.Common.{◌≡◌, ℕ, zero, suc, ◌+◌, ◌*◌, List, [], ◌∷◌, length, get_or, set, refl, ap, mul-suc, arith}
use native.Mathlib.Numerals.{add-two}
use Rattle.std.specs.List.{flat_map}
use Rattle.label.specs.Labels.{Label}
use Rattle.ledger.specs.Store.{label_words, store_of, stored_offset, stored_label, without_label}
use Rattle.slices.proofs.Widths.{length-joined}

pub length-store_of : (Δ : Label) (ls : List Label) → length (store_of Δ ls) ≡ 2 + 2 * length ls
length-store_of Δ ls = let h = length-joined label_words 2 (λ l. refl) ls in omega arith

pub stored_offset-store_of : (Δ : Label) (ls : List Label) → stored_offset (store_of Δ ls) ≡ Δ
stored_offset-store_of Δ ls = refl

-- the words of label w, among the words of the labels
words_at : (ls : List Label) (w : ℕ)
    → (get_or (flat_map label_words ls) (2 * w) 0 ≡ (get_or ls w (0, 0)).0) × (get_or (flat_map label_words ls) (suc (2 * w)) 0 ≡ (get_or ls w (0, 0)).1)
words_at [] w = (refl, refl)
words_at (l ∷ ls) zero = (refl, refl)
words_at (l ∷ ls) (suc w) = rw (mul-suc, add-two) (words_at ls w)

pub stored_label-store_of : (Δ : Label) (ls : List Label) (w : ℕ) → stored_label (store_of Δ ls) w ≡ get_or ls w (0, 0)
stored_label-store_of Δ ls w =
    let left : 2 + 2 * w ≡ suc (suc (2 * w)) = omega arith in
    let right : 3 + 2 * w ≡ suc (suc (suc (2 * w))) = omega arith in
    rw (left, right) (λ i. ((words_at ls w).0 i, (words_at ls w).1 i))

words_put : (ls : List Label) (w a b : ℕ)
    → set (set (flat_map label_words ls) (2 * w) a) (suc (2 * w)) b ≡ flat_map label_words (set ls w (a, b))
words_put [] w a b = refl
words_put (l ∷ ls) zero a b = refl
words_put (l ∷ ls) (suc w) a b = rw (mul-suc, add-two) (ap (λ r. l.0 ∷ l.1 ∷ r) (words_put ls w a b))

pub without_label-store_of : (Δ : Label) (ls : List Label) (w : ℕ) → without_label (store_of Δ ls) w ≡ store_of Δ (set ls w (0, 0))
without_label-store_of Δ ls w =
    let left : 2 + 2 * w ≡ suc (suc (2 * w)) = omega arith in
    let right : 3 + 2 * w ≡ suc (suc (suc (2 * w))) = omega arith in
    rw (left, right) (ap (λ r. Δ.0 ∷ Δ.1 ∷ r) (words_put ls w 0 0))
