-- The labels kept in the work words, laid out as the store lays them out.
use Rattle.std.proofs.Common.{◌≡◌, ℕ, zero, suc, ◌+◌, ◌*◌, ◌≤◌, List, [], ◌∷◌, ◌++◌, map, length, get_or, take, sym, refl, ap, ◌∙◌, arith}
use Rattle.std.specs.List.{range_with_len, flat_map}
use Rattle.std.proofs.lemmas.List.FromFn.{take-map-range_with_len, map-range_with_len_more}
use Rattle.std.proofs.lemmas.List.{take_more, flat_map_more, append_assoc}
use Rattle.label.specs.Labels.{Label}
use Rattle.garbling.specs.Words.{kept_at, labels_kept}
use Rattle.ledger.specs.Store.{label_words}

-- The words of the wires below k.
words_kept : (ws : List ℕ) (k : ℕ) → 2 * k ≤ length ws → take (2 * k) ws ≡ flat_map label_words (labels_kept ws k)
unfolding labels_kept
words_kept ws zero room = refl
words_kept ws (suc k) room =
    let two : 2 * suc k ≡ 2 * k + 1 + 1 = omega arith in
    let more : suc k ≡ k + 1 = omega arith in
    ap (λ n. take n ws) two
    ∙ take_more ws (2 * k + 1) 0 (omega arith)
    ∙ ap (λ xs. xs ++ (get_or ws (2 * k + 1) 0 ∷ [])) (take_more ws (2 * k) 0 (omega arith))
    ∙ append_assoc (take (2 * k) ws) (get_or ws (2 * k) 0 ∷ []) (get_or ws (2 * k + 1) 0 ∷ [])
    ∙ ap (λ xs. xs ++ label_words (kept_at ws k)) (words_kept ws k (omega arith))
    ∙ flat_map_more label_words [] (map (kept_at ws) (range_with_len 0 k)) (kept_at ws k)
    ∙ ap (flat_map label_words) (sym (map-range_with_len_more (kept_at ws) 0 k k (omega arith)) ∙ ap (λ n. map (kept_at ws) (range_with_len 0 n)) (sym more))

kept_front : (ws : List ℕ) (k n : ℕ) → k ≤ n → labels_kept ws k ≡ take k (labels_kept ws n)
unfolding labels_kept
kept_front ws k n within = sym (take-map-range_with_len (kept_at ws) 0 n k within)

pub stored : (ws : List ℕ) (m n : ℕ) (ls : List Label) → labels_kept ws n ≡ ls → m ≤ n → 2 * n ≤ length ws
    → take (2 * m) ws ≡ flat_map label_words (take m ls)
stored ws m n ls kept within room =
    words_kept ws m (omega arith) ∙ ap (flat_map label_words) (kept_front ws m n within ∙ ap (take m) kept)
