-- Labels kept in words, two for each wire: reading one, and keeping the next.
use Rattle.std.proofs.Common.{◌≡◌, ℕ, ◌+◌, ◌*◌, ◌<◌, ◌≤◌, List, [], ◌∷◌, ◌++◌, map, length, get_or, set, refl, ap, ◌∙◌, arith, length-set}
use Rattle.std.specs.List.{range_with_len}
use Rattle.std.proofs.lemmas.List.FromFn.{get_or-map-range_with_len, length-map-range_with_len, map-range_with_len_more, fill_by_all}
use Rattle.std.proofs.lemmas.List.{get_or_past, get_or-set_same, get_or-set_other}
use Rattle.std.proofs.lemmas.Bool.{lt-ltb, cond-true}
use Rattle.label.specs.Labels.{Label}
use Rattle.garbling.specs.Words.{kept_at, labels_kept, keeping}
use Rattle.garbling.specs.Garbling.{label_in}

-- A wire below the end has its label, a further one none.
pub kept_inside : (ws : List ℕ) (n w : ℕ) → w < n → label_in (labels_kept ws n) w ≡ kept_at ws w
unfolding labels_kept
kept_inside ws n w below = get_or-map-range_with_len (kept_at ws) 0 n w w (0, 0) below (omega arith)

pub kept_outside : (ws : List ℕ) (n w : ℕ) → n ≤ w → label_in (labels_kept ws n) w ≡ (0, 0)
unfolding labels_kept
kept_outside ws n w past = get_or_past _ w (0, 0) (rw (length-map-range_with_len (kept_at ws) 0 n) past)

-- None are kept at first.
pub kept_none : (ws : List ℕ) → labels_kept ws 0 ≡ []
unfolding labels_kept
kept_none ws = refl

-- A word of a lower wire stays.
untouched : (ws : List ℕ) (w : ℕ) (l : Label) (k : ℕ) → k < 2 * w → get_or (set (set ws (2 * w) l.0) (2 * w + 1) l.1) k 0 ≡ get_or ws k 0
untouched ws w l k below =
    get_or-set_other (set ws (2 * w) l.0) (2 * w + 1) k l.1 0 (omega arith) ∙ get_or-set_other ws (2 * w) k l.0 0 (omega arith)

-- Keeping a label leaves those below as they were, and adds its own.
pub kept_more : (ws : List ℕ) (w : ℕ) (l : Label) → 2 * w + 1 < length ws
    → labels_kept (keeping ws w l) (w + 1) ≡ labels_kept ws w ++ (l ∷ [])
unfolding labels_kept
kept_more ws w l room =
    let vs : List ℕ = set (set ws (2 * w) l.0) (2 * w + 1) l.1 in
    let long : length (set ws (2 * w) l.0) ≡ length ws = length-set ws (2 * w) l.0 in
    let left : get_or vs (2 * w) 0 ≡ l.0 =
    get_or-set_other (set ws (2 * w) l.0) (2 * w + 1) (2 * w) l.1 0 (omega arith) ∙ get_or-set_same ws (2 * w) l.0 0 (omega arith) in
    let right : get_or vs (2 * w + 1) 0 ≡ l.1 = get_or-set_same (set ws (2 * w) l.0) (2 * w + 1) l.1 0 (omega (arith, long)) in
    let other : (k : ℕ) → k < w → kept_at vs k ≡ kept_at ws k =
    λ k below i. (untouched ws w l (2 * k) (omega arith) i, untouched ws w l (2 * k + 1) (omega arith) i) in
    let lower : map (kept_at vs) (range_with_len 0 w) ≡ map (kept_at ws) (range_with_len 0 w) =
    fill_by_all (kept_at ws) (map (kept_at vs) (range_with_len 0 w)) w (0, 0) (length-map-range_with_len (kept_at vs) 0 w)
    (λ k below. get_or-map-range_with_len (kept_at vs) 0 w k k (0, 0) below (omega arith) ∙ other k below) in
    ap (λ us. labels_kept us (w + 1)) (cond-true _ _ _ (lt-ltb (2 * w + 1) (length ws) room))
    ∙ map-range_with_len_more (kept_at vs) 0 w w (omega arith)
    ∙ (λ i. lower i ++ ((left i, right i) ∷ []))
