-- A sheet gives back what it shows, and a label written on it is shown besides the others.
use Rattle.std.proofs.Common.{◌≡◌, ℕ, zero, suc, ◌+◌, ◌*◌, ◌^◌, ◌<◌, ◌≢◌, List, ◌∷◌, ◌++◌, map, length, get_or, take, drop, set, replicate, Some, None, Option, sym, refl, ap, ◌∙◌, add-zero, add_assoc, zero-add, arith, length-append}
use lib.Seq.{take-append-add, drop-append-add}
use Rattle.std.specs.List.{range_with_len, flat_map}
use Rattle.std.proofs.lemmas.List.FromFn.{length-map-range_with_len}
use Rattle.std.proofs.lemmas.List.{append_assoc, length-map, length-set, map-set, set-append_left, get_or-map, get_or_append_left, get_or-append-add, replicate-append-replicate}
use Rattle.slices.specs.Little.{short_bytes, word_bytes, word_at}
use Rattle.label.specs.Labels.{Label, label_bytes, label_at}
use Rattle.ledger.specs.Sheet.{blank_sheet, mark_byte, shown_bytes, shown_below, sheet_of, sheet_inputs, mark_on, label_on, with_label}
use Rattle.slices.proofs.Widths.{length-joined}
use Rattle.ledger.proofs.Chunks.{chunk_at, chunk_put}
use Rattle.ledger.proofs.Points.{point_at, point_put}

wide : (o : Option Label) → length (shown_bytes o) ≡ 16
wide None = refl
wide (Some l) = refl

length-shown : (m : ℕ) (shown : ℕ → Option Label) → length (shown_below m shown) ≡ m
length-shown m shown = length-map-range_with_len shown 0 m

pub length-sheet_of : (m : ℕ) (shown : ℕ → Option Label) → length (sheet_of m shown) ≡ 2 + 17 * m
length-sheet_of m shown =
    let os : List (Option Label) = shown_below m shown in
    let n = length-shown m shown in
    let a = length-map os mark_byte in
    let b = length-joined shown_bytes 16 wide os in
    let all = length-append (map mark_byte os) (flat_map shown_bytes os) in
    omega arith

-- With no label shown it is blank.
no_marks : (a n : ℕ) → map mark_byte (map (λ w. None) (range_with_len a n)) ≡ replicate n 0
no_marks a zero = refl
no_marks a (suc n) = ap (λ r. 0 ∷ r) (no_marks (a + 1) n)

no_labels : (a n : ℕ) → flat_map shown_bytes (map (λ w. None) (range_with_len a n)) ≡ replicate (16 * n) 0
no_labels a zero = refl
no_labels a (suc n) =
    let more : 16 * suc n ≡ 16 + 16 * n = omega arith in
    rw more (ap (λ r. replicate 16 0 ++ r) (no_labels (a + 1) n) ∙ replicate-append-replicate 16 (16 * n) 0)

pub blank_shows_none : (m : ℕ) → blank_sheet m ≡ sheet_of m (λ w. None)
blank_shows_none m =
    let parts : 17 * m ≡ m + 16 * m = omega arith in
    rw (parts, no_marks 0 m, no_labels 0 m) (ap (λ r. short_bytes m ++ r) (sym (replicate-append-replicate m (16 * m) 0)))

-- the mark set and the bytes written, behind the two bytes of the number
body_put : (os : List (Option Label)) (m w : ℕ) (l : Label) → length os ≡ m → w < m
    → (let B : List ℕ = set (map mark_byte os ++ flat_map shown_bytes os) w 1 in
    take (m + 16 * w) B ++ (label_bytes l ++ drop (m + 16 * w + 16) B))
    ≡ map mark_byte (set os w (Some l)) ++ flat_map shown_bytes (set os w (Some l))
body_put os m w l len below =
    let inside : w < length (map mark_byte os) = (let a = length-map os mark_byte in omega arith) in
    let ms : List ℕ = map mark_byte (set os w (Some l)) in
    let count : length ms ≡ m = length-map (set os w (Some l)) mark_byte ∙ length-set os w (Some l) ∙ len in
    let marked : set (map mark_byte os ++ flat_map shown_bytes os) w 1 ≡ ms ++ flat_map shown_bytes os =
    set-append_left (map mark_byte os) (flat_map shown_bytes os) w 1 inside ∙ ap (λ r. r ++ flat_map shown_bytes os) (sym (map-set mark_byte os w (Some l))) in
    let start : m + 16 * w ≡ length ms + 16 * w = ap (λ n. n + 16 * w) (sym count) in
    let end : m + 16 * w + 16 ≡ length ms + (16 * w + 16) = omega (arith, count) in
    let room : w < length os = omega arith in
    rw (marked, end, start, take-append-add, drop-append-add, append_assoc)
    (ap (λ r. ms ++ r) (chunk_put shown_bytes 16 wide os w (Some l) room))

-- A label written is shown, and the others still are.
pub with_label-sheet_of : (m : ℕ) (shown shown' : ℕ → Option Label) (w : ℕ) (l : Label) → w < m → shown' w ≡ Some l
    → ((v : ℕ) → v ≢ w → shown' v ≡ shown v) → with_label m (sheet_of m shown) w l ≡ sheet_of m shown'
with_label-sheet_of m shown shown' w l below here other =
    let mark : 2 + w ≡ suc (suc w) = omega arith in
    let start : 2 + m + 16 * w ≡ suc (suc (m + 16 * w)) = omega arith in
    let end : 2 + m + 16 * w + 16 ≡ suc (suc (m + 16 * w + 16)) = omega arith in
    rw (mark, end, start)
    (ap (λ r. short_bytes m ++ r) (body_put (shown_below m shown) m w l (length-shown m shown) below
    ∙ ap (λ os. map mark_byte os ++ flat_map shown_bytes os) (point_put shown shown' m w (Some l) below here other)))

-- The number of inputs is read back.
pub sheet_inputs-sheet_of : (m : ℕ) (shown : ℕ → Option Label) → m < 65536 → sheet_inputs (sheet_of m shown) ≡ m
sheet_inputs-sheet_of m shown small = omega arith

-- A mark says whether a label is shown.
pub mark_on-sheet_of : (m : ℕ) (shown : ℕ → Option Label) (w : ℕ) → w < m → mark_on (sheet_of m shown) w ≡ mark_byte (shown w)
mark_on-sheet_of m shown w below =
    let os : List (Option Label) = shown_below m shown in
    let len = length-shown m shown in
    let inside : w < length (map mark_byte os) = (let a = length-map os mark_byte in omega arith) in
    let room : w < length os = omega arith in
    let mark : 2 + w ≡ suc (suc w) = omega arith in
    rw mark (get_or_append_left (map mark_byte os) (flat_map shown_bytes os) 0 w inside ∙ get_or-map mark_byte os w None 0 room
    ∙ ap mark_byte (point_at shown m w None below))

-- The bytes in the room of wire w.
room_at : (m : ℕ) (shown : ℕ → Option Label) (w i : ℕ) → w < m → i < 16
    → get_or (sheet_of m shown) (2 + m + 16 * w + i) 0 ≡ get_or (shown_bytes (shown w)) i 0
room_at m shown w i below inside =
    let os : List (Option Label) = shown_below m shown in
    let len = length-shown m shown in
    let count : length (map mark_byte os) ≡ m = length-map os mark_byte ∙ len in
    let room : w < length os = omega arith in
    let place : 2 + m + 16 * w + i ≡ suc (suc (length (map mark_byte os) + (16 * w + i))) = omega (arith, count) in
    rw place (get_or-append-add (map mark_byte os) (flat_map shown_bytes os) (16 * w + i) 0
    ∙ chunk_at shown_bytes 16 wide os w i 0 None room inside
    ∙ ap (λ o. get_or (shown_bytes o) i 0) (point_at shown m w None below))

-- A label is read by its 16 bytes.
same_word : (s t : List ℕ) (p q : ℕ) → ((i : ℕ) → i < 8 → get_or s (p + i) 0 ≡ get_or t (q + i) 0) → word_at s p ≡ word_at t q
same_word s t p q h =
    let first : get_or s p 0 ≡ get_or t q 0 = (let e : get_or s (p + 0) 0 ≡ get_or t (q + 0) 0 = h 0 (omega arith) in simp add-zero at e) in
    λ i. first i + h 1 (omega arith) i * 256 + h 2 (omega arith) i * 65536 + h 3 (omega arith) i * 16777216
    + h 4 (omega arith) i * 4294967296 + h 5 (omega arith) i * 1099511627776 + h 6 (omega arith) i * 281474976710656
    + h 7 (omega arith) i * 72057594037927936

label_in_lem : (m : ℕ) (shown : ℕ → Option Label) (w : ℕ) → w < m → label_on m (sheet_of m shown) w ≡ label_at (shown_bytes (shown w)) 0
label_in_lem m shown w below =
    let s : List ℕ = sheet_of m shown in
    let t : List ℕ = shown_bytes (shown w) in
    let p : ℕ = 2 + m + 16 * w in
    let left : word_at s p ≡ word_at t 0 = same_word s t p 0 (λ i h. room_at m shown w i below (omega arith) ∙ ap (λ n. get_or t n 0) (sym (zero-add i))) in
    let right : word_at s (p + 8) ≡ word_at t 8 = same_word s t (p + 8) 8 (λ i h. rw (add_assoc p 8 i) (room_at m shown w (8 + i) below (omega arith))) in
    λ i. (left i, right i)

word_back : (x : ℕ) → x < 2 ^ 64 → word_at (word_bytes x) 0 ≡ x
word_back x h = omega arith

-- A label that is shown is read back, and where none is, zero.
pub label_on-shown : (m : ℕ) (shown : ℕ → Option Label) (w : ℕ) (l : Label) → w < m → shown w ≡ Some l → l.0 < 2 ^ 64 → l.1 < 2 ^ 64
    → label_on m (sheet_of m shown) w ≡ l
label_on-shown m shown w l below is left right =
    label_in_lem m shown w below ∙ ap (λ o. label_at (shown_bytes o) 0) is ∙ (λ i. (word_back l.0 left i, word_back l.1 right i))

pub label_on-blank : (m : ℕ) (shown : ℕ → Option Label) (w : ℕ) → w < m → shown w ≡ None → label_on m (sheet_of m shown) w ≡ (0, 0)
label_on-blank m shown w below is = label_in_lem m shown w below ∙ ap (λ o. label_at (shown_bytes o) 0) is
