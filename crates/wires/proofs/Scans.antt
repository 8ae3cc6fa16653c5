-- Steps of the loops that go over the wires in rising order and pick some of them.
use Rattle.std.proofs.Common.{◌≡◌, ℕ, zero, suc, ◌+◌, ◌-◌, ◌<◌, ◌≤◌, Bool, true, false, cond, List, [], ◌∷◌, ◌++◌, Option, Some, None, map, length, get_or, take, set, sym, refl, ap, ◌∙◌, subst, add-zero, add-one, arith, length-append, append_assoc, inl, inr}
use Rattle.std.specs.List.{count_by, filter, range_with_len, enumerate_from}
use Rattle.std.specs.Iterator.{AlwaysYields}
use Rattle.std.proofs.lemmas.Bool.{cases_lt}
use Rattle.std.proofs.lemmas.Simd.{map-map}
use Rattle.std.proofs.lemmas.Iterator.{YieldsList}
use Rattle.std.proofs.lemmas.List.FromFn.{filter_of_map_range_with_len_more}
use Rattle.std.proofs.lemmas.List.Sums.{length-filter}
use Rattle.std.proofs.Math.Seq.{take-append-add, take-append_seam}
use Rattle.std.proofs.lemmas.List.{append-nil, get_or-append-add, length-map, map-id, length_push, map_push, take_all, take_more_set}
use Rattle.wires.specs.Wires.{wires_where}
use Rattle.wires.proofs.Bits.{number_small}

length-one_or_none : (b : Bool) (w : ℕ) → length (cond b (w ∷ []) []) ≡ cond b 1 0
length-one_or_none true w = refl
length-one_or_none false w = refl

-- One wire more is counted.
pub count_more : (p : ℕ → Bool) (w : ℕ) → length (wires_where p (w + 1)) ≡ length (wires_where p w) + cond (p w) 1 0
unfolding wires_where
count_more p w = rw (add-one, length-append) (ap (λ n. length (wires_where p w) + n) (length-one_or_none (p w) w))

-- A loop's count stays that of the wires picked so far.
pub count_step : (p : ℕ → Bool) (w n k : ℕ) → (n ≡ length (wires_where p w)) × (n ≤ w) → k ≡ n + cond (p w) 1 0
    → (k ≡ length (wires_where p (w + 1))) × (k ≤ w + 1)
count_step p w n k (counted, below) step =
    (step ∙ ap (λ i. i + cond (p w) 1 0) counted ∙ sym (count_more p w), omega (arith, step, number_small (p w)))

count_grows : (p : ℕ → Bool) (w k : ℕ) → length (wires_where p w) ≤ length (wires_where p (w + k))
count_grows p w zero = rw add-zero (omega arith)
count_grows p w (suc k) =
    let step = count_more p (w + k) in
    let same : w + suc k ≡ w + k + 1 = omega arith in
    rw same (omega (arith, step, count_grows p w k))

-- A wire that is picked has its place among all that are.
pub count_below : (p : ℕ → Bool) (w n : ℕ) → w < n → p w ≡ true → length (wires_where p w) < length (wires_where p n)
count_below p w n below picked =
    let whole : (w + 1) + (n - (w + 1)) ≡ n = omega arith in
    let one : length (wires_where p (w + 1)) ≡ length (wires_where p w) + 1 = count_more p w ∙ ap (λ b. length (wires_where p w) + cond b 1 0) picked in
    let rest = subst (λ k. length (wires_where p (w + 1)) ≤ length (wires_where p k)) whole (count_grows p (w + 1) (n - (w + 1))) in
    omega (arith, one, rest)

-- One wire more is picked, or passed over.
pub where_taken : (p : ℕ → Bool) (w : ℕ) → p w ≡ true → wires_where p (w + 1) ≡ wires_where p w ++ (w ∷ [])
unfolding wires_where
where_taken p w picked = rw (add-one, picked)

pub where_left : (p : ℕ → Bool) (w : ℕ) → p w ≡ false → wires_where p (w + 1) ≡ wires_where p w
unfolding wires_where
where_left p w passed = rw (add-one, passed, append-nil)

-- A chain that picks among all wires below n picks those that the test picks.
pub where_filtered : (p : ℕ → Bool) (n : ℕ) → filter p (range_with_len 0 n) ≡ wires_where p n
unfolding wires_where
where_filtered p zero = refl
where_filtered p (suc w) =
    let more = rw add-one at (filter_of_map_range_with_len_more p (λ i. i) 0 w w (omega arith)) in
    let ids = λ (k : ℕ). map-id (range_with_len 0 k) in
    sym (ap (filter p) (ids (suc w))) ∙ more ∙ ap (λ xs. filter p xs ++ cond (p w) (w ∷ []) []) (ids w)
    ∙ ap (λ xs. xs ++ cond (p w) (w ∷ []) []) (where_filtered p w)

-- The wires below n that a test picks, counted, are as many as it picks.
pub where_counted : (p : ℕ → Bool) (n : ℕ) → count_by p (range_with_len 0 n) ≡ length (wires_where p n)
where_counted p n = sym (length-filter p (range_with_len 0 n)) ∙ ap length (where_filtered p n)

-- A loop over the wires that a test picks, each with its number among them: those that came, and those to come.
abbrev pub Ahead : {S : Type 0} → (S → Option (ℕ × ℕ) → S → Type 0) → S → List ℕ → List (ℕ × ℕ) → Type 0
Ahead steps s all came =
    (rest : List ℕ) × YieldsList {B = ℕ × ℕ} steps (λ p. (p.0, p.1)) s (enumerate_from (length came) rest)
    × (map (λ (p : ℕ × ℕ). p.1) came ++ rest ≡ all)

-- At first none has come.
pub ahead_first : {S : Type 0} {steps : S → Option (ℕ × ℕ) → S → Type 0} {s : S} (p : ℕ → Bool) (n : ℕ)
    → YieldsList {B = ℕ × ℕ} steps (λ p. (p.0, p.1)) s (enumerate_from 0 (filter p (range_with_len 0 n))) → Ahead steps s (wires_where p n) []
ahead_first {steps = steps} {s = s} p n yields =
    (wires_where p n, subst (λ ws. YieldsList {B = ℕ × ℕ} steps (λ p. (p.0, p.1)) s (enumerate_from 0 ws)) (where_filtered p n) yields, refl)

-- The next one comes in its turn.
pub ahead_next : {S : Type 0} {steps : S → Option (ℕ × ℕ) → S → Type 0} {s t : S} {all : List ℕ} (came : List (ℕ × ℕ)) (k w : ℕ)
    → Ahead steps s all came → steps s (Some (k, w)) t
    → (k ≡ length came) × (length came < length all) × Ahead steps t all (came ++ ((k, w) ∷ []))
ahead_next came k w ([], yields, whole) step = absurd (yields.runs (k, w) _ step)
ahead_next {S} {steps} {s} {t} {all} came k w (x ∷ rest, yields, whole) step =
    let h = yields.runs.1 (k, w) _ step in
    let same : w ≡ x = ap (λ (p : ℕ × ℕ). p.1) h.0 in
    let done = map (λ (p : ℕ × ℕ). p.1) came in
    let long : length all ≡ length came + suc (length rest) = sym (ap length whole) ∙ length-append done (x ∷ rest) ∙ ap (λ n. n + suc (length rest)) (length-map came (λ (p : ℕ × ℕ). p.1)) in
    let turn = subst (λ n. AlwaysYields steps {B = ℕ × ℕ} (λ p. (p.0, p.1)) t (enumerate_from n rest)) (sym (length_push came (k, w))) h.1 in
    let more = ap (λ ws. ws ++ rest) (map_push (λ (p : ℕ × ℕ). p.1) came (k, w)) ∙ append_assoc done (w ∷ []) rest in (
      ap (λ (p : ℕ × ℕ). p.0) h.0,
      omega (arith, long),
      (rest, record { runs = turn }, more ∙ ap (λ y. done ++ (y ∷ rest)) same ∙ whole),
    )

-- After the last all have come.
pub ahead_end : {S : Type 0} {steps : S → Option (ℕ × ℕ) → S → Type 0} {s t : S} {all : List ℕ} (came : List (ℕ × ℕ))
    → Ahead steps s all came → steps s None t → map (λ (p : ℕ × ℕ). p.1) came ≡ all
ahead_end came ([], yields, whole) step = sym (append-nil _) ∙ whole
ahead_end came (x ∷ rest, yields, whole) step = absurd (yields.runs.0 _ step)

-- The loop has written f of each wire that came, at its number.
abbrev pub Written : {X : Type 0} → (ℕ → X) → List X → List (ℕ × ℕ) → Type 0
Written f os came = take (length came) os ≡ map (λ (p : ℕ × ℕ). f p.1) came

pub written_next : {X : Type 0} (f : ℕ → X) (os : List X) (came : List (ℕ × ℕ)) (k w : ℕ) (x : X)
    → Written f os came → k ≡ length came → length came < length os → x ≡ f w → Written f (set os k x) (came ++ ((k, w) ∷ []))
written_next f os came k w x so_far here room is =
    ap (λ n. take n (set os k x)) (length_push came (k, w)) ∙ (λ i. take (length came + 1) (set os (here i) x))
    ∙ take_more_set os (length came) x room ∙ (λ i. so_far i ++ (is i ∷ [])) ∙ sym (map_push (λ (p : ℕ × ℕ). f p.1) came (k, w))

pub written_end : {X : Type 0} (f : ℕ → X) (os : List X) (all : List ℕ) (came : List (ℕ × ℕ))
    → Written f os came → map (λ (p : ℕ × ℕ). p.1) came ≡ all → length os ≡ length all → os ≡ map f all
written_end f os all came so_far ended whole =
    let long : length os ≡ length came = whole ∙ sym (ap length ended) ∙ length-map came (λ (p : ℕ × ℕ). p.1) in
    sym (take_all (length came) os (omega (arith, long))) ∙ so_far ∙ sym (map-map f (λ (p : ℕ × ℕ). p.1) came) ∙ ap (map f) ended

none_below : (p : ℕ → Bool) → length (wires_where p zero) ≡ 0
unfolding wires_where
none_below p = refl

-- Those picked below a wire that is picked are those that stand before it.
pub where_before : (p : ℕ → Bool) (n w : ℕ) (done rest : List ℕ) → done ++ (w ∷ rest) ≡ wires_where p n → length (wires_where p w) ≡ length done
where_before p zero w done rest whole = absurd (omega (arith, ap length whole, length-append done (w ∷ rest), none_below p))
where_before p (suc m) w done rest whole = by_last (where_before p m w done) (p m) refl
  where
    by_last : ((others : List ℕ) → done ++ (w ∷ others) ≡ wires_where p m → length (wires_where p w) ≡ length done) → (b : Bool) → p m ≡ b → length (wires_where p w) ≡ length done
    by_last below false passed = below rest (whole ∙ rw add-one at (where_left p m passed))
    by_last below true picked =
        let ws : List ℕ = wires_where p m in
        let ended : done ++ (w ∷ rest) ≡ ws ++ (m ∷ []) = whole ∙ rw add-one at (where_taken p m picked) in
        let long : length done + suc (length rest) ≡ length ws + 1 = sym (length-append done (w ∷ rest)) ∙ ap length ended ∙ length_push ws m in
        elim (cases_lt (length done) (length ws)) [
          | inl less ↦
              let k = length ws - length done - 1 in
              let room : length ws ≡ length done + suc k = omega arith in
              let front : done ++ (w ∷ take k rest) ≡ ws =
              sym (take-append-add done (w ∷ rest) (suc k)) ∙ ap (λ i. take i (done ++ (w ∷ rest))) (sym room) ∙ ap (take (length ws)) ended ∙ take-append_seam ws (m ∷ []) in
              below (take k rest) front
          | inr more ↦
              let even : length done ≡ length ws = omega (arith, long) in
              let same : w ≡ m =
              sym (get_or-append-add done (w ∷ rest) 0 0) ∙ ap (λ i. get_or (done ++ (w ∷ rest)) (i + 0) 0) even
              ∙ ap (λ l. get_or l (length ws + 0) 0) ended ∙ get_or-append-add ws (m ∷ []) 0 0 in
              ap (λ v. length (wires_where p v)) same ∙ sym even
        ]

-- The next one's number is that of those picked below it.
pub ahead_number : {S : Type 0} {steps : S → Option (ℕ × ℕ) → S → Type 0} {s t : S} (p : ℕ → Bool) (n : ℕ) (came : List (ℕ × ℕ)) (k w : ℕ)
    → Ahead steps s (wires_where p n) came → steps s (Some (k, w)) t → k ≡ length (wires_where p w)
ahead_number p n came k w ([], yields, whole) step = absurd (yields.runs (k, w) _ step)
ahead_number p n came k w (x ∷ rest, yields, whole) step =
    let h = yields.runs.1 (k, w) _ step in
    let done = map (λ (q : ℕ × ℕ). q.1) came in
    let same : w ≡ x = ap (λ (q : ℕ × ℕ). q.1) h.0 in
    ap (λ (q : ℕ × ℕ). q.0) h.0 ∙ sym (length-map came (λ (q : ℕ × ℕ). q.1)) ∙ sym (where_before p n w done rest (ap (λ y. done ++ (y ∷ rest)) same ∙ whole))
