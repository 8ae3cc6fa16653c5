-- Functions of the wires that a test picks: where they agree on the wires picked, their lists are equal.
use Rattle.std.proofs.Common.{◌≡◌, ℕ, zero, suc, ◌<◌, ◌≤◌, Bool, true, false, cond, List, [], ◌∷◌, ◌++◌, map, length, get_or, sym, refl, ap, ◌∙◌, inl, inr, arith}
use Rattle.std.specs.List.{flat_map}
use Rattle.std.proofs.lemmas.List.{map-append, get_or_append_left, get_or_push, length-append, length-map}
use Rattle.std.proofs.lemmas.Bool.{cases_lt, cases_Bool}
use Rattle.wires.specs.Wires.{wires_where}
use Rattle.wires.proofs.Scans.{count_below}
use Rattle.circuit_laws.specs.Chance.{Each}

-- Tests that agree below n pick the same wires.
pub where_same : (p q : ℕ → Bool) (n : ℕ) → ((w : ℕ) → w < n → p w ≡ q w) → wires_where p n ≡ wires_where q n
unfolding wires_where
where_same p q zero same = refl
where_same p q (suc n) same = λ i. where_same p q n (λ w below. same w (omega arith)) i ++ cond (same n (omega arith) i) (n ∷ []) []

each_append : {X : Type 0} (P : X → Type 0) (xs ys : List X) → Each P xs → Each P ys → Each P (xs ++ ys)
each_append P [] ys hs gs = gs
each_append P (x ∷ xs) ys (h, hs) gs = (h, each_append P xs ys hs gs)

each_more : {X : Type 0} (P Q : X → Type 0) → ((x : X) → P x → Q x) → (xs : List X) → Each P xs → Each Q xs
each_more P Q more [] hs = tt
each_more P Q more (x ∷ xs) (h, hs) = (more x h, each_more P Q more xs hs)

-- The wires picked lie below n and pass the test.
pub each_where : (p : ℕ → Bool) (n : ℕ) → Each (λ w. (w < n) × (p w ≡ true)) (wires_where p n)
unfolding wires_where
each_where p zero = tt
each_where p (suc n) =
    each_append _ (wires_where p n) _ (each_more _ _ (λ w h. (omega (arith, h.0), h.1)) (wires_where p n) (each_where p n)) (last (p n) refl)
  where
    last : (b : Bool) → p n ≡ b → Each (λ w. (w < suc n) × (p w ≡ true)) (cond b (n ∷ []) [])
    last true picked = ((omega arith, picked), tt)
    last false passed = tt

map_each : {X Y : Type 0} (P : X → Type 0) (F G : X → Y) → ((x : X) → P x → F x ≡ G x) → (xs : List X) → Each P xs → map F xs ≡ map G xs
map_each P F G same [] hs = refl
map_each P F G same (x ∷ xs) (h, hs) = λ i. same x h i ∷ map_each P F G same xs hs i

joined-each : {X Y : Type 0} (P : X → Type 0) (F G : X → List Y) → ((x : X) → P x → F x ≡ G x) → (xs : List X) → Each P xs → flat_map F xs ≡ flat_map G xs
joined-each P F G same [] hs = refl
joined-each P F G same (x ∷ xs) (h, hs) = λ i. same x h i ++ joined-each P F G same xs hs i

module _ (p : ℕ → Bool) (n : ℕ) where
  pub map-where : {Y : Type 0} (F G : ℕ → Y) → ((w : ℕ) → w < n → p w ≡ true → F w ≡ G w) → map F (wires_where p n) ≡ map G (wires_where p n)
  map-where F G same = map_each _ F G (λ w h. same w h.0 h.1) (wires_where p n) (each_where p n)

  pub joined-where : {Y : Type 0} (F G : ℕ → List Y) → ((w : ℕ) → w < n → p w ≡ true → F w ≡ G w)
      → flat_map F (wires_where p n) ≡ flat_map G (wires_where p n)
  joined-where F G same = joined-each _ F G (λ w h. same w h.0 h.1) (wires_where p n) (each_where p n)

-- What is made of each, in turn, is made of them all.
pub map-joined : {X Y Z : Type 0} (F : Y → Z) (G : X → List Y) (xs : List X) → map F (flat_map G xs) ≡ flat_map (λ x. map F (G x)) xs
map-joined F G [] = refl
map-joined F G (x ∷ xs) = map-append F (G x) (flat_map G xs) ∙ ap (λ l. map F (G x) ++ l) (map-joined F G xs)

-- A wire that is picked has its place among them.
pub get_or-where : {Y : Type 0} (p : ℕ → Bool) (F : ℕ → Y) (n w : ℕ) (z : Y) → w < n → p w ≡ true
    → get_or (map F (wires_where p n)) (length (wires_where p w)) z ≡ F w
unfolding wires_where
get_or-where p F zero w z below picked = absurd (omega arith)
get_or-where p F (suc n) w z below picked = elim (cases_lt w n) [
  | inl lower ↦
      ap (λ (l : List _). get_or l (length (wires_where p w)) z) (map-append F (wires_where p n) _)
      ∙ get_or_append_left (map F (wires_where p n)) _ z (length (wires_where p w)) (rw (length-map (wires_where p n) F) (count_below p w n lower picked))
      ∙ get_or-where p F n w z lower picked
  | inr here ↦
      let same : w ≡ n = omega arith in
      ap (λ (l : List _). get_or l (length (wires_where p w)) z) (map-append F (wires_where p n) _)
      ∙ (λ i. get_or (map F (wires_where p n) ++ map F (cond ((sym (ap p same) ∙ picked) i) (n ∷ []) [])) (length (wires_where p (same i))) z)
      ∙ get_or_push (map F (wires_where p n)) (F n) z (length (wires_where p n)) (length-map (wires_where p n) F)
      ∙ ap F (sym same)
]

-- And what stands at a place is a wire that is picked there.
pub where_at : (p : ℕ → Bool) (n k : ℕ) → k < length (wires_where p n)
    → (w : ℕ) × (get_or (wires_where p n) k 0 ≡ w) × (w < n) × (p w ≡ true) × (length (wires_where p w) ≡ k)
unfolding wires_where
where_at p zero k less = absurd (omega arith)
where_at p (suc n) k less = elim (cases_lt k (length (wires_where p n))) [
  | inl before ↦
      let r = where_at p n k before in
      (r.0, get_or_append_left (wires_where p n) (cond (p n) (n ∷ []) []) 0 k before ∙ r.1, (let b = r.2 in omega arith), r.3, r.4)
  | inr after ↦ last (p n) refl after less
]
  where
    last : (b : Bool) → p n ≡ b → length (wires_where p n) ≤ k → k < length (wires_where p n ++ cond b (n ∷ []) [])
        → (w : ℕ) × (get_or (wires_where p n ++ cond b (n ∷ []) []) k 0 ≡ w) × (w < suc n) × (p w ≡ true) × (length (wires_where p w) ≡ k)
    last true picked after less =
        let whole = length-append (wires_where p n) (n ∷ []) in
        let here : length (wires_where p n) ≡ k = omega arith in
        (n, get_or_push (wires_where p n) n 0 k here, omega arith, picked, here)
    last false passed after less = absurd (let whole = length-append (wires_where p n) [] in omega arith)

-- Where none is picked, none passes the test.
pub none_where : (p : ℕ → Bool) (n : ℕ) → wires_where p n ≡ [] → (w : ℕ) → w < n → p w ≡ false
none_where p n none w below = elim (cases_Bool (p w)) [
  | inl picked ↦ absurd (let less = count_below p w n below picked in let empty : length (wires_where p n) ≡ 0 = ap length none in omega arith)
  | inr passed ↦ passed
]

pub map-map : {X Y Z : Type 0} (F : Y → Z) (G : X → Y) (xs : List X) → map F (map G xs) ≡ map (λ x. F (G x)) xs
map-map F G [] = refl
map-map F G (x ∷ xs) = ap (λ l. F (G x) ∷ l) (map-map F G xs)
