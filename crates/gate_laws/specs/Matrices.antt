-- The scheme as matrices over 0 and 1, written out, and that the sums of a gate are these matrices.
use Rattle.std.specs.Prelude.{◌≡◌, ℕ, Bool, true, false, cond, List, [], ◌∷◌, map, ◌==◌, bit_xor}
use Rattle.label.specs.Sums.{Group}
use Rattle.gate.specs.declared.views.Parity.{Parity}
use Rattle.gate.specs.declared.views.Truth.{Truth}
use Rattle.gate.specs.declared.views.Dice.{Dice}
use Rattle.gate.specs.declared.views.View.{View}
use Rattle.gate.specs.Views.{a_of, b_of, parity_of, if_hidden, view_at}
use Rattle.gate.specs.Numbers.{Five, Six, five, back_left, back_right, left_of, right_of, listed}
use Rattle.gate.specs.Sums.{LabelOver, view_left, view_right, coded_left, coded_right}

-- A matrix is a list of its rows, each a list of zeros and ones.
abbrev pub Matrix : Type 0
Matrix = List (List ℕ)

-- Which of the five numbers make up each of the eight values: left and right at colours 00, then 01, 10 and 11.
abbrev pub V : Matrix
V =
    (1 ∷ 0 ∷ 0 ∷ 0 ∷ 0 ∷ [])
    ∷ (0 ∷ 1 ∷ 0 ∷ 0 ∷ 0 ∷ [])
    ∷ (1 ∷ 0 ∷ 0 ∷ 0 ∷ 1 ∷ [])
    ∷ (0 ∷ 1 ∷ 0 ∷ 1 ∷ 1 ∷ [])
    ∷ (1 ∷ 0 ∷ 1 ∷ 0 ∷ 1 ∷ [])
    ∷ (0 ∷ 1 ∷ 0 ∷ 0 ∷ 1 ∷ [])
    ∷ (1 ∷ 0 ∷ 1 ∷ 0 ∷ 0 ∷ [])
    ∷ (0 ∷ 1 ∷ 0 ∷ 1 ∷ 0 ∷ [])
    ∷ []

-- Which of the eight values make up each of the five numbers.
abbrev pub left_inverse : Matrix
left_inverse =
    (1 ∷ 0 ∷ 0 ∷ 0 ∷ 0 ∷ 0 ∷ 0 ∷ 0 ∷ [])
    ∷ (0 ∷ 1 ∷ 0 ∷ 0 ∷ 0 ∷ 0 ∷ 0 ∷ 0 ∷ [])
    ∷ (1 ∷ 1 ∷ 0 ∷ 0 ∷ 1 ∷ 1 ∷ 0 ∷ 0 ∷ [])
    ∷ (1 ∷ 1 ∷ 1 ∷ 1 ∷ 0 ∷ 0 ∷ 0 ∷ 0 ∷ [])
    ∷ (0 ∷ 0 ∷ 0 ∷ 0 ∷ 1 ∷ 0 ∷ 1 ∷ 0 ∷ [])
    ∷ []

-- Which of the six answers stand in each of the eight values: those for A at colours 0 and 1, for B, and for their sum.
abbrev pub M : Matrix
M =
    (1 ∷ 0 ∷ 0 ∷ 0 ∷ 1 ∷ 0 ∷ [])
    ∷ (0 ∷ 0 ∷ 1 ∷ 0 ∷ 1 ∷ 0 ∷ [])
    ∷ (1 ∷ 0 ∷ 0 ∷ 0 ∷ 0 ∷ 1 ∷ [])
    ∷ (0 ∷ 0 ∷ 0 ∷ 1 ∷ 0 ∷ 1 ∷ [])
    ∷ (0 ∷ 1 ∷ 0 ∷ 0 ∷ 0 ∷ 1 ∷ [])
    ∷ (0 ∷ 0 ∷ 1 ∷ 0 ∷ 0 ∷ 1 ∷ [])
    ∷ (0 ∷ 1 ∷ 0 ∷ 0 ∷ 1 ∷ 0 ∷ [])
    ∷ (0 ∷ 0 ∷ 0 ∷ 1 ∷ 1 ∷ 0 ∷ [])
    ∷ []

-- The basis of the views: what α, β, γ and ε add to the left and to the right half, of the halves AL, AR, BL, BR.
abbrev pub S1 : Matrix
S1 = (1 ∷ 1 ∷ 1 ∷ 0 ∷ []) ∷ (1 ∷ 0 ∷ 0 ∷ 1 ∷ []) ∷ []

abbrev pub S2 : Matrix
S2 = (1 ∷ 0 ∷ 0 ∷ 1 ∷ []) ∷ (0 ∷ 1 ∷ 1 ∷ 1 ∷ []) ∷ []

abbrev pub S3 : Matrix
S3 = (0 ∷ 0 ∷ 1 ∷ 0 ∷ []) ∷ (0 ∷ 0 ∷ 0 ∷ 0 ∷ []) ∷ []

abbrev pub S4 : Matrix
S4 = (0 ∷ 0 ∷ 0 ∷ 0 ∷ []) ∷ (0 ∷ 1 ∷ 0 ∷ 0 ∷ []) ∷ []

-- What a, b and the parity add to the five compressed controls: a and b to the low bits, the parity to the high ones.
abbrev pub by_a : List ℕ
by_a = 0 ∷ 0 ∷ 1 ∷ 0 ∷ 1 ∷ []

abbrev pub by_b : List ℕ
by_b = 0 ∷ 0 ∷ 0 ∷ 1 ∷ 1 ∷ []

abbrev pub by_parity : List ℕ
by_parity = 1 ∷ 1 ∷ 1 ∷ 1 ∷ 0 ∷ []

-- What the dice add: ρ1 and ρ2 to the low bits of the first two, γ0 and ε0 to their high bits.
abbrev pub by_rho1 : List ℕ
by_rho1 = 1 ∷ 0 ∷ 0 ∷ 0 ∷ 0 ∷ []

abbrev pub by_rho2 : List ℕ
by_rho2 = 0 ∷ 1 ∷ 0 ∷ 0 ∷ 0 ∷ []

abbrev pub identity : Matrix
identity =
    (1 ∷ 0 ∷ 0 ∷ 0 ∷ 0 ∷ [])
    ∷ (0 ∷ 1 ∷ 0 ∷ 0 ∷ 0 ∷ [])
    ∷ (0 ∷ 0 ∷ 1 ∷ 0 ∷ 0 ∷ [])
    ∷ (0 ∷ 0 ∷ 0 ∷ 1 ∷ 0 ∷ [])
    ∷ (0 ∷ 0 ∷ 0 ∷ 0 ∷ 1 ∷ [])
    ∷ []

-- Two lists added entry by entry; a list that is missing adds nothing.
abbrev pub added : {E : Type 0} → (E → E → E) → List E → List E → List E
added plus [] ys = ys
added plus (x ∷ xs) [] = x ∷ xs
added plus (x ∷ xs) (y ∷ ys) = plus x y ∷ added plus xs ys

-- The product of two matrices: each row adds up the rows of the second that it has ones for.
abbrev pub row_times : List ℕ → Matrix → List ℕ
row_times [] rows = []
row_times (k ∷ ks) [] = []
row_times (k ∷ ks) (row ∷ rows) = added bit_xor (map (λ n. cond (k == 1) n 0) row) (row_times ks rows)

abbrev pub product : Matrix → Matrix → Matrix
product a b = map (λ row. row_times row b) a

-- left_inverse is a left inverse of V, and what M makes of the answers lies in the space that V spans.
abbrev pub MatrixFacts : Type 0
MatrixFacts = (product left_inverse V ≡ identity) × (product V (product left_inverse M) ≡ M)

module _ (X : Group) where
  -- The product of a matrix with elements of a group.
  abbrev pub sum_by : List ℕ → List X.El → X.El
  sum_by [] xs = X.o
  sum_by (k ∷ ks) [] = X.o
  sum_by (k ∷ ks) (x ∷ xs) = X.◌⊕◌ (X.◌·◌ (k == 1) x) (sum_by ks xs)

  abbrev pub times : Matrix → List X.El → List X.El
  times a xs = map (λ row. sum_by row xs) a

  -- The eight values in a column.
  abbrev pub eight : (L R : Bool → Bool → X.El) → List X.El
  eight L R =
      L false false ∷ R false false ∷ L false true ∷ R false true ∷ L true false ∷ R true false ∷ L true true ∷ R true true ∷ []

  -- The six answers in a column.
  abbrev pub six_listed : Six X.El → List X.El
  six_listed w = w.a0 ∷ w.a1 ∷ w.b0 ∷ w.b1 ∷ w.s0 ∷ w.s1 ∷ []

  -- The five numbers are the left inverse times the eight values.
  abbrev pub NumbersByInverse : Type 0
  NumbersByInverse = (L R : Bool → Bool → X.El) → listed (five X L R) ≡ times left_inverse (eight L R)

  -- What the server adds at all colours is V times the five numbers.
  abbrev pub BackByV : Type 0
  BackByV = (n : Five X.El) → eight (back_left X n) (back_right X n) ≡ times V (listed n)

  -- The eight values are M times the answers, and what is added to them.
  abbrev pub ValuesByM : Type 0
  ValuesByM =
      (w : Six X.El) (K N : Bool → Bool → X.El)
      → eight (left_of X w K) (right_of X w N) ≡ added X.◌⊕◌ (times M (six_listed w)) (eight K N)

  -- A column times a bit, and a column of zeros and ones times an element.
  abbrev pub scaled : Bool → List X.El → List X.El
  scaled b xs = map (λ x. X.◌·◌ b x) xs

  abbrev pub spread : List ℕ → Bool → X.El → List X.El
  spread ks b x = map (λ k. X.◌·◌ (k == 1) (X.◌·◌ b x)) ks

  -- A view's value is the sum of the basis that its bits pick, times the halves of the labels.
  abbrev pub ViewsByBasis : Type 0
  ViewsByBasis =
      (v : View) (x y : LabelOver X)
      → let halves : List X.El = x.0 ∷ x.1 ∷ y.0 ∷ y.1 ∷ [] in
      view_left X v x y ∷ view_right X v x y ∷ []
      ≡ added X.◌⊕◌
      (added X.◌⊕◌ (scaled v.alpha (times S1 halves)) (scaled v.beta (times S2 halves)))
      (added X.◌⊕◌ (scaled v.gamma (times S3 halves)) (scaled v.epsilon (times S4 halves)))

  -- The compressed controls of the four views: low bits of ρ1, ρ2, a and b, and in a hidden gate high bits of γ0, ε0 and the parity.
  abbrev pub ControlsCompressed : Type 0
  ControlsCompressed =
      (c : Parity) (t : Truth) (d : Dice) (low high : X.El)
      → listed (five X (λ i j. coded_left X low high c (view_at c t d i j)) (λ i j. coded_right X low high c (view_at c t d i j)))
      ≡ added X.◌⊕◌
      (added X.◌⊕◌
      (added X.◌⊕◌ (spread by_rho1 d.rho1 low) (spread by_rho2 d.rho2 low))
      (added X.◌⊕◌ (spread by_a (a_of c t d) low) (spread by_b (b_of c t d) low)))
      (added X.◌⊕◌
      (added X.◌⊕◌ (spread by_rho1 (if_hidden c d.gamma0) high) (spread by_rho2 (if_hidden c d.epsilon0) high))
      (spread by_parity (if_hidden c (parity_of t)) high))
