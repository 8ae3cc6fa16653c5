-- From eight values to five numbers and back, over any group: one text for halves of labels and for control pairs.
use Rattle.std.specs.Prelude.{Bool, true, false, cond, List, [], ◌∷◌, map, get_or}
use Rattle.label.specs.Sums.{Group, ◌⊻◌}

pub record Five (E : Type 0) : Type 0 where
  pub n1 : E
  pub n2 : E
  pub n3 : E
  pub n4 : E
  pub n5 : E

-- The answers for the first label, the second, and their sum, by colour.
pub record Six (E : Type 0) : Type 0 where
  pub a0 : E
  pub a1 : E
  pub b0 : E
  pub b1 : E
  pub s0 : E
  pub s1 : E

abbrev pub answer_a : {E : Type 0} → Six E → Bool → E
answer_a w i = cond i w.a1 w.a0

abbrev pub answer_b : {E : Type 0} → Six E → Bool → E
answer_b w j = cond j w.b1 w.b0

abbrev pub answer_s : {E : Type 0} → Six E → Bool → E
answer_s w k = cond k w.s1 w.s0

module _ (X : Group) where
  infixl 60 ◌⊕◌
  abbrev ◌⊕◌ : X.El → X.El → X.El
  a ⊕ b = X.◌⊕◌ a b

  -- Five numbers, from a left and a right value at each pair of colours.
  abbrev pub five : (Bool → Bool → X.El) → (Bool → Bool → X.El) → Five X.El
  five L R = record {
    n1 = L false false;
    n2 = R false false;
    n3 = L false false ⊕ R false false ⊕ L true false ⊕ R true false;
    n4 = L false false ⊕ R false false ⊕ L false true ⊕ R false true;
    n5 = L true false ⊕ L true true;
  }

  -- What the server adds on the left and on the right, at a pair of colours.
  abbrev pub back_left : Five X.El → Bool → Bool → X.El
  back_left n false false = n.n1
  back_left n false true = n.n1 ⊕ n.n5
  back_left n true false = n.n1 ⊕ n.n3 ⊕ n.n5
  back_left n true true = n.n1 ⊕ n.n3

  abbrev pub back_right : Five X.El → Bool → Bool → X.El
  back_right n false false = n.n2
  back_right n false true = n.n2 ⊕ n.n4 ⊕ n.n5
  back_right n true false = n.n2 ⊕ n.n5
  back_right n true true = n.n2 ⊕ n.n4

  -- The eight values: on the left the answers for A and S, on the right those for B and S, each with something added.
  abbrev pub left_of : Six X.El → (Bool → Bool → X.El) → Bool → Bool → X.El
  left_of w K i j = answer_a w i ⊕ answer_s w (i ⊻ j) ⊕ K i j

  abbrev pub right_of : Six X.El → (Bool → Bool → X.El) → Bool → Bool → X.El
  right_of w M i j = answer_b w j ⊕ answer_s w (i ⊻ j) ⊕ M i j

  abbrev pub mixed : Six X.El → (Bool → Bool → X.El) → (Bool → Bool → X.El) → Five X.El
  mixed w K M = five (left_of w K) (right_of w M)

  -- The code's arrays: four values at colours 00, 01, 10 and 11; five numbers; six answers.
  abbrev pub value_in : List X.El → Bool → Bool → X.El
  value_in vs i j = get_or vs (cond i (cond j 3 2) (cond j 1 0)) X.o

  -- The same of four pairs of values: their left parts, and their right ones.
  abbrev pub left_in : List (X.El × X.El) → Bool → Bool → X.El
  left_in vs = value_in (map (λ (v : X.El × X.El). v.0) vs)

  abbrev pub right_in : List (X.El × X.El) → Bool → Bool → X.El
  right_in vs = value_in (map (λ (v : X.El × X.El). v.1) vs)

  abbrev pub five_in : List X.El → Five X.El
  five_in ns = record { n1 = get_or ns 0 X.o; n2 = get_or ns 1 X.o; n3 = get_or ns 2 X.o; n4 = get_or ns 3 X.o; n5 = get_or ns 4 X.o }

  abbrev pub six_in : List X.El → Six X.El
  six_in ws = record { a0 = get_or ws 0 X.o; a1 = get_or ws 1 X.o; b0 = get_or ws 2 X.o; b1 = get_or ws 3 X.o; s0 = get_or ws 4 X.o; s1 = get_or ws 5 X.o }

abbrev pub listed : {E : Type 0} → Five E → List E
listed n = n.n1 ∷ n.n2 ∷ n.n3 ∷ n.n4 ∷ n.n5 ∷ []
