-- Questions to a hash, and what it means that they were asked one after the other.
use Rattle.std.specs.Prelude.{ℕ, List, [], ◌∷◌, ◌≡◌}
use Rattle.label.specs.declared.hash.Answer.{Answer}
use Rattle.label.specs.Labels.{Label}

-- What a hash is: an answer for each label and tweak.
abbrev pub HashFunction : Type 0
HashFunction = Label → ℕ → Answer

-- A question: the label and the tweak.
abbrev pub Question : Type 0
Question = Label × ℕ

-- From the state h the questions, in this order and no other, lead to the state k. One is asked where `asks before label tweak after`.
abbrev pub Asked : {H : Type 0} → (H → Label → ℕ → H → Type 0) → List Question → H → H → Type 0
Asked asks [] h k = k ≡ h
Asked {H} asks (q ∷ qs) h k = (i : H) × asks h q.0 q.1 i × Asked asks qs i k
