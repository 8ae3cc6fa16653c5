-- An array made by calls of a function that keeps nothing, at one index after the other.
use Rattle.std.proofs.Common.{◌≡◌, ℕ, zero, suc, ◌+◌, ◌<◌, List, map, get_or, refl, sym, subst, ap, ◌∙◌, arith}
use denote.Param.Members.{Mut, Called}
use Rattle.std.specs.Array.{IsFromFnResult, IsFromFnResultFrom}
use Rattle.std.specs.List.{range_with_len}
use Rattle.std.proofs.lemmas.List.FromFn.{fill_by_all}

module _ {F B : Type 0} (g : Mut F (ℕ × Unit {0}) B) (f : F) (h : ℕ → B) (n : ℕ) (d : B) (gives : (i : ℕ) (y : B) (q : F) → i < n → Called g f (i, tt) y q → y ≡ h i) (keeps : (i : ℕ) (y : B) (q : F) → i < n → Called g f (i, tt) y q → q ≡ f) where
  each : (m i : ℕ) (p : F) (ys : List B) → i + m ≡ n → p ≡ f → IsFromFnResultFrom g p ys i m → (k j : ℕ) → k < m → j ≡ i + k → get_or ys j d ≡ h j
  each zero i p ys end e t k j below at = absurd (omega arith)
  each (suc m) i p ys end e t zero j below at =
      let here : j ≡ i = omega arith in
      ap (λ (v : ℕ). get_or ys v d) here
      ∙ t.2.1 d
      ∙ gives i t.1 t.0 (omega arith) (subst (λ (x : F). Called g x (i, tt) t.1 t.0) e t.3)
      ∙ ap h (sym here)
  each (suc m) i p ys end e t (suc k) j below at =
      let same = keeps i t.1 t.0 (omega arith) (subst (λ (x : F). Called g x (i, tt) t.1 t.0) e t.3) in
      each m (i + 1) t.0 ys (omega arith) same t.4 k j (omega arith) (omega arith)

  pub made_by : (ys : List B) → IsFromFnResult g f ys n → ys ≡ map h (range_with_len 0 n)
  made_by ys t = fill_by_all h ys n d t.long (λ k below. each n 0 f ys (omega arith) refl t.each k k below (omega arith))
