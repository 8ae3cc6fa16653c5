-- The first four words of a key schedule hold the key.
use Rattle.std.proofs.Common.{◌≡◌, ℕ, zero, suc, ◌+◌, ◌*◌, ◌<◌, List, [], ◌∷◌, ◌++◌, length, get_or, take, sym, refl, ap, ◌∙◌, lit<}
use Rattle.std.proofs.lemmas.List.FromFn.{fill_by_all}
use Rattle.aes.specs.Columns.{state_of}
use Rattle.aes.specs.Fips197.{bytes_of, key_word, next_word, schedule, key_expansion}
use Rattle.aes.proofs.Words.{bytes_word}

-- a schedule begins with the key's words
front : (n : ℕ) (key : List ℕ)
    → (rest : List ℕ) × (schedule n key ≡ key_word key 0 ∷ key_word key 1 ∷ key_word key 2 ∷ key_word key 3 ∷ rest)
unfolding schedule
front zero key = ([], refl)
front (suc n) key =
    let v : List ℕ = next_word (schedule n key) (n + 4) ∷ [] in
    ((front n key).0 ++ v, ap (λ (l : List ℕ). l ++ v) (front n key).1)

-- a front of bytes is bytes
pub take_below : (n : ℕ) (xs : List ℕ) → ((i : ℕ) → get_or xs i 0 < 256) → (i : ℕ) → get_or (take n xs) i 0 < 256
take_below zero xs h i = lit< tt
take_below (suc n) [] h i = lit< tt
take_below (suc n) (x ∷ xs) h zero = h 0
take_below (suc n) (x ∷ xs) h (suc i) = take_below n xs (λ j. h (suc j)) i

module _ (key : List ℕ) (long : length key ≡ 16) (below : (i : ℕ) → get_or key i 0 < 256) where
  -- the bytes of a word of the key
  word_is : (i j k l : ℕ) → bytes_of (get_or key i 0 * 16777216 + get_or key j 0 * 65536 + get_or key k 0 * 256 + get_or key l 0)
      ≡ get_or key i 0 ∷ get_or key j 0 ∷ get_or key k 0 ∷ get_or key l 0 ∷ []
  word_is i j k l = bytes_word (get_or key i 0) (get_or key j 0) (get_or key k 0) (get_or key l 0) (below i) (below j) (below k) (below l)

  pub key_is : state_of (key_expansion key) ≡ key
  unfolding key_expansion
  key_is =
      ap state_of (front 40 key).1
      ∙ (λ i. word_is 0 1 2 3 i ++ word_is 4 5 6 7 i ++ word_is 8 9 10 11 i ++ word_is 12 13 14 15 i)
      ∙ sym (fill_by_all (λ k. get_or key k 0) key 16 0 long (λ k h. refl))
