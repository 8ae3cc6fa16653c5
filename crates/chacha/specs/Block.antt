-- The ChaCha20 block function: RFC 8439, 2.3.
use Rattle.std.specs.Prelude.{ℕ, List, [], ◌∷◌, slice_index}
use Rattle.chacha.specs.Words.{plus}
use Rattle.chacha.specs.Bytes.{word_at, serialised}
use Rattle.chacha.specs.Rounds.{twenty_rounds}

-- The state that a block starts from: four constants, the 32 bytes of the key as eight words, the block counter, and
-- the 12 bytes of the nonce as three words.
unfoldable pub initial_state : List ℕ → ℕ → List ℕ → List ℕ
initial_state key counter nonce =
    0x61707865 ∷ 0x3320646e ∷ 0x79622d32 ∷ 0x6b206574
    ∷ word_at key 0 ∷ word_at key 4 ∷ word_at key 8 ∷ word_at key 12
    ∷ word_at key 16 ∷ word_at key 20 ∷ word_at key 24 ∷ word_at key 28
    ∷ counter ∷ word_at nonce 0 ∷ word_at nonce 4 ∷ word_at nonce 8 ∷ []

-- The same, of the words of the key and of the nonce.
abbrev pub state_of : List ℕ → ℕ → List ℕ → List ℕ
state_of key counter nonce =
    0x61707865 ∷ 0x3320646e ∷ 0x79622d32 ∷ 0x6b206574
    ∷ slice_index key 0 ∷ slice_index key 1 ∷ slice_index key 2 ∷ slice_index key 3
    ∷ slice_index key 4 ∷ slice_index key 5 ∷ slice_index key 6 ∷ slice_index key 7
    ∷ counter ∷ slice_index nonce 0 ∷ slice_index nonce 1 ∷ slice_index nonce 2 ∷ []

-- Two states added word by word.
abbrev pub added : List ℕ → List ℕ → List ℕ
added [] ys = []
added (x ∷ xs) [] = []
added (x ∷ xs) (y ∷ ys) = plus x y ∷ added xs ys

-- The state after the 20 rounds, with the state that they started from added.
unfoldable pub final_state : List ℕ → List ℕ
final_state start = added (twenty_rounds start) start

-- The 64 bytes of a block: its final state, serialised.
unfoldable pub block_of : List ℕ → ℕ → List ℕ → List ℕ
block_of key counter nonce = serialised (final_state (initial_state key counter nonce))
