-- A ciphertext is 16 bytes.
use Rattle.std.proofs.Common.{◌≡◌, ℕ, zero, suc, ◌+◌, ◌*◌, ◌/◌, ◌%◌, ◌<◌, List, [], ◌∷◌, map, length, get_or, refl, mod-lt, lit<}
use lib.Bits.{bit_xor, xor_lt}
use lib.Lanes.{Each1}
use Rattle.std.specs.List.{range_with_len}
use Rattle.aes.specs.Fips197.{s_box, state, byte_at, sub_bytes, shift_rows, bytes_of, round_key, add_round_key, rounds, cipher}
use Rattle.aes.proofs.Words.{s_box-lt}

-- a list of bytes
abbrev pub Bytes : List ℕ → Type 0
Bytes xs = Each1 (λ x. x < 256) xs

-- what stands in one, and what is made of bytes alone
get_or-lt : (xs : List ℕ) (i : ℕ) → Bytes xs → get_or xs i 0 < 256
get_or-lt [] i h = lit< tt
get_or-lt (x ∷ xs) zero h = h.0
get_or-lt (x ∷ xs) (suc i) h = get_or-lt xs i h.1

map-bytes : (f : ℕ → ℕ) → ((i : ℕ) → f i < 256) → (xs : List ℕ) → Bytes (map f xs)
map-bytes f h [] = tt
map-bytes f h (x ∷ xs) = (h x, map-bytes f h xs)

state_bytes : (f : ℕ → ℕ → ℕ) → ((r c : ℕ) → f r c < 256) → Bytes (state f)
state_bytes f h = map-bytes (λ i. f (i % 4) (i / 4)) (λ i. h (i % 4) (i / 4)) (range_with_len 0 16)

-- the transformations give bytes
sub_bytes_lem : (s : List ℕ) → Bytes (sub_bytes s)
unfolding sub_bytes
sub_bytes_lem s = state_bytes (λ r c. s_box (byte_at s r c)) (λ r c. s_box-lt (byte_at s r c))

shift_bytes : (s : List ℕ) → Bytes s → Bytes (shift_rows s)
unfolding shift_rows
shift_bytes s h = state_bytes (λ r c. byte_at s r ((c + r) % 4)) (λ r c. get_or-lt s (r + 4 * ((c + r) % 4)) h)

word_bytes : (w : ℕ) → Bytes (bytes_of w)
word_bytes w = (mod-lt _ (lit< tt), (mod-lt _ (lit< tt), (mod-lt _ (lit< tt), (mod-lt _ (lit< tt), tt))))

key_bytes : (w : List ℕ) (k : ℕ) → Bytes (round_key w k)
unfolding round_key
key_bytes w k =
    state_bytes (λ r c. get_or (bytes_of (get_or w (4 * k + c) 0)) r 0)
    (λ r c. get_or-lt (bytes_of (get_or w (4 * k + c) 0)) r (word_bytes (get_or w (4 * k + c) 0)))

add_bytes : (s k : List ℕ) → Bytes s → Bytes k → Bytes (add_round_key s k)
unfolding add_round_key
add_bytes s k hs hk =
    state_bytes (λ r c. bit_xor (byte_at s r c) (byte_at k r c))
    (λ r c. xor_lt 8 (byte_at s r c) (byte_at k r c) (get_or-lt s (r + 4 * c) hs) (get_or-lt k (r + 4 * c) hk))

pub cipher_bytes : (block w : List ℕ) → Bytes (cipher block w)
unfolding cipher
cipher_bytes block w =
    let s : List ℕ = sub_bytes (rounds 9 block w) in
    add_bytes (shift_rows s) (round_key w 10) (shift_bytes s (sub_bytes_lem (rounds 9 block w))) (key_bytes w 10)

pub cipher_length : (block w : List ℕ) → length (cipher block w) ≡ 16
unfolding cipher add_round_key
cipher_length block w = refl
