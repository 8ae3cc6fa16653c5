-- The rounds of ChaCha20: RFC 8439, 2.1 to 2.3.
use Rattle.std.specs.Prelude.{ℕ, zero, suc, List, bit_xor, slice_index, slice_set}
use Rattle.chacha.specs.Words.{plus, roll}

-- RFC 8439, 2.1, the quarter round on four words:
--   1.  a += b; d ^= a; d <<<= 16;
--   2.  c += d; b ^= c; b <<<= 12;
--   3.  a += b; d ^= a; d <<<= 8;
--   4.  c += d; b ^= c; b <<<= 7;
unfoldable pub quarter_round : ℕ → ℕ → ℕ → ℕ → ℕ × ℕ × ℕ × ℕ
quarter_round a b c d =
    let a1 = plus a b in
    let d1 = roll (bit_xor d a1) 16 in
    let c1 = plus c d1 in
    let b1 = roll (bit_xor b c1) 12 in
    let a2 = plus a1 b1 in
    let d2 = roll (bit_xor d1 a2) 8 in
    let c2 = plus c1 d2 in
    let b2 = roll (bit_xor b1 c2) 7 in
    (a2, b2, c2, d2)

-- RFC 8439, 2.2, QUARTERROUND(x, y, z, w): the quarter round on the words of a state at four indices.
unfoldable pub quarter_round_at : ℕ → ℕ → ℕ → ℕ → List ℕ → List ℕ
quarter_round_at x y z w s =
    let q = quarter_round (slice_index s x) (slice_index s y) (slice_index s z) (slice_index s w) in
    slice_set (slice_set (slice_set (slice_set s x q.0) y q.1) z q.2) w q.3

-- RFC 8439, 2.3: the four quarter rounds of a column round.
unfoldable pub column_round : List ℕ → List ℕ
column_round s =
    let s1 = quarter_round_at 0 4 8 12 s in
    let s2 = quarter_round_at 1 5 9 13 s1 in
    let s3 = quarter_round_at 2 6 10 14 s2 in
    quarter_round_at 3 7 11 15 s3

-- RFC 8439, 2.3: the four quarter rounds of a diagonal round.
unfoldable pub diagonal_round : List ℕ → List ℕ
diagonal_round s =
    let s1 = quarter_round_at 0 5 10 15 s in
    let s2 = quarter_round_at 1 6 11 12 s1 in
    let s3 = quarter_round_at 2 7 8 13 s2 in
    quarter_round_at 3 4 9 14 s3

-- RFC 8439, 2.3, inner_block: a column round and then a diagonal round.
abbrev pub double_round : List ℕ → List ℕ
double_round s = diagonal_round (column_round s)

-- That n times.
unfoldable pub double_rounds : ℕ → List ℕ → List ℕ
double_rounds zero s = s
double_rounds (suc n) s = double_round (double_rounds n s)

-- RFC 8439, 2.3: the 20 rounds are 10 double rounds.
abbrev pub twenty_rounds : List ℕ → List ℕ
twenty_rounds s = double_rounds 10 s
