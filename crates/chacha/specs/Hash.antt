-- The hash of a label under key material of 28 bytes: one block, of which nine bytes are used.
use Rattle.std.specs.Prelude.{ℕ, ◌/◌, ◌%◌, Bool, List, ◌++◌, take, drop, ◌==◌, slice_index}
use Rattle.slices.specs.Little.{little, bytes_of}
use Rattle.chacha.specs.Bytes.{serialised}
use Rattle.label.specs.Hashes.{HashFunction}
use Rattle.label.specs.declared.hash.Answer.{Answer}
use Rattle.chacha.specs.Block.{block_of}
use Rattle.chacha.specs.declared.hash.ChaChaHash.{ChaChaHash}

-- The block's key: the first 16 bytes of the key material, and then the label's 16 bytes, left before right.
abbrev pub label_key : List ℕ → ℕ × ℕ → List ℕ
label_key material label = take 16 material ++ bytes_of 8 label.0 ++ bytes_of 8 label.1

-- The block's nonce: the last 12 bytes of the key material.
abbrev pub label_nonce : List ℕ → List ℕ
label_nonce material = drop 16 material

-- The lowest bit of a number.
abbrev pub low_bit : ℕ → Bool
low_bit n = n % 2 == 1

-- What is read from a block: bytes 0 to 7 as the word, and the two low bits of byte 8 as the control pair.
abbrev pub read_block : List ℕ → Answer
read_block b = record { word = little (take 8 b); pair = record { low = low_bit (slice_index b 8); high = low_bit (slice_index b 8 / 2) } }

-- The hash of a label: the block's counter is the tweak.
unfoldable pub answer_of : List ℕ → HashFunction
answer_of material label tweak = read_block (block_of (label_key material label) tweak (label_nonce material))

-- The key material that a prepared hash stands for.
unfoldable pub material_of : ChaChaHash → List ℕ
material_of h = serialised h.words
