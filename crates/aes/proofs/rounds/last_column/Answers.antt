-- The bytes of the sum of the word of the four bytes and the key's word.
use Rattle.std.proofs.Common.{ℕ, List, get_or, ap, ◌∙◌}
use Rattle.aes.specs.Fips197.{s_box, bytes_of}
use Rattle.aes.specs.Columns.{add_columns}
use Rattle.aes.proofs.Words.{four, bytes_xor, bytes_word}
use Rattle.aes.proofs.rounds.last_column.Goals as goal

pub returns : goal.returns
returns c =
    bytes_xor c.from_be_bytes.result c.args.key
    ∙ ap (λ (l : List ℕ). add_columns l (bytes_of c.args.key))
    (ap bytes_of c.from_be_bytes.ensures
    ∙ bytes_word c.sub_byte.result c.sub_byte-2.result c.sub_byte-3.result c.sub_byte-4.result
    c.sub_byte.type_inv c.sub_byte-2.type_inv c.sub_byte-3.type_inv c.sub_byte-4.type_inv
    ∙ four
    (c.sub_byte.ensures.value ∙ ap (λ (l : List ℕ). s_box (get_or l 0 0)) c.to_be_bytes.ensures)
    (c.sub_byte-2.ensures.value ∙ ap (λ (l : List ℕ). s_box (get_or l 1 0)) c.to_be_bytes-2.ensures)
    (c.sub_byte-3.ensures.value ∙ ap (λ (l : List ℕ). s_box (get_or l 2 0)) c.to_be_bytes-3.ensures)
    (c.sub_byte-4.ensures.value ∙ ap (λ (l : List ℕ). s_box (get_or l 3 0)) c.to_be_bytes-4.ensures))
