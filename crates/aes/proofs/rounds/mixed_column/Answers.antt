-- The bytes of the sum of the four entries and the key's word.
use Rattle.std.proofs.Common.{ℕ, List, get_or, ap, ◌∙◌}
use Rattle.aes.specs.Columns.{byte_of, mixed_row}
use Rattle.aes.proofs.Words.{mixed_bytes}
use Rattle.aes.proofs.rounds.mixed_column.Goals as goal

pub returns : goal.returns
returns c =
    mixed_bytes (byte_of c.args.a 0) (byte_of c.args.b 1) (byte_of c.args.c 2) (byte_of c.args.d 3)
    c.mixed_row.result c.mixed_row-2.result c.mixed_row-3.result c.mixed_row-4.result c.args.key
    (c.mixed_row.ensures ∙ ap (λ (l : List ℕ). mixed_row 0 (get_or l 0 0)) c.to_be_bytes.ensures)
    (c.mixed_row-2.ensures ∙ ap (λ (l : List ℕ). mixed_row 1 (get_or l 1 0)) c.to_be_bytes-2.ensures)
    (c.mixed_row-3.ensures ∙ ap (λ (l : List ℕ). mixed_row 2 (get_or l 2 0)) c.to_be_bytes-3.ensures)
    (c.mixed_row-4.ensures ∙ ap (λ (l : List ℕ). mixed_row 3 (get_or l 3 0)) c.to_be_bytes-4.ensures)
