-- The table is its rule at 0, 1, .. 255, by one computation; so each entry is the rule's.
use Rattle.std.proofs.Common.{arith}
use Rattle.std.proofs.lemmas.List.FromFn.{get_or-map-range_with_len}
use Rattle.aes.specs.Field.{product, reduced, remainder, times}
use Rattle.aes.specs.Fips197.{◌•◌, powered, inverse, affine_bit, s_box, word_of}
use Rattle.aes.proofs.tables.mixed_row0.Goals as goal

pub returns : goal.returns
unfolding product reduced remainder times ◌•◌ powered inverse affine_bit s_box
returns c =
    get_or-map-range_with_len (λ x. word_of (2 • s_box x) (s_box x) (s_box x) (3 • s_box x)) 0 256 c.args.x c.args.x 0 (omega arith)
    (omega arith)
