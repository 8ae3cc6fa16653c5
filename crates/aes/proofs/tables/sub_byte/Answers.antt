-- The S-box is its rule at 0, 1, .. 255, by one computation; so each entry is the rule's.
use Rattle.std.proofs.Common.{arith}
use Rattle.std.proofs.lemmas.List.FromFn.{get_or-map-range_with_len}
use Rattle.aes.specs.Field.{product, reduced, remainder, times}
use Rattle.aes.specs.Fips197.{◌•◌, powered, inverse, affine_bit, s_box}
use Rattle.aes.proofs.Inverse as law
use Rattle.aes.proofs.tables.sub_byte.Goals as goal

pub returns : goal.returns
returns c =
    record {
      value =
          unfold product reduced remainder times ◌•◌ powered inverse affine_bit s_box in
          get_or-map-range_with_len s_box 0 256 c.args.x c.args.x 0 (omega arith) (omega arith);
      inverts = λ h. law.inverts c.args.x h (omega arith);
    }
