-- The key material that a hash was made from, and the answers on its key schedule.
use Rattle.std.specs.Prelude.{ℕ, cond, List, Some, None, Option, nat_lt, slice_index}
use Rattle.aes.specs.Columns.{state_of}
use Rattle.aes.specs.Fips197.{key_expansion}
use Rattle.aes.specs.Hash.{Material}
use Rattle.aes.specs.declared.AesHash.{AesHash}

-- the key is what the first four words of the key schedule hold
unfoldable pub material_of : AesHash → Material
material_of h = record { key = state_of h.words; u1 = h.u1.factor; u2 = h.u2.factor }

-- word i of the key schedule, which has 44
unfoldable pub schedule_word : List ℕ → ℕ → Option ℕ
schedule_word key i = cond (nat_lt i 44) (Some (slice_index (key_expansion key) i)) None
