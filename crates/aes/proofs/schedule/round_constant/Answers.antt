-- The constants are their rule at 1, 2, .. 10, by one computation.
use Rattle.std.proofs.Common.{◌-◌, arith}
use Rattle.std.proofs.lemmas.List.FromFn.{get_or-map-range_with_len}
use Rattle.aes.specs.Field.{product, reduced, remainder, times}
use Rattle.aes.specs.Fips197.{◌•◌, x_power, rcon}
use Rattle.aes.proofs.schedule.round_constant.Goals as goal

pub returns : goal.returns
unfolding product reduced remainder times ◌•◌ x_power rcon
returns c = get_or-map-range_with_len rcon 1 10 (c.args.j - 1) c.args.j 0 (omega arith) (omega arith)
