-- The four columns make up the state.
use Rattle.std.proofs.Common.{◌≡◌, ◌*◌, get_or, add-zero}
use Rattle.aes.specs.Columns.{mixed_column}
use Rattle.aes.specs.Fips197.{bytes_of}
use Rattle.aes.proofs.Transforms.{mixed_state}
use Rattle.aes.proofs.rounds.mixed_round.Goals as goal

pub returns : goal.returns
returns c =
    let s = c.args.s in
    let w = c.args.w.now in
    let first : bytes_of c.mixed_column.result ≡ mixed_column (get_or s 0 0) (get_or s 1 0) (get_or s 2 0) (get_or s 3 0) (get_or w (4 * c.args.round) 0) =
    c.mixed_column.ensures in
    mixed_state (get_or s 0 0) (get_or s 1 0) (get_or s 2 0) (get_or s 3 0) w c.args.round
    c.mixed_column.result c.mixed_column-2.result c.mixed_column-3.result c.mixed_column-4.result
    (rw add-zero first) c.mixed_column-2.ensures c.mixed_column-3.ensures c.mixed_column-4.ensures
