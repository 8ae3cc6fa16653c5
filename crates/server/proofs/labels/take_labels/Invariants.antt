use Rattle.std.proofs.Common.{◌≡◌, not, is_some, None}
use Rattle.wires.specs.Read.{wiring_of}
use Rattle.server.specs.Lowest.{lowest_where}
use Rattle.server.specs.Sheets.{sheets_of, own_label}
use Rattle.server.proofs.Rooms.{Taken}
use Rattle.server.proofs.labels.take_labels.Given as goal

abbrev pub invariant-loop-wire : goal.invariant-loop-wire
invariant-loop-wire l =
    (lowest_where 37 (λ w. not (is_some (own_label (wiring_of l.sheets.circuit) (sheets_of l.sheets) w))) l.wire ≡ None)
    × Taken (wiring_of l.sheets.circuit) (sheets_of l.sheets) l.words l.wire
