use Rattle.std.proofs.Common.{◌≡◌, not, None}
use Rattle.wires.specs.Read.{wiring_of}
use Rattle.server.specs.Lowest.{lowest_where}
use Rattle.server.specs.Sheets.{sheets_of, marks_sound}
use Rattle.server.proofs.sheets.Sheets.check_marks.Given as goal

abbrev pub invariant-loop-wire : goal.invariant-loop-wire
invariant-loop-wire l = lowest_where 15 (λ w. not (marks_sound (wiring_of l.self.circuit) (sheets_of l.self) w)) l.wire ≡ None
