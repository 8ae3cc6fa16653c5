use Rattle.std.proofs.Common.{ℕ, Bool, not, sym, ap, arith}
use Rattle.wires.specs.Read.{wiring_of}
use Rattle.server.specs.Sheets.{sheets_of, marks_sound}
use Rattle.server.proofs.LowestWires.{lowest_start, lowest_passed, lowest_found}
use Rattle.server.proofs.sheets.Sheets.check_marks.Goals as goal

pub loop-wire-init : goal.loop-wire-init
loop-wire-init c = lowest_start 15 _

pub returns-then-not-marks_sound : goal.returns-then-not-marks_sound
returns-then-not-marks_sound c =
    let wrong : ℕ → Bool = λ w. not (marks_sound (wiring_of c.args.self.now.circuit) (sheets_of c.args.self.now) w) in
    lowest_found 15 wrong c.loop-wire.wire c.args.self.now.circuit.inputs _ (omega arith) c.loop-wire.invariant
    (ap not (sym c.if-not-marks_sound.ensures)) c.from.ensures

pub loop-wire-preserved : goal.loop-wire-preserved
loop-wire-preserved c =
    let wrong : ℕ → Bool = λ w. not (marks_sound (wiring_of c.args.self.now.circuit) (sheets_of c.args.self.now) w) in
    lowest_passed 15 wrong c.loop-wire.wire c.loop-wire.invariant (ap not (sym c.if-not-marks_sound.ensures))
