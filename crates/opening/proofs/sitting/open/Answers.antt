use Rattle.std.proofs.Common.{ℕ, arith}
use Rattle.circuit.specs.Check.{table_wiring}
use Rattle.garbling.specs.Tape.{drawn_for}
use Rattle.opening.specs.Opening.{zeros}
use Rattle.opening.proofs.LawsProof.{shows_public}
use Rattle.opening.proofs.sitting.open.Goals as goal

pub returns-clause-shows : goal.returns-clause-shows
returns-clause-shows g c =
    let byte : (i : ℕ) → _ = c.type_inv.table in
    shows_public c.open_lent-opened.result (table_wiring c.args.table.now)
    (drawn_for (table_wiring c.args.table.now) c.args.tape.now.bytes.now c.args.tape.now.place) (g.H.Hash.function c.args.hash.now)
    c.open_lent-opened.new.form (zeros c.args.form.now) c.args.form.now
    (omega (arith, byte 0, byte 1)) (omega (arith, byte 2, byte 3)) c.open_lent-opened.ensures.form
