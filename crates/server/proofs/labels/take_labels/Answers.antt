use Rattle.std.proofs.Common.{◌≡◌, ℕ, Bool, not, is_some, Some, None, sym, refl, ap, ◌∙◌, subst, arith}
use Rattle.std.proofs.lemmas.Result.{err_from_is_err_and}
use Rattle.wires.specs.Read.{wiring_of}
use Rattle.server.specs.Lowest.{lowest_where}
use Rattle.server.specs.Sheets.{sheets_of, own_label}
use Rattle.server.proofs.LowestWires.{lowest_start, lowest_passed, lowest_found}
use Rattle.server.proofs.Rooms.{taken_more, taken_all}
use Rattle.server.proofs.labels.take_labels.Goals as goal

pub loop-wire-init : goal.loop-wire-init
loop-wire-init c = (lowest_start 37 _, λ k below none. absurd (omega arith))

pub returns-in_err-label : goal.returns-in_err-label
returns-in_err-label c =
    let p = err_from_is_err_and c.from_residual.result c.from_residual.ensures.1 in
    let missing : ℕ → Bool = λ w. not (is_some (own_label (wiring_of c.args.sheets.now.circuit) (sheets_of c.args.sheets.now) w)) in
    let none = c.in_err-label.ensures in
    rw (p.1, p.2)
    record {
      fault =
          lowest_found 37 missing c.loop-wire.wire c.args.sheets.now.circuit.inputs c.loop-wire.wire (omega arith) c.loop-wire.invariant.0
          (ap (λ o. not (is_some o)) none.0) refl
          ∙ ap Some (sym none.1);
      labels = tt;
    }

pub loop-wire-preserved : goal.loop-wire-preserved
loop-wire-preserved c =
    let circuit = wiring_of c.args.sheets.now.circuit in
    let sheets = sheets_of c.args.sheets.now in
    let missing : ℕ → Bool = λ w. not (is_some (own_label circuit sheets w)) in
    let own = c.in_ok-label.ensures in (
      lowest_passed 37 missing c.loop-wire.wire c.loop-wire.invariant.0 (ap (λ o. not (is_some o)) own),
      taken_more circuit sheets c.loop-wire.words _ c.loop-wire.wire c.in_ok-label.label (c.loop-wire.auto.words ∙ c.requires)
          c.loop-wire.invariant.1 own c.keep_label.ensures,
    )

pub returns : goal.returns
returns c =
    let circuit = wiring_of c.args.sheets.now.circuit in
    let sheets = sheets_of c.args.sheets.now in
    let end : c.loop-wire.wire ≡ c.args.sheets.now.circuit.inputs = omega arith in
    record {
      fault = subst (λ k. lowest_where 37 (λ w. not (is_some (own_label circuit sheets w))) k ≡ None) end c.loop-wire.invariant.0;
      labels = taken_all circuit sheets c.loop-wire.words c.loop-wire.wire (omega arith) c.loop-wire.invariant.1;
    }
