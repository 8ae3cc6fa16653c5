-- The server is blind: under two secrets over one public table, with equal outputs, each view has equally many causes.
use Rattle.std.proofs.Common.{true, false, ◌++◌, sym, ap, ◌∙◌, arith}
use Rattle.wires.specs.Wires.{Wiring}
use Rattle.circuit.specs.Check.{table_wiring}
use Rattle.circuit_laws.specs.Chance.{Opened}
use Rattle.circuit_laws.specs.CircuitBlind.{public_of, view_of, server_view, CircuitBlind}
use Rattle.circuit_laws.proofs.Shown.{Shows}
use Rattle.circuit_laws.proofs.FiniteChance.{finite_opened}
use Rattle.circuit_laws.proofs.Openings.{drawn_in, hash_in, OpeningsMatch, openings_match}
use Rattle.circuit_laws.proofs.EquallySeen.{equally_seen}
use Rattle.circuit_laws.proofs.ViewsApart.{view_discrete}
use Rattle.circuit_laws.proofs.PublicTables.{accepted_shown, accepted_shown_too}

pub circuit_blind : CircuitBlind
circuit_blind s s' accepted accepted' same x x' outputs place bytes rows long view =
    let c : Wiring = table_wiring s in
    let c' : Wiring = table_wiring s' in
    let d : Wiring = public_of c in
    let shows : Shows c d = accepted_shown s accepted in
    let shows' : Shows c' d = accepted_shown_too s s' accepted' same in
    let all : OpeningsMatch c c' d x x' place bytes rows = openings_match c c' d shows shows' x x' place bytes rows (omega (arith, shows.shown.wires)) in
    equally_seen (finite_opened c place bytes rows) view_discrete all.matching
    (λ o. server_view c x place o.0.0.0 o.0.1.0) (λ o. server_view c' x' place o.0.0.0 o.0.1.0)
    (λ o.
    let o' : Opened c' place bytes rows = all.matching.fun o in
    ap (λ t. view_of c' (table_wiring t) (drawn_in c' place o') (hash_in c' place o') x') (sym same)
    ∙ (λ i. record {
      gates = (all.seen o).gates i;
      false_marks = all.marks outputs false o i;
      true_marks = all.marks outputs true o i;
      labels = (all.seen o).labels i;
      answers = (all.seen o).gate_answers_lem i ++ (all.seen o).output_answers_lem i;
    }))
    view
