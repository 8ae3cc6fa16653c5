use Rattle.std.proofs.Common.{◌≡◌, ℕ, true, false, List, refl, ◌∙◌, subst}
use Rattle.label.specs.Labels.{Label}
use Rattle.label.specs.Hashes.{HashFunction, Asked}
use Rattle.label.proofs.Chains.{asked_append}
use Rattle.wires.specs.Wires.{Wiring}
use Rattle.wires.specs.Read.{wiring_of}
use Rattle.garbling.specs.Tape.{offset_in}
use Rattle.garbling.specs.Garbling.{falses_of, garble_asks}
use Rattle.garbling.specs.Marks.{marks_of, marks_ask, equal_below, first_of}
use Rattle.garbling.specs.Words.{labels_kept}
use Rattle.form.specs.Layout.{mark_bytes}
use Rattle.opening.specs.Opening.{marks_sent, equal_output, open_asks}
use Rattle.opening.proofs.Forms.{form_filled}
use Rattle.opening.proofs.fill.fill_form.Goals as goal

pub returns : goal.returns
unfolding equal_output open_asks
returns g c =
    let circuit : Wiring = wiring_of c.args.table.now.circuit in
    let T : List ℕ = c.args.drawn.now in
    let f : HashFunction = g.H.Hash.function c.args.hash.now in
    let f' : HashFunction = g.H.Hash.function c.garble_wires.new.hash in
    let same : f' ≡ f = c.garble_wires.ensures.kept in
    let offset : c.draw_offset.result ≡ offset_in T = c.draw_offset.ensures in
    let ls : List Label = labels_kept c.garble_wires.new.work circuit.wires in
    let labels : ls ≡ falses_of circuit T f = c.garble_wires.ensures.labels in
    let marked : c.mark_outputs.new.marks ≡ mark_bytes (marks_sent circuit T f false) (marks_sent circuit T f true) =
    c.mark_outputs.ensures.marks
    ∙ (λ i. mark_bytes (marks_of circuit (same i) (offset i) (labels i) false) (marks_of circuit (same i) (offset i) (labels i) true)) in
    rw (c.from.ensures, c.circuit.ensures, c.from-2.ensures, c.garbled.ensures)
    record {
      form = form_filled circuit T f c.args.table.now.garbled c.args.table.now.outputs _ _ c.write_public.new.form c.garble_wires.new.gates
          c.mark_outputs.new.marks c.args.table.now.gates c.args.table.now.marks c.write_public.ensures.front (c.write_public.ensures.len ∙ c.requires.room)
          c.garble_wires.ensures.gates marked refl refl;
      equal = c.mark_outputs.ensures.equal ∙ (λ i. first_of (equal_below circuit (same i) (offset i) (labels i) circuit.wires));
      labels = labels;
      words = c.garble_wires.ensures.words;
      kept = c.mark_outputs.ensures.kept ∙ same;
      asked = asked_append g.H.Hash.asks (garble_asks circuit T f) (marks_ask circuit (offset_in T) (falses_of circuit T f))
          c.args.hash.now c.garble_wires.new.hash c.mark_outputs.new.hash c.garble_wires.ensures.asked
          (subst (λ qs. Asked g.H.Hash.asks qs c.garble_wires.new.hash c.mark_outputs.new.hash)
          (λ i. marks_ask circuit (offset i) (labels i)) c.mark_outputs.ensures.asked);
    }
