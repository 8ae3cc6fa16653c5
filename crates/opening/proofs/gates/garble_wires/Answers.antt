use Rattle.std.proofs.Common.{◌≡◌, ℕ, List, sym, refl, ◌∙◌, ap, subst, arith}
use Rattle.label.specs.Hashes.{HashFunction, Asked}
use Rattle.wires.specs.declared.Circuit.{Circuit}
use Rattle.wires.specs.Wires.{Wiring}
use Rattle.wires.specs.Read.{wiring_of}
use Rattle.opening.proofs.SoFar.{asks_to, Garbled, garbled_none, garbled_more, gates_done, asked_none, asked_more}
use Rattle.opening.proofs.gates.garble_wires.Goals as goal

pub loop-wire-init : goal.loop-wire-init
loop-wire-init g c =
    let circuit : Wiring = wiring_of c.args.table.now.circuit in
    let f : HashFunction = g.H.Hash.function c.args.hash.now in (
      garbled_none circuit c.args.drawn.now f c.args.table.now.garbled c.args.work.now c.args.gates.now,
      c.requires.words,
      c.requires.bytes,
      refl,
      asked_none circuit c.args.drawn.now f g.H.Hash.asks c.args.hash.now,
    )

pub loop-wire-preserved : goal.loop-wire-preserved
loop-wire-preserved g c =
    let circuit : Wiring = wiring_of c.args.table.now.circuit in
    let f : HashFunction = g.H.Hash.function c.args.hash.now in
    let T : List ℕ = c.args.drawn.now in
    let inv = c.loop-wire.invariant in
    let step = c.garble_step-next.ensures in (
      garbled_more circuit T f c.args.table.now.garbled c.loop-wire.wire c.loop-wire.next c.garble_step-next.result
          c.loop-wire.work c.garble_step-next.new.work c.loop-wire.gates c.garble_step-next.new.gates
          (g.H.Hash.function c.loop-wire.hash) inv.3 inv.0 step.next step.labels step.rows,
      step.words ∙ inv.1,
      step.bytes ∙ inv.2,
      step.kept ∙ inv.3,
      asked_more circuit T f g.H.Hash.asks c.loop-wire.wire c.loop-wire.work c.args.hash.now c.loop-wire.hash
          c.garble_step-next.new.hash inv.0.1 inv.4 step.asked,
    )

pub returns : goal.returns
returns g c =
    let circuit : Wiring = wiring_of c.args.table.now.circuit in
    let f : HashFunction = g.H.Hash.function c.args.hash.now in
    let T : List ℕ = c.args.drawn.now in
    let inv = c.loop-wire.invariant in
    let w : ℕ = c.loop-wire.wire in
    let end : w ≡ circuit.wires = let past = c.loop-wire-test.false in let kept = c.loop-wire.auto.wire-end in let last = ap (λ (k : Circuit). k.wires) c.circuit-wire-end.ensures in omega (arith, past, kept, last) in
    let done : Garbled circuit T f c.args.table.now.garbled circuit.wires c.loop-wire.next c.loop-wire.work c.loop-wire.gates =
    subst (λ n. Garbled circuit T f c.args.table.now.garbled n c.loop-wire.next c.loop-wire.work c.loop-wire.gates) end inv.0 in
    record {
      labels = done.1;
      gates = gates_done circuit T f c.args.table.now.garbled c.loop-wire.next c.loop-wire.work c.loop-wire.gates done c.args.table.now.gates inv.2;
      words = inv.1 ∙ sym c.requires.words;
      kept = inv.3;
      asked = subst (λ n. Asked g.H.Hash.asks (asks_to circuit T f n) c.args.hash.now c.loop-wire.hash) end inv.4;
    }
