use Rattle.std.proofs.Common.{ℕ, List, ◌++◌, ◌∙◌, arith}
use Rattle.wires.specs.Wires.{Wiring}
use Rattle.wires.specs.Read.{wiring_of}
use Rattle.ledger.specs.Store.{label_words}
use Rattle.opening.specs.Opening.{opened_store}
use Rattle.opening.proofs.KeptStore.{stored}
use Rattle.opening.proofs.sitting.fill_buffers.Goals as goal

pub returns-in-None-clause-store : goal.returns-in-None-clause-store
unfolding opened_store
returns-in-None-clause-store g c =
    let circuit : Wiring = wiring_of c.args.table.now.circuit in
    let ws : List ℕ = c.fill_form.new.work in
    rw c.circuit-circuit.ensures at c.fill_store.ensures
    ∙ (λ i. label_words (c.draw_offset.ensures i)
    ++ stored ws circuit.inputs circuit.wires _ c.fill_form.ensures.labels c.args.table.now.within
    (let words = c.requires.room.work in let long = c.fill_form.ensures.words in omega (arith, words, long)) i)
