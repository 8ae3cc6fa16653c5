use Rattle.std.proofs.Common.{ℕ, ap, refl, ◌∙◌, arith, rules}
use borrow.Author.Tests.{tests}
use Rattle.std.proofs.lemmas.Iterator.{YieldsList-from_range}
use Rattle.std.proofs.lemmas.Iterator.Consumers.{YieldsList-from_filter, YieldsList-from_enumerate}
use Rattle.std.specs.Iterator.Adapters.{enumerate_source, enumerate_count, filter_source, filter_callee}
use Rattle.wires.specs.Wires.{is_output, output_wires}
use Rattle.wires.specs.Read.{wiring_of}
use Rattle.wires.proofs.Scans.{ahead_first, ahead_next, ahead_end, ahead_number, written_next, written_end}
use Rattle.garbling.specs.Evaluation.{output_index}
use Rattle.server.specs.Outputs.{bit_byte, kept_bit}
use Rattle.server.proofs.NumberedWires.{few}
use Rattle.server.proofs.outputs.write_outputs.Goals as goal

pub loop-next-init : goal.loop-next-init
loop-next-init c =
    let n = c.args.form.now.circuit.wires in
    let p = is_output (wiring_of c.args.form.now.circuit) in
    let chain = ap enumerate_source c.into_iter-next-iterator.ensures.into_iter_gives ∙ c.enumerate-next-items.ensures.source in
    record {
      can = search rules;
      finite = search rules;
      ahead =
          ahead_first p n
          (YieldsList-from_enumerate
          (YieldsList-from_filter _ p (YieldsList-from_range 0 n n (ap filter_source chain ∙ c.filter-wires.ensures.source) (omega arith))
          (ap filter_callee chain ∙ c.filter-wires.ensures.closure) (λ x b q h. search (rules, tests)))
          (ap enumerate_count c.into_iter-next-iterator.ensures.into_iter_gives ∙ c.enumerate-next-items.ensures.count));
      written = refl;
    }

pub overflow_cast-next : goal.overflow_cast-next
overflow_cast-next c =
    let turn = ahead_next c.loop-next.yielded c.in-Some.next c.in-Some.wire c.loop-next.invariant.ahead c.in-Some.ensures.steps in
    let short = few (is_output (wiring_of c.args.form.now.circuit)) c.args.form.now.circuit.wires in
    omega (arith, turn.0, turn.1, short)

pub bounds-outputs-next : goal.bounds-outputs-next
bounds-outputs-next c =
    let turn = ahead_next c.loop-next.yielded c.in-Some.next c.in-Some.wire c.loop-next.invariant.ahead c.in-Some.ensures.steps in
    omega (arith, turn.0, turn.1)

pub loop-next-preserved : goal.loop-next-preserved
loop-next-preserved c =
    let circuit = wiring_of c.args.form.now.circuit in
    let byte : ℕ → ℕ → ℕ = λ w k. bit_byte (kept_bit circuit c.args.form.now.bytes.now c.args.words.now w k) in
    let turn = ahead_next c.loop-next.yielded c.in-Some.next c.in-Some.wire c.loop-next.invariant.ahead c.in-Some.ensures.steps in
    let number = ahead_number (is_output circuit) c.args.form.now.circuit.wires c.loop-next.yielded c.in-Some.next c.in-Some.wire c.loop-next.invariant.ahead c.in-Some.ensures.steps in
    record {
      can = search rules;
      finite = search rules;
      ahead = turn.2;
      written =
          written_next (λ w. byte w (output_index circuit w)) c.loop-next.outputs c.loop-next.yielded c.in-Some.next c.in-Some.wire c.output_byte.result
          c.loop-next.invariant.written turn.0 (omega (arith, turn.1)) (c.output_byte.ensures ∙ ap (byte c.in-Some.wire) number);
    }

pub returns : goal.returns
returns c =
    let circuit = wiring_of c.args.form.now.circuit in
    written_end (λ w. bit_byte (kept_bit circuit c.args.form.now.bytes.now c.args.words.now w (output_index circuit w))) c.loop-next.outputs (output_wires circuit) c.loop-next.yielded
    c.loop-next.invariant.written (ahead_end c.loop-next.yielded c.loop-next.invariant.ahead c.in-None.ensures.steps) (c.loop-next.auto.outputs ∙ c.requires)
