use Rattle.std.proofs.Common.{refl, ap, ◌∙◌, arith, rules}
use Rattle.wires.specs.Wires.{wires_where, is_garbled}
use Rattle.wires.specs.Read.{wiring_of}
use Rattle.wires.proofs.Scans.{count_step}
use Rattle.garbling.specs.Words.{kept_at, labels_kept, keeping}
use Rattle.garbling.specs.Steps.{met_with}
use Rattle.server.specs.Gates.{sent_at}
use Rattle.server.proofs.Evaluated.{met_start, met_step}
use Rattle.server.proofs.labels.evaluate_wires.Goals as goal

pub loop-wire-init : goal.loop-wire-init
unfolding wires_where
loop-wire-init g c = (
  (refl, omega arith),
  refl,
  λ xs held.
      met_start g.H.Hash.asks (wiring_of c.args.form.now.circuit) c.args.form.now.bytes.now (g.H.Hash.function c.args.hash.now) xs
      c.args.hash.now c.args.words.now,
)

pub loop-wire-preserved : goal.loop-wire-preserved
loop-wire-preserved g c =
    let circuit = wiring_of c.args.form.now.circuit in
    let F = c.args.form.now.bytes.now in
    let f = g.H.Hash.function c.args.hash.now in
    let w = c.loop-wire.wire in
    let gate = c.loop-wire.gate in
    let ws = c.loop-wire.words in
    let kept =
    c.evaluate_next.ensures.words
    ∙ ap (λ fn. keeping ws w (met_with circuit fn (sent_at F gate) (kept_at ws w) (labels_kept ws w) w)) c.loop-wire.invariant.1 in (
      count_step (is_garbled circuit) w gate _ c.loop-wire.invariant.0 (search rules),
      c.evaluate_next.ensures.kept ∙ c.loop-wire.invariant.1,
      λ xs held.
          met_step g.H.Hash.asks circuit F f xs w gate c.args.hash.now c.loop-wire.hash c.evaluate_next.new.hash
          c.args.words.now ws c.evaluate_next.new.words held (omega arith) (c.loop-wire.auto.words ∙ c.requires)
          c.loop-wire.invariant.0.0 (c.loop-wire.invariant.2 xs held) kept c.evaluate_next.ensures.asked,
    )
