-- One round after the other, from the first to the last.
use Rattle.std.proofs.Common.{◌≡◌, ℕ, suc, ◌-◌, List, sym, ap, ◌∙◌, arith}
use Rattle.aes.specs.Fips197.{sub_bytes, shift_rows, mix_columns, round_key, add_round_key, rounds, cipher}
use Rattle.aes.proofs.rounds.cipher.Goals as goal

rounds_more : (n k : ℕ) (block w : List ℕ) → suc n ≡ k
    → add_round_key (mix_columns (shift_rows (sub_bytes (rounds n block w)))) (round_key w k) ≡ rounds k block w
unfolding rounds
rounds_more n k block w e =
    ap (λ (j : ℕ). add_round_key (mix_columns (shift_rows (sub_bytes (rounds n block w)))) (round_key w j)) (sym e)
    ∙ ap (λ (j : ℕ). rounds j block w) e

pub loop-round-init : goal.loop-round-init
unfolding rounds
loop-round-init c = c.first_round-s.ensures

pub loop-round-preserved : goal.loop-round-preserved
loop-round-preserved c =
    let block = c.args.block.now in
    let w = c.args.w.now in
    let round = c.loop-round.round in
    c.mixed_round-next.ensures
    ∙ ap (λ (s : List ℕ). add_round_key (mix_columns (shift_rows (sub_bytes s))) (round_key w round)) c.loop-round.invariant
    ∙ rounds_more (round - 1) round block w (omega arith)
    ∙ ap (λ (n : ℕ). rounds n block w) (omega arith)

pub returns : goal.returns
unfolding cipher
returns c =
    let block = c.args.block.now in
    let w = c.args.w.now in
    c.block_of.ensures
    ∙ c.last_round.ensures
    ∙ ap (λ (s : List ℕ). add_round_key (shift_rows (sub_bytes s)) (round_key w 10))
    (c.loop-round.invariant ∙ ap (λ (n : ℕ). rounds n block w) (omega arith))
