-- Each turn writes the four bytes of one word more.
use Rattle.std.proofs.Common.{◌+◌, ◌*◌, ◌<◌, ◌≤◌, ◌++◌, length, get_or, take, sym, ap, ◌∙◌, arith, length-set}
use Rattle.std.proofs.lemmas.List.{take_more}
use Rattle.slices.specs.Little.{bytes_of}
use Rattle.chacha.specs.Bytes.{serialised}
use Rattle.slices.proofs.LittleLaws.{bytes_of-four}
use Rattle.chacha.proofs.Words.{front_set_four, serialised_push}
use Rattle.chacha.proofs.blocks.serialise.Goals as goal

pub loop-i-preserved : goal.loop-i-preserved
loop-i-preserved c =
    let i = c.loop-i.i in
    let ws = c.args.state in
    let long : 4 * i + 4 ≤ length c.loop-i.bytes = omega arith in
    let inside : i < length ws = omega arith in (
      rw c.to_le_bytes.ensures (front_set_four c.loop-i.bytes (4 * i) (4 * (i + 1)) _ _ _ _ (omega arith) long
          ∙ ap (λ r. take (4 * i) c.loop-i.bytes ++ r) (sym (bytes_of-four (get_or ws i 0)))
          ∙ ap (λ r. r ++ bytes_of 4 (get_or ws i 0)) c.loop-i.invariant.0
          ∙ sym (serialised_push (take i ws) (get_or ws i 0))
          ∙ ap serialised (sym (take_more ws i 0 inside))),
      simp length-set (omega arith),
    )
