-- The words of the block's key and nonce are the prepared words and the label's halves.
use Rattle.std.proofs.Common.{get_or, sym, refl, ap, ◌∙◌, arith}
use Rattle.std.proofs.lemmas.List.FromFn.{fill_by_all}
use Rattle.slices.specs.Little.{bytes_of}
use Rattle.chacha.specs.Bytes.{four_at, serialised}
use Rattle.chacha.specs.Block.{initial_state}
use Rattle.chacha.specs.Hash.{label_key, label_nonce}
use Rattle.slices.proofs.LittleLaws.{little-bytes_of, little-back, little-high}
use Rattle.chacha.proofs.hash.start.Goals as goal

pub returns : goal.returns
unfolding initial_state bytes_of four_at
returns c =
    let words = c.args.words.now in
    let label = c.args.label in
    c.state_of.ensures
    ∙ (simp (
      little-back 4 (get_or words 0 0) (omega arith),
      little-back 4 (get_or words 1 0) (omega arith),
      little-back 4 (get_or words 2 0) (omega arith),
      little-back 4 (get_or words 3 0) (omega arith),
      c.low.ensures,
      little-bytes_of 4 label.0,
      c.high.ensures,
      little-high label.0 (omega arith),
      c.low-2.ensures,
      little-bytes_of 4 label.1,
      c.high-2.ensures,
      little-high label.1 (omega arith),
      little-back 4 (get_or words 4 0) (omega arith),
      little-back 4 (get_or words 5 0) (omega arith),
      little-back 4 (get_or words 6 0) (omega arith),
    ))
    ∙ sym (ap (λ w. initial_state (label_key (serialised w) label) c.args.tweak (label_nonce (serialised w)))
    (fill_by_all (λ i. get_or words i 0) words 7 0 (omega arith) (λ i h. refl)))
