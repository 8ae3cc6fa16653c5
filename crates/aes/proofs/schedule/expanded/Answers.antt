-- Each turn puts the next word behind the words that stand.
use Rattle.std.proofs.Common.{◌≡◌, ℕ, suc, ◌+◌, ◌-◌, ◌<◌, ◌≤◌, List, [], ◌∷◌, ◌++◌, length, get_or, take, set, sym, ap, ◌∙◌, ap₂, arith, length-set, length-take, get_or-take}
use Rattle.std.proofs.lemmas.List.{take_more_set, take_all}
use Rattle.std.proofs.lemmas.List.FromFn.{fill_by_all}
use Rattle.aes.specs.Fips197.{key_word, scheduled, next_word, schedule, key_expansion}
use Rattle.aes.proofs.schedule.expanded.Goals as goal

next_is : (w : List ℕ) (i : ℕ) → 4 ≤ i → scheduled i (get_or w (i - 1) 0) (get_or w (i - 4) 0) ≡ next_word (take i w) i
unfolding next_word
next_is w i h = ap₂ (scheduled i) (sym (get_or-take i w (i - 1) 0 (omega arith))) (sym (get_or-take i w (i - 4) 0 (omega arith)))

more : (w key : List ℕ) (n i v : ℕ) → i ≡ n + 4 → i < length w → take i w ≡ schedule n key
    → v ≡ scheduled i (get_or w (i - 1) 0) (get_or w (i - 4) 0) → take (i + 1) (set w i v) ≡ schedule (suc n) key
unfolding schedule
more w key n i v at long stand e =
    take_more_set w i v long
    ∙ ap₂ (λ (l : List ℕ) (x : ℕ). l ++ x ∷ []) stand (e ∙ next_is w i (omega arith) ∙ ap₂ next_word stand at)

pub loop-i-2-init : goal.loop-i-2-init
unfolding schedule
loop-i-2-init c =
    let w = c.loop-i.w in (
      fill_by_all (key_word c.args.key.now) (take 4 w) 4 0 (simp length-take (omega arith))
          (λ k h. get_or-take 4 w k 0 h ∙ c.loop-i.invariant.0 k (omega arith)),
      c.loop-i.invariant.1,
    )

pub loop-i-2-preserved : goal.loop-i-2-preserved
loop-i-2-preserved c =
    let i = c.loop-i-2.i in (
      more c.loop-i-2.w c.args.key.now (i - 4) i c.word_at.result (omega arith) (omega arith) c.loop-i-2.invariant.0 c.word_at.ensures
          ∙ ap (λ (n : ℕ). schedule n c.args.key.now) (omega arith),
      simp length-set c.loop-i-2.invariant.1,
    )

pub returns : goal.returns
unfolding key_expansion
returns c =
    sym (take_all c.loop-i-2.i c.loop-i-2.w (omega arith)) ∙ c.loop-i-2.invariant.0
    ∙ ap (λ (n : ℕ). schedule n c.args.key.now) (omega arith)
