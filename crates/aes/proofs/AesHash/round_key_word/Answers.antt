-- The words are the key schedule of the key that they hold.
use Rattle.std.proofs.Common.{◌≡◌, ℕ, ◌<◌, Bool, cond, List, length, get_or, Option, Some, None, Bor, sym, ap, ◌∙◌, arith, ltb, ltb-true}
use Rattle.std.proofs.lemmas.List.{get_or_default}
use Rattle.std.specs.Option.{is_some, IfSome, option_copied}
use Rattle.aes.specs.Keys.{material_of, schedule_word}
use Rattle.aes.proofs.AesHash.round_key_word.Goals as goal

got : (o : Option (Bor ℕ)) (words : List ℕ) (i : ℕ) → is_some o ≡ ltb i 44 → IfSome o (λ x. x.now ≡ get_or words i x.now) → length words ≡ 44
    → option_copied o ≡ cond (ltb i 44) (Some (get_or words i 0)) None
got (Some x) words i a b long =
    let within : i < 44 = ltb-true i 44 (sym a) in
    ap Some (b ∙ get_or_default words i x.now 0 (omega arith)) ∙ ap (λ (v : Bool). cond v (Some (get_or words i 0)) None) a
got None words i a b long = ap (λ (v : Bool). cond v (Some (get_or words i 0)) None) a

pub returns : goal.returns
unfolding material_of schedule_word
returns c =
    let words = c.args.self.now.words in
    let long : length words ≡ 44 = omega arith in
    c.copied.ensures
    ∙ got c.get.result words _ (c.get.ensures.lookup.0 ∙ ap (ltb _) long) c.get.ensures.lookup.1 long
    ∙ ap (λ (k : ℕ). cond (ltb k 44) (Some (get_or words k 0)) None) (omega arith)
    ∙ ap (λ (l : List ℕ). cond (ltb c.args.i 44) (Some (get_or l c.args.i 0)) None) c.args.self.now.expands
