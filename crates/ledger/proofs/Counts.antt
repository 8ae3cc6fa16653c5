-- How many entries of a ledger a test picks is how many wires it picks by their entries.
use Rattle.std.proofs.Common.{◌≡◌, ℕ, zero, suc, ◌≤◌, Bool, length, take, sym, refl, ap, ◌∙◌, subst, arith, add-one}
use Rattle.std.specs.List.{count_by, filter}
use Rattle.std.proofs.lemmas.List.{take_all}
use Rattle.std.proofs.lemmas.List.Sums.{length-filter}
use Rattle.std.proofs.lemmas.List.Filters.{length-filter_more}
use Rattle.wires.specs.Wires.{wires_where}
use Rattle.wires.proofs.Scans.{count_more}
use Rattle.ledger.specs.declared.Entry.{Entry}
use Rattle.ledger.specs.declared.Entry.TheVariants.{Empty}
use Rattle.ledger.specs.declared.Ledger.{Ledger}
use Rattle.ledger.specs.Ledger.{entry_at}

module _ (p : Entry → Bool) (l : Ledger) where
  picked : (n : ℕ) → n ≤ length l.entries → length (filter p (take n l.entries)) ≡ length (wires_where (λ w. p (entry_at l w)) n)
  unfolding wires_where
  picked zero whole = refl
  picked (suc n) whole =
      let here = length-filter_more p l.entries n Empty (omega arith) in
      let there = count_more (λ w. p (entry_at l w)) n in
      let below = picked n (omega arith) in
      subst (λ k. length (filter p (take k l.entries)) ≡ length (wires_where (λ w. p (entry_at l w)) k)) (add-one n) (omega (arith, here, there, below))

  pub picked_all : (n k : ℕ) → length l.entries ≡ n → k ≡ count_by p l.entries → k ≡ length (wires_where (λ w. p (entry_at l w)) n)
  picked_all n k whole counted =
      counted ∙ sym (length-filter p l.entries) ∙ ap (λ es. length (filter p es)) (sym (take_all n l.entries (omega arith))) ∙ picked n (omega arith)
