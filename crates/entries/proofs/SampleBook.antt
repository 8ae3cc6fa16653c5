-- The sample book is kept: each of its done calls has no fault where it stands, by computation.
use Rattle.std.proofs.Common.{ℕ, zero, suc, ◌<◌, refl, arith, lit<}
use Rattle.ledger.specs.Ledger.{owners_of, empty_ledger}
use Rattle.entries.specs.Steps.{State}
use Rattle.entries.specs.Book.{state_after, Kept, closed_by, released_by}
use Rattle.entries.specs.OneLabel.{Small}
use Rattle.entries.specs.Sample.{SampleKept, sample_labels}
use Rattle.entries.specs.Book.{false_label}

nothing : State
nothing = record { ledger = empty_ledger; store = mathlib.Core.List.[]; sheet = mathlib.Core.List.[] }

each_small : (w : ℕ) → w < 2 → Small (false_label sample_labels w)
each_small zero below = (lit< tt, lit< tt)
each_small (suc zero) below = (lit< tt, lit< tt)
each_small (suc (suc w)) below = absurd (omega arith)

pub sample_kept : SampleKept
unfolding state_after Kept closed_by released_by owners_of nothing
sample_kept = record {
  sound = record { few = omega arith; each = refl; small = each_small; offset = (lit< tt, lit< tt) };
  kept = (((((tt, refl, refl), refl, refl), refl, refl), refl, (nothing, (12, 0), refl)), refl, refl);
  released = refl;
  closed = refl;
}
