-- One output marked: what is written, what is asked, and whether its two marks are the first that are equal.
use Rattle.std.specs.Prelude.{ℕ, Bool, true, false, cond, List, [], Some, None, Option}
use Rattle.label.specs.Labels.{Label, label_bytes}
use Rattle.label.specs.Hashes.{HashFunction, Question}
use Rattle.wires.specs.Wires.{Wiring, is_output}
use Rattle.garbling.specs.Marks.{Mark, mark_at, marks_ask_at}

-- An output's false mark and its true mark.
abbrev pub MarkPair : Type 0
MarkPair = Mark × Mark

abbrev pub false_bytes : MarkPair → List ℕ
false_bytes p = label_bytes p.0

abbrev pub true_bytes : MarkPair → List ℕ
true_bytes p = label_bytes p.1

abbrev pub marks_at : Wiring → HashFunction → Label → List Label → ℕ → MarkPair
marks_at c f Δ ls w = (mark_at c f Δ ls false w, mark_at c f Δ ls true w)

-- What is asked for wire w, which may be no output.
abbrev pub asks_at : Wiring → Label → List Label → ℕ → List Question
asks_at c Δ ls w = cond (is_output c w) (marks_ask_at c Δ ls w) []

-- The first found so far, or this wire where the test holds.
abbrev pub first_then : Option ℕ → Bool → ℕ → Option ℕ
first_then (Some v) b w = Some v
first_then None b w = cond b (Some w) None
