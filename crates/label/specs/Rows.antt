-- The answer table: row r holds, for each colour, the answer for tweak r; past its last row all answers are zero.
use Rattle.std.specs.Prelude.{ℕ, Bool, false, cond, List, get_or}
use Rattle.label.specs.declared.hash.Answer.{Answer}
use Rattle.label.specs.declared.rows.Row.{Row}
use Rattle.label.specs.Labels.{Label, colour_of}

abbrev pub blank_answer : Answer
blank_answer = record { word = 0; pair = record { low = false; high = false } }

abbrev pub blank_row : Row
blank_row = record { zero = blank_answer; one = blank_answer }

-- The answer of a row for a colour.
abbrev pub by_colour : Row → Bool → Answer
by_colour r c = cond c r.one r.zero

abbrev pub table_function : List Row → Label → ℕ → Answer
table_function rows label tweak = by_colour (get_or rows tweak blank_row) (colour_of label)
