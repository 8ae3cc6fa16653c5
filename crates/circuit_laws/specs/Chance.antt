-- What chance brings to an opening: a tape and an answer table; and which of these pairs lead to a done opening.
use Rattle.std.specs.Prelude.{◌≡◌, ℕ, ◌-◌, ◌^◌, ◌<◌, ◌≤◌, List, [], ◌∷◌, length}
use Rattle.label.specs.Hashes.{HashFunction}
use Rattle.label.specs.Rows.{table_function}
use Rattle.label.specs.declared.rows.Row.{Row}
use Rattle.wires.specs.Wires.{Wiring}
use Rattle.garbling.specs.Tape.{need_of, drawn_for, offset_in}
use Rattle.garbling.specs.Garbling.{falses_of}
use Rattle.garbling.specs.Marks.{equal_below}

-- Something holds of each element of a list.
abbrev pub Each : {A : Type 0} → (A → Type 0) → List A → Type 0
Each P [] = Unit {0}
Each P (a ∷ rest) = P a × Each P rest

-- The tapes of one length: so many bytes.
abbrev pub Tapes : ℕ → Type 0
Tapes size = (bytes : List ℕ) × (length bytes ≡ size) × Each (λ b. b < 256) bytes

-- The answer tables of one size: so many rows, each of two answers, each a word of 64 bits and a control pair.
abbrev pub FitsRow : Row → Type 0
FitsRow r = (r.zero.word < 2 ^ 64) × (r.one.word < 2 ^ 64)

abbrev pub AnswerTables : ℕ → Type 0
AnswerTables size = (rows : List Row) × (length rows ≡ size) × Each FitsRow rows

-- All pairs of a tape and an answer table, of these sizes: they are finitely many.
abbrev pub Chance : ℕ → ℕ → Type 0
Chance bytes rows = Tapes bytes × AnswerTables rows

-- An opening of circuit c is done: enough is left of the tape, and at no output are the two marks equal.
pub record Done (c : Wiring) (place : ℕ) (tape : List ℕ) (rows : List Row) : Type 0 where
  pub enough : need_of c ≤ length tape - place
  pub apart : (let T : List ℕ = drawn_for c tape place in let f : HashFunction = table_function rows in
      equal_below c f (offset_in T) (falses_of c T f) c.wires ≡ [])

-- The pairs of these sizes for which the opening of c at this place of the tape is done.
abbrev pub Opened : Wiring → ℕ → ℕ → ℕ → Type 0
Opened c place bytes rows = (θ : Chance bytes rows) × Done c place θ.0.0 θ.1.0
