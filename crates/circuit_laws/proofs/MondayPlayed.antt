-- The Monday round, by computing.
use Rattle.std.proofs.Common.{◌≡◌, ℕ, ◌^◌, ◌<◌, Bool, true, ◌&&◌, ltb, List, [], ◌∷◌, refl, lit≤}
use lib.Count.{ones, ones_in}
use Rattle.std.proofs.lemmas.Bool.{and_parts, ltb-true}
use Rattle.wires.specs.Wires.{wires_where}
use Rattle.circuit.specs.Accepted.{Accepted}
use Rattle.circuit.specs.Check.{table_wiring, lowest_fault}
use Rattle.circuit.specs.Plain.{values_below}
use Rattle.circuit.proofs.Accepts.{no_fault_accepted}
use Rattle.garbling.specs.Garbling.{falses_below}
use Rattle.garbling.specs.Evaluation.{met_below}
use Rattle.circuit_laws.specs.Chance.{Each, FitsRow, Chance, Done}
use Rattle.circuit_laws.specs.MondayRound.{and_table, nor_table, monday_tape, monday_rows, Playable, MondayRound}

-- A test passes at each element of a list.
abbrev all : {A : Type 0} → (A → Bool) → List A → Bool
all test [] = true
all test (a ∷ rest) = test a && all test rest

each_passes : {A : Type 0} (P : A → Type 0) (test : A → Bool) → ((a : A) → test a ≡ true → P a) → (xs : List A) → all test xs ≡ true → Each P xs
each_passes P test says [] passed = tt
each_passes P test says (a ∷ rest) passed =
    let parts = and_parts (test a) (all test rest) passed in
    (says a parts.0, each_passes P test says rest parts.1)

monday_chance : Chance 51 17
monday_chance = (
  (monday_tape, refl, each_passes (λ b. b < 256) (λ b. ltb b 256) (λ b passed. ltb-true b 256 passed) monday_tape refl),
  (
    monday_rows,
    refl,
    each_passes FitsRow (λ r. ltb r.zero.word (2 ^ 64) && ltb r.one.word (2 ^ 64)) (λ r passed.
        let parts = and_parts (ltb r.zero.word (2 ^ 64)) (ltb r.one.word (2 ^ 64)) passed in
        (ltb-true r.zero.word (2 ^ 64) parts.0, ltb-true r.one.word (2 ^ 64) parts.1)) monday_rows refl,
  ),
)

-- What can be played has causes: the tape and the rows themselves.
playable : (s : List ℕ) → Accepted s → Done (table_wiring s) 0 monday_tape monday_rows → Playable s
unfolding monday_chance
playable s accepted done = record { accepted = accepted; done = done; cause = λ u v. ((monday_chance, done), refl) }

monday_and : Playable and_table
unfolding lowest_fault wires_where ones ones_in falses_below
monday_and = playable and_table (no_fault_accepted and_table refl) record { enough = lit≤ tt; apart = refl }

monday_nor : Playable nor_table
unfolding lowest_fault wires_where ones ones_in falses_below
monday_nor = playable nor_table (no_fault_accepted nor_table refl) record { enough = lit≤ tt; apart = refl }

pub monday_round : MondayRound
unfolding wires_where falses_below values_below met_below
monday_round = record {
  and = monday_and;
  nor = monday_nor;
  rows = lit≤ tt;
  no_no = (refl, refl);
  no_yes = (refl, refl);
  yes_no = (refl, refl);
  yes_yes = (refl, refl);
  same_table = refl;
  other_table = (refl, refl);
  gates = λ u v. refl;
  marks = λ u v. (refl, refl);
  labels = (refl, refl);
}
