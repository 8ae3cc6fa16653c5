-- The pairs of a tape and an answer table with a done opening match one to one under two secrets over one public circuit, and the server sees the same.
use Rattle.std.proofs.Common.{◌≡◌, ℕ, ◌-◌, ◌*◌, ◌≤◌, Bool, List, length, sym, ◌∙◌, subst₂, arith}
use mathlib.Core.Equiv.{Iso}
use mathlib.Core.HLevel.{Σ_prop_path}
use Rattle.label.specs.Hashes.{HashFunction}
use Rattle.label.specs.Rows.{table_function}
use Rattle.label.specs.declared.rows.Row.{Row}
use Rattle.wires.specs.Wires.{Wiring}
use Rattle.garbling.specs.Tape.{offset_in, need_of, drawn_for}
use Rattle.garbling.specs.Garbling.{falses_of}
use Rattle.garbling.specs.Marks.{Mark, marks_of}
use Rattle.circuit.specs.Plain.{plain_outputs}
use Rattle.circuit_laws.specs.Chance.{Chance, Done, Opened}
use Rattle.circuit_laws.proofs.Shown.{Shows}
use Rattle.circuit_laws.proofs.SameSeen.{MatchedFor, SeenAlike, seen_alike}
use Rattle.circuit_laws.proofs.SameMarks.{same_equal, same_marks}
use Rattle.circuit_laws.proofs.Carrying.{tape_carried, rows_carried, carried_matched, tape_carried_back, rows_carried_back}
use Rattle.circuit_laws.proofs.CarriedChance.{need_shown, drawn_shown, chance_carried}
use Rattle.circuit_laws.proofs.FiniteChance.{chance_path, done_prop}

-- From c and x to c' and x'.
module _ (c c' d : Wiring) (shows : Shows c d) (shows' : Shows c' d) (x x' : List Bool) (place bytes rows : ℕ) (long : 3 * d.wires ≤ rows) where
  module _ (θ : Chance bytes rows) (enough : need_of c ≤ length θ.0.0 - place) where
    abbrev tape : List ℕ
    tape = θ.0.0

    abbrev table : List Row
    table = θ.1.0

    abbrev tape' : List ℕ
    tape' = tape_carried c c' d x x' place tape table

    abbrev table' : List Row
    table' = rows_carried c c' d x x' place tape table

    enough_shown : need_of d ≤ length tape - place
    enough_shown = omega (arith, need_shown c d shows)

    table_long : 3 * d.wires ≤ length table
    table_long = omega (arith, θ.1.1)

    -- What is drawn for c and for c' matches.
    pub matched : MatchedFor c c' d x x' (drawn_for c tape place) (drawn_for c' tape' place) table table'
    matched =
        subst₂ (λ (T T' : List ℕ). MatchedFor c c' d x x' T T' table table')
        (sym (drawn_shown c d shows place tape)) (sym (drawn_shown c' d shows' place tape'))
        (carried_matched c c' d shows shows' x x' place tape table enough_shown table_long)

    pub carried_back : chance_carried c' c d shows' x' x place bytes rows (chance_carried c c' d shows x x' place bytes rows θ) ≡ θ
    carried_back =
        chance_path bytes rows _ θ
        (tape_carried_back c c' d shows shows' x x' place tape table enough_shown table_long)
        (rows_carried_back c c' d shows shows' x x' place tape table enough_shown table_long)

    -- The opening of c' is done where that of c is.
    pub done_carried : Done c place tape table → Done c' place tape' table'
    done_carried done = record {
      enough =
          let same : length tape' ≡ length tape = (chance_carried c c' d shows x x' place bytes rows θ).0.1 ∙ sym θ.0.1 in
          omega (arith, done.enough, need_shown c d shows, need_shown c' d shows', same);
      apart = same_equal c c' d shows shows' x x' (drawn_for c tape place) (drawn_for c' tape' place) table table' matched ∙ done.apart;
    }

  -- A done opening of c, as one of c'.
  abbrev pub opened_carried : Opened c place bytes rows → Opened c' place bytes rows
  opened_carried o = (chance_carried c c' d shows x x' place bytes rows o.0, done_carried o.0 o.1.enough o.1)

-- The bytes that a done opening draws, and the hash that it asks.
abbrev pub drawn_in : (c : Wiring) (place : ℕ) {bytes rows : ℕ} → Opened c place bytes rows → List ℕ
drawn_in c place o = drawn_for c o.0.0.0 place

abbrev pub hash_in : (c : Wiring) (place : ℕ) {bytes rows : ℕ} → Opened c place bytes rows → HashFunction
hash_in c place o = table_function o.0.1.0

-- The marks that it makes for a bit.
abbrev pub marks_in : (c : Wiring) (place : ℕ) {bytes rows : ℕ} → Opened c place bytes rows → Bool → List Mark
marks_in c place o b = marks_of c (hash_in c place o) (offset_in (drawn_in c place o)) (falses_of c (drawn_in c place o) (hash_in c place o)) b

-- The done openings of c, where x is entered, and of c', where x' is, match one to one, so that a server that knows d has the same garbled gates,
-- labels and answers, whatever the outputs, and the same marks where the outputs are equal.
pub record OpeningsMatch (c c' d : Wiring) (x x' : List Bool) (place bytes rows : ℕ) : Type 0 where
  pub matching : Iso (Opened c place bytes rows) (Opened c' place bytes rows)
  pub seen : (o : Opened c place bytes rows)
      → SeenAlike c c' d x x' (drawn_in c place o) (drawn_in c' place (matching.fun o)) (hash_in c place o) (hash_in c' place (matching.fun o))
  pub marks : plain_outputs c x ≡ plain_outputs c' x' → (b : Bool) (o : Opened c place bytes rows)
      → marks_in c' place (matching.fun o) b ≡ marks_in c place o b

module _ (c c' d : Wiring) (shows : Shows c d) (shows' : Shows c' d) (x x' : List Bool) (place bytes rows : ℕ) (long : 3 * d.wires ≤ rows) where
  abbrev there : Opened c place bytes rows → Opened c' place bytes rows
  there = opened_carried c c' d shows shows' x x' place bytes rows long

  there_matched : (o : Opened c place bytes rows) → MatchedFor c c' d x x' (drawn_in c place o) (drawn_in c' place (there o)) o.0.1.0 (there o).0.1.0
  there_matched o = matched c c' d shows shows' x x' place bytes rows long o.0 o.1.enough

  pub openings_match : OpeningsMatch c c' d x x' place bytes rows
  openings_match = record {
    matching = record {
      fun = there;
      inv = opened_carried c' c d shows' shows x' x place bytes rows long;
      rinv = λ o. Σ_prop_path (λ (θ : Chance bytes rows). done_prop c' place θ.0.0 θ.1.0) (carried_back c' c d shows' shows x' x place bytes rows long o.0 o.1.enough);
      linv = λ o. Σ_prop_path (λ (θ : Chance bytes rows). done_prop c place θ.0.0 θ.1.0) (carried_back c c' d shows shows' x x' place bytes rows long o.0 o.1.enough);
    };
    seen = λ o. seen_alike c c' d shows shows' x x' (drawn_in c place o) (drawn_in c' place (there o)) o.0.1.0 (there o).0.1.0 (there_matched o);
    marks = λ outputs b o. same_marks c c' d shows shows' x x' (drawn_in c place o) (drawn_in c' place (there o)) o.0.1.0 (there o).0.1.0 (there_matched o) outputs b;
  }
