-- Both sides open alike; a wire's two labels differ in colour; the form shows the public part of the table.
use Rattle.std.proofs.Common.{◌≡◌, ℕ, ◌^◌, ◌<◌, Bool, true, false, not, List, is_ok, Ok, Err, Result, sym, refl, ap, ◌∙◌, subst, arith}
use Rattle.std.proofs.lemmas.Bool.{lt-ltb, eq-eqb, false≢true}
use Rattle.label.specs.Sums.{◌⊻◌}
use Rattle.label.specs.Labels.{colour_of}
use Rattle.label.specs.Hashes.{HashFunction}
use Rattle.wires.specs.Wires.{Wiring}
use Rattle.refusal.specs.declared.Refusal.{Refusal}
use Rattle.circuit.specs.Check.{unless, or_else, sides, table_wiring}
use Rattle.circuit.specs.Public.{PublicOf}
use Rattle.gate_laws.proofs.Colours.{colour_of_shifted}
use Rattle.garbling.specs.Tape.{offset_in, drawn_for}
use Rattle.form.specs.Read.{form_wiring}
use Rattle.form.proofs.Backs.{circuit_back}
use Rattle.opening.specs.Opening.{lent_fault, tape_fault, marks_fault, equal_output, gates_sent, marks_sent, opened_form, left}
use Rattle.opening.specs.Laws.{Alike, ColoursDiffer}

pub open_alike : Alike
open_alike = record {
  same = λ side side' table tape place f form form' store store' after after' o o'. (
    o.form_is ∙ sym o'.form_is,
    o.store_is ∙ sym o'.store_is,
    o.after_is ∙ sym o'.after_is,
  );
  both = λ side side' table tape place f room one other.
      ap (λ b. or_else (or_else (unless b (11, 0) (lent_fault table room)) (tape_fault (table_wiring table) tape place))
      (marks_fault (equal_output (table_wiring table) (drawn_for (table_wiring table) tape place) f)))
      (lt-ltb side sides one ∙ sym (lt-ltb side' sides other));
}

-- The offset has colour 1.
pub offset_coloured : (T : List ℕ) → colour_of (offset_in T) ≡ true
offset_coloured T = eq-eqb _ 1 (omega arith)

turned : (b : Bool) → b ⊻ true ≡ not b
turned true = refl
turned false = refl

pub colours_differ : ColoursDiffer
colours_differ T l = colour_of_shifted (offset_in T) l (offset_coloured T) true ∙ turned (colour_of l)

-- The form of a done opening shows the public part of the circuit.
form_shows : (c : Wiring) (T : List ℕ) (f : HashFunction) → c.wires < 2 ^ 16 → c.inputs < 2 ^ 16 → PublicOf c (form_wiring (opened_form c T f))
unfolding opened_form
form_shows c T f wires inputs = circuit_back c (gates_sent c T f) (marks_sent c T f false) (marks_sent c T f true) wires inputs

pub shows_public : {S : Type 0} (r : Result S Refusal) (c : Wiring) (T : List ℕ) (f : HashFunction) (F zero before : List ℕ) → c.wires < 2 ^ 16 → c.inputs < 2 ^ 16
    → F ≡ left r (opened_form c T f) zero before → is_ok r ≡ true → PublicOf c (form_wiring F)
shows_public (Ok s) c T f F zero before wires inputs form done = subst (λ G. PublicOf c (form_wiring G)) (sym form) (form_shows c T f wires inputs)
shows_public (Err e) c T f F zero before wires inputs form done = absurd (false≢true done)
