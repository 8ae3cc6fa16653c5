-- A form that is written of an accepted circuit passes its check.
use Rattle.std.specs.Prelude.{◌≡◌, ℕ, ◌<◌, ◌≤◌, true, false, List, length, None, slice_index_or}
use Rattle.label.specs.Sums.{pairs}
use Rattle.wires.specs.Wires.{Wiring, class_at, allowed, is_garbled, output_wires, garbled_wires}
use Rattle.circuit.specs.Check.{most_outputs}
use Rattle.circuit.specs.Accepted.{SizesSound, WiresSound}
use Rattle.garbling.specs.Marks.{Mark}
use Rattle.garbling.specs.Garbling.{gate_index}
use Rattle.gate.specs.declared.garble.SentGate.{SentGate}
use Rattle.garbling.specs.Evaluation.{no_gate}
use Rattle.form.specs.Layout.{form_of}
use Rattle.form.specs.Back.{FormFits}
use Rattle.server.specs.Faults.{is_hidden, form_fault}

-- What a form is written of: a circuit that a table may have, a gate for each wire that is garbled, without high control bits unless it is hidden, and two marks for each output.
pub record Written (c : Wiring) (gs : List SentGate) (falses trues : List Mark) : Type 0 where
  pub fits : FormFits c gs falses trues
  pub sizes : SizesSound c.wires c.inputs
  pub wires : WiresSound allowed c c.wires
  pub some_output : 1 ≤ length (output_wires c)
  pub few_outputs : length (output_wires c) ≤ most_outputs
  pub gates : length gs ≡ length (garbled_wires c)
  pub marks : length falses ≡ length (output_wires c)
  pub lows : (w e : ℕ) → w < c.wires → is_garbled c w ≡ true → is_hidden (class_at c w) ≡ false
      → (slice_index_or (slice_index_or gs (gate_index c w) no_gate).controls e pairs.o).high ≡ false

-- Such a form has no fault.
abbrev pub FormPasses : Type 0
FormPasses =
    (c : Wiring) (gs : List SentGate) (falses trues : List Mark) → Written c gs falses trues → form_fault (form_of c gs falses trues) ≡ None
