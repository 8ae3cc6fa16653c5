-- A run of a form F on the sheets of all sides, under the hash function f.
use Rattle.std.specs.Prelude.{ℕ, List, [], ◌++◌, Some, None, Option}
use Rattle.label.specs.Labels.{Label}
use Rattle.label.specs.Hashes.{HashFunction, Question}
use Rattle.wires.specs.Wires.{Wiring}
use Rattle.circuit.specs.Check.{Fault, or_else}
use Rattle.garbling.specs.Evaluation.{met_of, evaluate_asks, output_asks}
use Rattle.form.specs.Read.{form_wiring, gates_in}
use Rattle.server.specs.Sheets.{inputs_on, lengths_fault, sheets_fault, missing_fault}
use Rattle.server.specs.Outputs.{neither_fault, output_bytes}

-- The labels met on all wires, where c is the form's circuit.
abbrev pub labels_met : Wiring → List ℕ → HashFunction → List (List ℕ) → List Label
labels_met c F f sheets = met_of c f (gates_in F) (inputs_on c sheets)

-- What stops a run before it asks anything: the lengths, the sheets, a label that has not come.
abbrev pub early_fault : Wiring → List (List ℕ) → ℕ → ℕ → Option Fault
early_fault c sheets work outputs = or_else (lengths_fault c sheets work outputs) (or_else (sheets_fault c sheets) (missing_fault c sheets))

-- The first fault of a run; an output that meets neither mark comes last.
abbrev pub fault_on : Wiring → List ℕ → HashFunction → List (List ℕ) → ℕ → ℕ → Option Fault
fault_on c F f sheets work outputs = or_else (early_fault c sheets work outputs) (neither_fault c F f (labels_met c F f sheets))

-- The questions are asked where nothing stops the run before.
abbrev pub asked_unless : Option Fault → List Question → List Question
asked_unless None qs = qs
asked_unless (Some fault) qs = []

-- What is asked: for the gates, then for the outputs.
abbrev pub asks_on : Wiring → List ℕ → HashFunction → List (List ℕ) → ℕ → ℕ → List Question
asks_on c F f sheets work outputs =
    asked_unless (early_fault c sheets work outputs) (evaluate_asks c f (gates_in F) (inputs_on c sheets) ++ output_asks c (labels_met c F f sheets))

-- The same of a form by its bytes: fault, questions, and the outputs of a run that is done.
abbrev pub run_fault : List ℕ → HashFunction → List (List ℕ) → ℕ → ℕ → Option Fault
run_fault F f sheets work outputs = fault_on (form_wiring F) F f sheets work outputs

abbrev pub run_asks : List ℕ → HashFunction → List (List ℕ) → ℕ → ℕ → List Question
run_asks F f sheets work outputs = asks_on (form_wiring F) F f sheets work outputs

abbrev pub run_outputs : List ℕ → HashFunction → List (List ℕ) → List ℕ
run_outputs F f sheets = output_bytes (form_wiring F) F f (labels_met (form_wiring F) F f sheets)
