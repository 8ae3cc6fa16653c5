-- Labels in the work words: those of the inputs, and those that evaluation comes to.
use Rattle.std.specs.Prelude.{◌≡◌, ℕ, ◌<◌, List}
use Rattle.label.specs.Labels.{Label}
use Rattle.label.specs.Hashes.{HashFunction, Asked}
use Rattle.wires.specs.Wires.{Wiring}
use Rattle.garbling.specs.Garbling.{label_in}
use Rattle.garbling.specs.Words.{kept_at, labels_kept}
use Rattle.garbling.specs.Evaluation.{met_of, evaluate_asks}
use Rattle.form.specs.Read.{gates_in}

-- The words hold these labels of the inputs.
abbrev pub HoldInputs : Wiring → List ℕ → List Label → Type 0
HoldInputs c ws xs = (w : ℕ) → w < c.wires → w < c.inputs → kept_at ws w ≡ label_in xs w

-- Whatever input labels the words held before, after they hold the labels met on all wires.
abbrev pub Evaluates : Wiring → List ℕ → HashFunction → List ℕ → List ℕ → Type 0
Evaluates c F f before after = (xs : List Label) → HoldInputs c before xs → labels_kept after c.wires ≡ met_of c f (gates_in F) xs

-- What is asked of the hash for it.
abbrev pub EvaluateAsked : {H : Type 0} → (H → Label → ℕ → H → Type 0) → Wiring → List ℕ → HashFunction → List ℕ → H → H → Type 0
EvaluateAsked asks c F f before h k =
    (xs : List Label) → HoldInputs c before xs → Asked asks (evaluate_asks c f (gates_in F) xs) h k
