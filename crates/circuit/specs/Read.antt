-- What the code's values stand for.
use Rattle.std.specs.Prelude.{◌≡◌, ℕ, Bool, List, length, ◌==◌}
use Rattle.wires.specs.declared.Class.{Class}
use Rattle.circuit.specs.declared.check.TruthRule.{TruthRule}
use Rattle.circuit.specs.declared.check.TruthRule.TheVariants.{ByClass, Blank}
use Rattle.circuit.specs.declared.table.Table.{Table}
use Rattle.wires.specs.Read.{wiring_of}
use Rattle.wires.specs.Wires.{allowed, garbled_wires, output_wires}
use Rattle.circuit.specs.Check.{table_wiring}

abbrev pub rule_of : TruthRule → Class → ℕ → Bool
rule_of ByClass k t = allowed k t
rule_of Blank k t = t == 0

-- What a checked table holds of its bytes: the wires, and how many of them are garbled gates and outputs.
abbrev pub Holds : List ℕ → Table → Type 0
Holds s t =
    (wiring_of t.circuit ≡ table_wiring s) × (t.garbled ≡ length (garbled_wires (table_wiring s)))
    × (t.outputs ≡ length (output_wires (table_wiring s)))
