use Rattle.std.proofs.Common.{◌≡◌, ℕ, ◌&&◌, eqb, List, [], ◌∷◌, map, Bor, refl, ap, ◌∙◌, rules, tests}
use Rattle.std.specs.List.{list_all}
use Rattle.std.proofs.lemmas.Iterator.{YieldsList-from_slice}
use Rattle.std.proofs.lemmas.Iterator.Search.{all_from_yields_List}
use Rattle.wires.specs.Read.{wiring_of}
use Rattle.wires.specs.Wires.{Wiring}
use Rattle.ledger.specs.Sheet.{sheet_inputs}
use Rattle.server.specs.Sheets.{sheets_fit}
use Rattle.server.proofs.sheets.Sheets.fit.Goals as goal

all_fit : (c : Wiring) (sheets : List (Bor (List ℕ)))
    → list_all (λ s. eqb (sheet_inputs s.now) c.inputs) sheets ≡ sheets_fit c (map (λ s. s.now) sheets)
all_fit c [] = refl
all_fit c (s ∷ sheets) = ap (λ b. eqb (sheet_inputs s.now) c.inputs && b) (all_fit c sheets)

pub returns : goal.returns
returns c =
    let circuit = wiring_of c.args.self.now.circuit in
    all_from_yields_List (λ (s : Bor (List ℕ)). eqb (sheet_inputs s.now) circuit.inputs) _ _ _ c.all.ensures.ran
    (YieldsList-from_slice c.args.self.now.by_side (cc)) (λ x b q k. search (rules, tests))
    ∙ all_fit circuit c.args.self.now.by_side
