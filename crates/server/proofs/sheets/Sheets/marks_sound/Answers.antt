use Rattle.std.proofs.Common.{◌≡◌, ℕ, suc, ◌&&◌, List, [], ◌∷◌, map, Bor, refl, ap, ◌∙◌, add-one, rules, tests}
use Rattle.std.specs.List.{list_all, enumerate_from}
use Rattle.std.proofs.lemmas.Iterator.{YieldsList-from_slice}
use Rattle.std.proofs.lemmas.Iterator.Consumers.{YieldsList-from_enumerate}
use Rattle.std.proofs.lemmas.Iterator.Search.{all_from_yields_List}
use Rattle.wires.specs.Read.{wiring_of}
use Rattle.wires.specs.Wires.{Wiring}
use Rattle.server.specs.Sheets.{mark_sound, sound_from}
use Rattle.server.proofs.sheets.Sheets.marks_sound.Goals as goal

all_sound : (c : Wiring) (w side : ℕ) (sheets : List (Bor (List ℕ)))
    → list_all (λ p. mark_sound c p.0 p.1.now w) (enumerate_from side sheets) ≡ sound_from c side (map (λ s. s.now) sheets) w
all_sound c w side [] = refl
all_sound c w side (s ∷ sheets) = rw add-one (ap (λ b. mark_sound c side s.now w && b) (all_sound c w (suc side) sheets))

pub returns : goal.returns
returns c =
    let circuit = wiring_of c.args.self.now.circuit in
    all_from_yields_List (λ (p : ℕ × Bor (List ℕ)). mark_sound circuit p.0 p.1.now c.args.wire) _ _ _ c.all.ensures.ran
    (YieldsList-from_enumerate (YieldsList-from_slice c.args.self.now.by_side (cc)) c.enumerate.ensures.count) (λ x b q k. search (rules, tests))
    ∙ all_sound circuit c.args.wire 0 c.args.self.now.by_side
