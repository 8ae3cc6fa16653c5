-- The false labels and values that a garbled circuit's lists hold come from pair to gate as the gates see it.
use Rattle.std.proofs.Common.{◌≡◌, ℕ, suc, ◌<◌, ◌≤◌, Bool, true, false, List, [], ◌∷◌, ◌++◌, get_or, sym, refl, ap, ◌∙◌, subst, ap₂, mod-lt, arith, lit<}
use Rattle.std.proofs.lemmas.Bool.{lt-ltb, le-ltb, cond-true, cond-false, eqb-true}
use Rattle.label.specs.Sums.{halves, ◌⊻◌}
use Rattle.label.specs.Labels.{Label}
use Rattle.label.specs.Hashes.{HashFunction}
use Rattle.wires.specs.declared.Class.{Class}
use Rattle.wires.specs.declared.Class.TheVariants.{Free, Even as EvenClass, Odd as OddClass, Hidden as HiddenClass}
use Rattle.wires.specs.Wires.{Wiring, first_at, second_at, class_at, truth_at, kind_at, is_free, allowed, truth}
use Rattle.gate.specs.Sums.{sum_of}
use Rattle.gate.specs.declared.views.Parity.TheVariants.{Even, Odd, Hidden}
use Rattle.gate.specs.declared.garble.GarbledGate.{GarbledGate}
use Rattle.gate.specs.Gates.{garbled_gate}
use Rattle.gate_laws.specs.Computes.{suits}
use Rattle.gate_laws.proofs.Parities.{allowed_suits}
use Rattle.circuit.specs.Accepted.{WiresSound}
use Rattle.circuit.specs.Plain.{PlainRun, values_of, at_outputs}
use Rattle.circuit.specs.Public.{PublicOf}
use Rattle.circuit.proofs.PlainRuns.{plain_run_of}
use Rattle.gate.specs.Classes.{parity_of}
use Rattle.garbling.specs.Tape.{offset_in, dice_in}
use Rattle.garbling.specs.Tweaks.{gate_tweak}
use Rattle.garbling.specs.Garbling.{label_in, false_from, falses_below, falses_of, gate_at}
use Rattle.circuit_laws.proofs.Built.{built_at, built_stays}
use Rattle.circuit_laws.proofs.Wired.{Wired, gate_of}
use Rattle.circuit_laws.proofs.Shown.{index_shown}

-- A free gate's truth table is the exclusive or.
free_truth : (k : Class) (t : ℕ) → is_free k ≡ true → allowed k t ≡ true → (u v : Bool) → truth t u v ≡ u ⊻ v
free_truth Free t free ok u v = ap (λ (n : ℕ). truth n u v) (eqb-true t 6 ok) ∙ six u v
  where
    six : (u v : Bool) → truth 6 u v ≡ u ⊻ v
    six true true = refl
    six true false = refl
    six false true = refl
    six false false = refl
free_truth EvenClass t free ok u v = absurd (let z : ◌≡◌ {A = ℕ} 0 1 = cc in omega arith)
free_truth OddClass t free ok u v = absurd (let z : ◌≡◌ {A = ℕ} 0 1 = cc in omega arith)
free_truth HiddenClass t free ok u v = absurd (let z : ◌≡◌ {A = ℕ} 0 1 = cc in omega arith)

-- A garbled gate's truth table suits its class.
garbled_suits : (k : Class) (t : ℕ) → t < 16 → is_free k ≡ false → allowed k t ≡ true → suits (parity_of k) t ≡ true
garbled_suits Free t small free ok = absurd (let z : ◌≡◌ {A = ℕ} 0 1 = cc in omega arith)
garbled_suits EvenClass t small free ok = allowed_suits Even t small ok
garbled_suits OddClass t small free ok = allowed_suits Odd t small ok
garbled_suits HiddenClass t small free ok = allowed_suits Hidden t small ok

module _ (c : Wiring) (T : List ℕ) (f : HashFunction) where
  abbrev none : falses_below c T f 0 ≡ []
  unfolding falses_below
  none = refl

  abbrev more : (w : ℕ) → falses_below c T f (suc w) ≡ falses_below c T f w ++ (false_from c T f (falses_below c T f w) w ∷ [])
  unfolding falses_below
  more w = refl

  abbrev false_of : ℕ → Label
  false_of w = label_in (falses_of c T f) w

  false_at : (w : ℕ) → w < c.wires → false_of w ≡ false_from c T f (falses_below c T f w) w
  false_at w below = built_at (falses_below c T f) (false_from c T f) none more c.wires w (0, 0) below

  false_below : (w k : ℕ) → w < c.wires → k < w → label_in (falses_below c T f w) k ≡ false_of k
  false_below w k below lower = built_stays (falses_below c T f) (false_from c T f) none more w c.wires k (0, 0) lower (omega arith)

  module _ (sound : WiresSound allowed c c.wires) (d : Wiring) (shown : PublicOf c d) where
    first_below : (w : ℕ) → w < c.wires → c.inputs ≤ w → label_in (falses_below c T f w) (first_at c w) ≡ false_of (first_at d w)
    first_below w below gate = false_below w (first_at c w) below (sound.gates w below gate).first ∙ ap false_of (sym (shown.firsts w below))

    second_below : (w : ℕ) → w < c.wires → c.inputs ≤ w → label_in (falses_below c T f w) (second_at c w) ≡ false_of (second_at d w)
    second_below w below gate = false_below w (second_at c w) below (sound.gates w below gate).second ∙ ap false_of (sym (shown.seconds w below))

    -- The garbled gates of the list.
    pub gate_listed : (w : ℕ) → w < c.wires → c.inputs ≤ w → gate_at c T f w ≡ gate_of d (truth_at c) T f false_of w
    gate_listed w below gate = λ i.
        garbled_gate f (parity_of (sym (shown.classes w below gate) i)) (truth_at c w)
        (dice_in T (sym shown.inputs i) (sym (index_shown c d shown w (omega arith)) i)) (offset_in T)
        (first_below w below gate i) (second_below w below gate i) (gate_tweak w)

    pub wired : (x : List Bool) → Wired d (truth_at c) (λ w. get_or x w false) T f false_of (λ w. get_or (values_of c x) w false)
    wired x = record {
      lower = λ w below gate.
          let h = sound.gates w (small w below) (is_gate_lem w gate) in
          (subst (λ (k : ℕ). k < w) (sym (shown.firsts w (small w below))) h.first, subst (λ (k : ℕ). k < w) (sym (shown.seconds w (small w below))) h.second);
      input = λ w below input.
          let input-c : w < c.inputs = omega (arith, shown.inputs) in
          (false_at w (small w below) ∙ cond-true _ _ _ (lt-ltb w c.inputs input-c), run.inputs w (small w below) input-c);
      free = λ w below gate free.
          let b = small w below in
          let g = is_gate_lem w gate in
          let free-c : is_free (class_at c w) ≡ true = ap is_free (sym (shown.classes w b g)) ∙ free in (
            false_at w b ∙ cond-false _ _ _ (le-ltb w c.inputs g) ∙ cond-true _ _ _ free-c
                ∙ ap₂ (sum_of halves) (first_below w b g) (second_below w b g),
            value_at w b g ∙ free_truth (class_at c w) (truth_at c w) free-c (sound.gates w b g).truth _ _,
          );
      garbled = λ w below gate not-Free.
          let b = small w below in
          let g = is_gate_lem w gate in
          let not-free-c : is_free (class_at c w) ≡ false = ap is_free (sym (shown.classes w b g)) ∙ not-Free in (
            false_at w b ∙ cond-false _ _ _ (le-ltb w c.inputs g) ∙ cond-false _ _ _ not-free-c
                ∙ ap (λ (z : GarbledGate). z.label) (gate_listed w b g),
            value_at w b g,
          );
      suited = λ w below gate not-Free.
          let b = small w below in
          let g = is_gate_lem w gate in
          let same = shown.classes w b g in
          ap (λ (k : Class). suits (parity_of k) (truth_at c w)) same
          ∙ garbled_suits (class_at c w) (truth_at c w) (mod-lt (kind_at c w) (lit< tt)) (ap is_free (sym same) ∙ not-Free) (sound.gates w b g).truth;
    }
      where
        run : PlainRun c x (values_of c x) (at_outputs c (values_of c x))
        run = plain_run_of c x (values_of c x) (at_outputs c (values_of c x)) refl refl

        small : (w : ℕ) → w < d.wires → w < c.wires
        small w below = omega (arith, shown.wires)

        is_gate_lem : (w : ℕ) → d.inputs ≤ w → c.inputs ≤ w
        is_gate_lem w gate = omega (arith, shown.inputs)

        value_at : (w : ℕ) → w < c.wires → c.inputs ≤ w
            → get_or (values_of c x) w false ≡ truth (truth_at c w) (get_or (values_of c x) (first_at d w) false) (get_or (values_of c x) (second_at d w) false)
        value_at w below gate =
            let h = sound.gates w below gate in
            run.gates w below gate h.first h.second
            ∙ (λ i. truth (truth_at c w) (get_or (values_of c x) (sym (shown.firsts w below) i) false) (get_or (values_of c x) (sym (shown.seconds w below) i) false))
