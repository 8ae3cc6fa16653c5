-- What the server sees of a gate under a hash is the gate's view, as the blindness of a gate speaks of it.
use Rattle.std.specs.Prelude.{◌≡◌, ℕ, Bool, true, List}
use Rattle.label.specs.Sums.{halves, pairs}
use Rattle.label.specs.Labels.{Label, colour_of}
use Rattle.label.specs.Hashes.{HashFunction}
use Rattle.label.specs.declared.hash.Answer.{Answer}
use Rattle.gate.specs.declared.views.Parity.{Parity}
use Rattle.gate.specs.declared.garble.GarbledGate.{GarbledGate}
use Rattle.gate.specs.Views.{by_colours, dice_of}
use Rattle.gate.specs.Numbers.{five_in}
use Rattle.gate.specs.Sums.{shifted, three_in}
use Rattle.gate.specs.Gates.{answers_to, gate_questions, three_questions, six_words, six_pairs, three_words, three_pairs, garbled_gate}
use Rattle.gate_laws.specs.GateBlind.{Throw, GateView, gate_view}

-- The control pairs and ciphertexts of the garbled gate, and the answers to the server's three questions.
abbrev pub seen : HashFunction → GarbledGate → (x y : Label) → ℕ → GateView ℕ
seen f gate x y t =
    let rs : List Answer = answers_to f (three_questions x y t) in
    record {
      control = five_in pairs gate.sent.controls;
      ciphertexts = three_in halves gate.sent.ciphertexts;
      words = three_words rs;
      pairs = three_pairs rs;
    }

-- The throw of a gate: the dice in its byte, and the answers to the garbler's six questions.
abbrev pub throw_of : HashFunction → ℕ → (Δ A B : Label) → ℕ → Throw ℕ
throw_of f d Δ A B t =
    let rs : List Answer = answers_to f (gate_questions Δ A B t) in
    record { dice = dice_of d; words = six_words rs; pairs = six_pairs rs }

-- For every hash, gate and input bits: what is seen with the labels x and y of these bits is the view of the throw, at the colours of x and y.
abbrev pub GateSeen : Type 0
GateSeen =
    (f : HashFunction) (c : Parity) (g d : ℕ) (Δ A B : Label) → colour_of Δ ≡ true → (t : ℕ) (u v : Bool)
    → let x : Label = shifted halves Δ A u in
    let y : Label = shifted halves Δ B v in
    seen f (garbled_gate f c g d Δ A B t) x y t
    ≡ gate_view halves c (by_colours g (colour_of A) (colour_of B)) (colour_of x) (colour_of y) Δ x y (throw_of f d Δ A B t)
