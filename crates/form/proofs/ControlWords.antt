-- The five control pairs are read back from their control word.
use Rattle.std.proofs.Common.{◌≡◌, ℕ, ◌+◌, ◌*◌, ◌/◌, ◌%◌, ◌^◌, ◌<◌, ◌≤◌, Bool, eqb, List, [], ◌∷◌, length, ap, ◌∙◌, arith}
use lib.Arith.{digits_div}
use Rattle.label.specs.declared.xor.ControlPair.{ControlPair}
use Rattle.wires.specs.Wires.{bit, number}
use Rattle.wires.proofs.Bits.{number_small, number_back}
use Rattle.form.specs.Controls.{control_word, controls_in}

-- Bit k of a number whose digits below, at and above it are given.
bit_back : (k x low rest : ℕ) (b : Bool) → low < 2 ^ k → x ≡ (number b + 2 * rest) * 2 ^ k + low → bit x k ≡ b
bit_back k x low rest b below digits =
    let high : x / 2 ^ k ≡ number b + 2 * rest = ap (λ y. y / 2 ^ k) digits ∙ digits_div (number b + 2 * rest) below in
    let small : number b ≤ 1 = number_small b in
    let last : x / 2 ^ k % 2 ≡ number b = ap (λ y. y % 2) high ∙ omega (arith, small) in
    ap (λ y. eqb y 1) last ∙ number_back b

-- The five pairs of their control word.
five_back : (a b c d e : ControlPair) → controls_in (control_word (a ∷ b ∷ c ∷ d ∷ e ∷ [])) ≡ a ∷ b ∷ c ∷ d ∷ e ∷ []
five_back a b c d e =
    let x : ℕ = control_word (a ∷ b ∷ c ∷ d ∷ e ∷ []) in
    let al : number a.low ≤ 1 = number_small a.low in
    let ah : number a.high ≤ 1 = number_small a.high in
    let bl : number b.low ≤ 1 = number_small b.low in
    let bh : number b.high ≤ 1 = number_small b.high in
    let cl : number c.low ≤ 1 = number_small c.low in
    let ch : number c.high ≤ 1 = number_small c.high in
    let dl : number d.low ≤ 1 = number_small d.low in
    let dh : number d.high ≤ 1 = number_small d.high in
    let el : number e.low ≤ 1 = number_small e.low in
    let eh : number e.high ≤ 1 = number_small e.high in
    λ i.
    record {
      low = bit_back 0 x (0) (number a.high + 2 * number b.low + 4 * number b.high + 8 * number c.low + 16 * number c.high + 32 * number d.low + 64 * number d.high + 128 * number e.low + 256 * number e.high) a.low (omega arith) (omega arith) i;
      high = bit_back 1 x (number a.low) (number b.low + 2 * number b.high + 4 * number c.low + 8 * number c.high + 16 * number d.low + 32 * number d.high + 64 * number e.low + 128 * number e.high) a.high (omega arith) (omega arith) i;
    }
    ∷ record {
      low = bit_back 2 x (number a.low + 2 * number a.high) (number b.high + 2 * number c.low + 4 * number c.high + 8 * number d.low + 16 * number d.high + 32 * number e.low + 64 * number e.high) b.low (omega arith) (omega arith) i;
      high = bit_back 3 x (number a.low + 2 * number a.high + 4 * number b.low) (number c.low + 2 * number c.high + 4 * number d.low + 8 * number d.high + 16 * number e.low + 32 * number e.high) b.high (omega arith) (omega arith) i;
    }
    ∷ record {
      low = bit_back 4 x (number a.low + 2 * number a.high + 4 * number b.low + 8 * number b.high) (number c.high + 2 * number d.low + 4 * number d.high + 8 * number e.low + 16 * number e.high) c.low (omega arith) (omega arith) i;
      high = bit_back 5 x (number a.low + 2 * number a.high + 4 * number b.low + 8 * number b.high + 16 * number c.low) (number d.low + 2 * number d.high + 4 * number e.low + 8 * number e.high) c.high (omega arith) (omega arith) i;
    }
    ∷ record {
      low = bit_back 6 x (number a.low + 2 * number a.high + 4 * number b.low + 8 * number b.high + 16 * number c.low + 32 * number c.high) (number d.high + 2 * number e.low + 4 * number e.high) d.low (omega arith) (omega arith) i;
      high = bit_back 7 x (number a.low + 2 * number a.high + 4 * number b.low + 8 * number b.high + 16 * number c.low + 32 * number c.high + 64 * number d.low) (number e.low + 2 * number e.high) d.high (omega arith) (omega arith) i;
    }
    ∷ record {
      low = bit_back 8 x (number a.low + 2 * number a.high + 4 * number b.low + 8 * number b.high + 16 * number c.low + 32 * number c.high + 64 * number d.low + 128 * number d.high) (number e.high) e.low (omega arith) (omega arith) i;
      high = bit_back 9 x (number a.low + 2 * number a.high + 4 * number b.low + 8 * number b.high + 16 * number c.low + 32 * number c.high + 64 * number d.low + 128 * number d.high + 256 * number e.low) (0) e.high (omega arith) (omega arith) i;
    }
    ∷ []

pub controls_back : (ks : List ControlPair) → length ks ≡ 5 → controls_in (control_word ks) ≡ ks
controls_back [] long = absurd (omega arith)
controls_back (a ∷ []) long = absurd (omega arith)
controls_back (a ∷ b ∷ []) long = absurd (omega arith)
controls_back (a ∷ b ∷ c ∷ []) long = absurd (omega arith)
controls_back (a ∷ b ∷ c ∷ d ∷ []) long = absurd (omega arith)
controls_back (a ∷ b ∷ c ∷ d ∷ e ∷ []) long = five_back a b c d e
controls_back (a ∷ b ∷ c ∷ d ∷ e ∷ k ∷ ks) long = absurd (omega arith)
