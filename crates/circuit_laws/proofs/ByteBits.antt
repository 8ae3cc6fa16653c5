-- A byte of the tape with its low bit turned, or with other dice in its four low bits: the other bits stay, and the change can be undone.
use Rattle.std.proofs.Common.{◌≡◌, ℕ, zero, suc, ◌+◌, ◌*◌, ◌/◌, ◌%◌, ◌<◌, ◌≤◌, Bool, eqb, sym, refl, ap, ◌∙◌, ap₂, arith}
use Rattle.label.specs.Sums.{◌⊻◌}
use Rattle.wires.specs.Wires.{bit, number}
use Rattle.wires.proofs.Bits.{number_small, number_back}
use Rattle.gate.specs.declared.views.Dice.{Dice}
use Rattle.gate.specs.Views.{dice_of}
use Rattle.circuit_laws.proofs.BitSums.{xor_second_after}

-- The bit of a number below 2.
number_bit : (n : ℕ) → n < 2 → number (eqb n 1) ≡ n
number_bit zero less = refl
number_bit (suc zero) less = refl
number_bit (suc (suc n)) less = absurd (omega arith)

number_of_bit : (n : ℕ) → number (eqb (n % 2) 1) ≡ n % 2
number_of_bit n = number_bit (n % 2) (omega arith)

-- The low bit of b turned where s is set.
abbrev pub turned_bit : Bool → ℕ → ℕ
turned_bit s b = b / 2 * 2 + number (bit b 0 ⊻ s)

bit_of : (n : ℕ) (b : Bool) → n ≡ number b → eqb n 1 ≡ b
bit_of n b e = ap (λ (k : ℕ). eqb k 1) e ∙ number_back b

pub turned_low : (s : Bool) (b : ℕ) → bit (turned_bit s b) 0 ≡ bit b 0 ⊻ s
turned_low s b =
    let k : ℕ = number (bit b 0 ⊻ s) in
    bit_of _ (bit b 0 ⊻ s) (low k (number_small (bit b 0 ⊻ s)))
  where
    low : (k : ℕ) → k ≤ 1 → (b / 2 * 2 + k) / 1 % 2 ≡ k
    low k small = omega arith

pub turned_back : (s s' : Bool) (b : ℕ) → s ≡ s' → turned_bit s' (turned_bit s b) ≡ b
turned_back s s' b same =
    ap (λ (z : Bool). turned_bit z (turned_bit s b)) (sym same)
    ∙ ap₂ (λ (h : ℕ) (l : Bool). h * 2 + number (l ⊻ s)) (high (number (bit b 0 ⊻ s)) (number_small (bit b 0 ⊻ s))) (turned_low s b)
    ∙ ap (λ (l : Bool). b / 2 * 2 + number l) (xor_second_after (bit b 0) s)
    ∙ whole
  where
    high : (k : ℕ) → k ≤ 1 → (b / 2 * 2 + k) / 2 ≡ b / 2
    high k small = omega arith

    whole : b / 2 * 2 + number (bit b 0) ≡ b
    whole = let e : number (bit b 0) ≡ b / 1 % 2 = number_of_bit (b / 1) in omega (arith, e)

pub turned_small : (s : Bool) (b : ℕ) → b < 256 → turned_bit s b < 256
turned_small s b small = omega (arith, number_small (bit b 0 ⊻ s))

-- Four bits in a number below 16.
abbrev dice_number : Dice → ℕ
dice_number D = number D.rho1 + 2 * number D.rho2 + 4 * number D.gamma0 + 8 * number D.epsilon0

dice_small : (D : Dice) → dice_number D < 16
dice_small D = omega (arith, number_small D.rho1, number_small D.rho2, number_small D.gamma0, number_small D.epsilon0)

-- The byte b with the dice D.
abbrev pub with_dice : Dice → ℕ → ℕ
with_dice D b = b / 16 * 16 + dice_number D

pub dice_with : (D : Dice) (b : ℕ) → dice_of (with_dice D b) ≡ D
dice_with D b =
    let r = number_small D.rho1 in
    let s = number_small D.rho2 in
    let g = number_small D.gamma0 in
    let e = number_small D.epsilon0 in
    λ i. record {
      rho1 = bit_of (with_dice D b / 1 % 2) D.rho1 (omega (arith, r, s, g, e)) i;
      rho2 = bit_of (with_dice D b / 2 % 2) D.rho2 (omega (arith, r, s, g, e)) i;
      gamma0 = bit_of (with_dice D b / 4 % 2) D.gamma0 (omega (arith, r, s, g, e)) i;
      epsilon0 = bit_of (with_dice D b / 8 % 2) D.epsilon0 (omega (arith, r, s, g, e)) i;
    }

pub dice_back : (D D' : Dice) (b : ℕ) → D' ≡ dice_of b → with_dice D' (with_dice D b) ≡ b
dice_back D D' b same =
    ap (λ (z : Dice). with_dice z (with_dice D b)) same
    ∙ ap (λ (h : ℕ). h * 16 + dice_number (dice_of b)) (high (dice_number D) (dice_small D))
    ∙ whole
  where
    high : (k : ℕ) → k < 16 → (b / 16 * 16 + k) / 16 ≡ b / 16
    high k small = omega arith

    sum : (r s g e p q u v : ℕ) → b ≡ 2 * p + r → p ≡ 2 * q + s → q ≡ 2 * u + g → u ≡ 2 * v + e → v * 16 + (r + 2 * s + 4 * g + 8 * e) ≡ b
    sum r s g e p q u v e1 e2 e3 e4 = omega arith

    whole : b / 16 * 16 + dice_number (dice_of b) ≡ b
    whole =
        let r : number (bit b 0) ≡ b / 1 % 2 = number_of_bit (b / 1) in
        let s : number (bit b 1) ≡ b / 2 % 2 = number_of_bit (b / 2) in
        let g : number (bit b 2) ≡ b / 4 % 2 = number_of_bit (b / 4) in
        let e : number (bit b 3) ≡ b / 8 % 2 = number_of_bit (b / 8) in
        let e1 : b ≡ 2 * (b / 2) + b / 1 % 2 = omega arith in
        let e2 : b / 2 ≡ 2 * (b / 4) + b / 2 % 2 = omega arith in
        let e3 : b / 4 ≡ 2 * (b / 8) + b / 4 % 2 = omega arith in
        let e4 : b / 8 ≡ 2 * (b / 16) + b / 8 % 2 = omega arith in
        sum (number (bit b 0)) (number (bit b 1)) (number (bit b 2)) (number (bit b 3)) (b / 2) (b / 4) (b / 8) (b / 16) (e1 ∙ ap (λ (k : ℕ). 2 * (b / 2) + k) (sym r))
        (e2 ∙ ap (λ (k : ℕ). 2 * (b / 4) + k) (sym s)) (e3 ∙ ap (λ (k : ℕ). 2 * (b / 8) + k) (sym g)) (e4 ∙ ap (λ (k : ℕ). 2 * (b / 16) + k) (sym e))

pub dice_byte_small : (D : Dice) (b : ℕ) → b < 256 → with_dice D b < 256
dice_byte_small D b small = omega (arith, dice_small D)
