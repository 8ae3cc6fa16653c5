-- Words of 64 bits as a group: sums of halves stay below 2^64.
use Rattle.std.proofs.Common.{◌≡◌, ℕ, suc, ◌^◌, ◌<◌, Bool, true, false, cond, refl, pow_pos}
use mathlib.Core.HLevel.{Σ_prop_path}
use native.Mathlib.Bridge.{le_prop}
use lib.Bits.{bit_xor, xor_assoc, xor_comm, xor_zero_l, xor_self, xor_lt}
use Rattle.label.specs.Sums.{Group, Laws}
use Rattle.gate_laws.specs.GateBlind.{Word}

pub times_lt : (b : Bool) (n : ℕ) → n < 2 ^ 64 → cond b n 0 < 2 ^ 64
times_lt true n h = h
times_lt false n h = pow_pos 64

abbrev pub words : Group
words = record {
  El = Word;
  o = (0, pow_pos 64);
  ◌⊕◌ = λ a b. (bit_xor a.0 b.0, xor_lt 64 a.0 b.0 a.1 b.1);
  ◌·◌ = λ b x. (cond b x.0 0, times_lt b x.0 x.1);
}

-- Words with one number are one word.
pub word_path : (a b : Word) → a.0 ≡ b.0 → a ≡ b
word_path a b e = Σ_prop_path (λ (n : ℕ). le_prop {n = suc n} {m = 2 ^ 64}) {u = a} {v = b} e

pub words_laws : Laws words
words_laws = record {
  assoc = λ a b c. word_path _ _ (xor_assoc a.0 b.0 c.0);
  comm = λ a b. word_path _ _ (xor_comm a.0 b.0);
  neutral = λ a. word_path _ _ (xor_zero_l a.0);
  inverse = λ a. word_path _ _ (xor_self a.0);
  one = λ a. word_path _ _ refl;
  none = λ a. word_path _ _ refl;
}
