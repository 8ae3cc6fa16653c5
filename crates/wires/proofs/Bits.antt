-- A bit as a number.
use Rattle.std.proofs.Common.{◌≡◌, ◌≤◌, Bool, true, false, eqb, refl, arith}
use Rattle.wires.specs.Wires.{number}

pub number_small : (b : Bool) → number b ≤ 1
number_small true = omega arith
number_small false = omega arith

pub number_back : (b : Bool) → eqb (number b) 1 ≡ b
number_back true = refl
number_back false = refl
