-- Items of one width, one after the other.
use Rattle.std.proofs.Common.{◌≡◌, ℕ, ◌*◌, List, [], ◌∷◌, length, sym, mul-zero, mul-suc, arith, length-append}
use Rattle.std.specs.List.{flat_map}

pub length-joined : {I X : Type 0} (f : I → List X) (width : ℕ) → ((i : I) → length (f i) ≡ width) → (is : List I)
    → length (flat_map f is) ≡ width * length is
length-joined f width same [] = sym (mul-zero width)
length-joined f width same (i ∷ is) =
    let long = length-append (f i) (flat_map f is) in
    let more = mul-suc width (length is) in
    omega (arith, long, same i, more, length-joined f width same is)
