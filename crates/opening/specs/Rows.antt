-- Two rows of items in one buffer: the first from its start, the second from a base on.
use Rattle.std.specs.Prelude.{◌≡◌, ℕ, List, length, take, drop}
use Rattle.std.specs.List.{flat_map}

-- These items stand in both rows, as f and as g writes them.
abbrev pub Rows : {I X : Type 0} → (I → List X) → (I → List X) → ℕ → List I → List X → Type 0
Rows f g base is bs = (take (length (flat_map f is)) bs ≡ flat_map f is) × (take (length (flat_map g is)) (drop base bs) ≡ flat_map g is)
