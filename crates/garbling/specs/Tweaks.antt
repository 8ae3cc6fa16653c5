-- The tweaks of a circuit: which numbers its queries carry, so that no two gates and no two marks share one.
use Rattle.std.specs.Prelude.{ℕ, ◌+◌, ◌*◌}

-- The first of the three tweaks of gate w.
abbrev pub gate_tweak : ℕ → ℕ
gate_tweak w = 3 * w

-- The first of the two tweaks of output w, in a circuit of n wires: they come after those of all gates.
abbrev pub mark_tweak : ℕ → ℕ → ℕ
mark_tweak n w = 3 * n + 2 * w + 2
