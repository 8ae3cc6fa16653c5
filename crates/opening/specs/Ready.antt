-- A checked table whose buffers have the right lengths: an opening may draw.
use Rattle.std.specs.Prelude.{◌≡◌, ◌*◌, false, Ok, Err, Result, ◌==◌}
use Rattle.refusal.specs.declared.Refusal.{Refusal}
use Rattle.refusal.specs.Told.{told}
use Rattle.circuit.specs.declared.table.Table.{Table}
use Rattle.form.specs.Layout.{form_length}
use Rattle.ledger.specs.Store.{store_length}
use Rattle.ledger.specs.Sheet.{sheet_length}
use Rattle.opening.specs.declared.room.Room.{Room}

pub record Ready (t : Table) (room : Room) : Type 0 where
  pub form : room.form ≡ form_length t.circuit.wires t.garbled t.outputs
  pub store : room.store ≡ store_length t.circuit.inputs
  pub sheet : room.sheet ≡ sheet_length t.circuit.inputs
  pub work : room.work ≡ 2 * t.circuit.wires

-- A refusal that does not come from the marks.
abbrev pub Early : {T : Type 0} → Result T Refusal → Type 0
Early (Ok t) = Unit {0}
Early (Err e) = ((told e).0 == 36) ≡ false
