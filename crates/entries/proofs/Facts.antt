-- What a call that has no fault says of its wire: it is an own input, and its entry allows the call.
use Rattle.std.proofs.Common.{◌≡◌, ℕ, ◌<◌, Bool, true, false, cond, not, ◌&&◌, eqb, ltb, None, refl}
use Rattle.std.proofs.lemmas.Bool.{and_parts, ltb-true, eqb-true}
use Rattle.ledger.specs.declared.Entry.{Entry}
use Rattle.ledger.specs.declared.Entry.TheVariants.{Empty, Waiting, Released}
use Rattle.ledger.specs.declared.Act.TheVariants.{Enter as EnterAct, Change as ChangeAct, Release as ReleaseAct}
use Rattle.ledger.specs.declared.Ledger.{Ledger}
use Rattle.ledger.specs.Entries.{act_fault, bit_of}
use Rattle.ledger.specs.Ledger.{owner_at, entry_at}
use Rattle.circuit.proofs.Accepts.{unless_none, or_else_none}
use Rattle.entries.specs.Steps.{has_input, store_fault, sheet_fault, wire_fault, given_fault, enter_fault, change_fault, release_fault}

-- An own input wire.
abbrev pub OwnInput : Ledger → ℕ → Type 0
OwnInput l w = (w < l.inputs) × (w < 512) × (owner_at l w ≡ l.side)

own_input : (l : Ledger) (w : ℕ) → has_input l w ≡ true → eqb (owner_at l w) l.side ≡ true → OwnInput l w
own_input l w has owns =
    let both = and_parts (ltb w l.inputs) (ltb w 512) has in
    (ltb-true w l.inputs both.0, ltb-true w 512 both.1, eqb-true (owner_at l w) l.side owns)

wire_own : (l : Ledger) (w : ℕ) → wire_fault l w ≡ None → OwnInput l w
wire_own l w e =
    let parts = or_else_none _ _ e in
    own_input l w (unless_none (has_input l w) _ _ parts.0).0 (unless_none (eqb (owner_at l w) l.side) _ _ parts.1).0

given_own : (l : Ledger) (w bit : ℕ) → given_fault l w bit ≡ None → OwnInput l w
given_own l w bit e =
    let parts = or_else_none _ _ e in
    let rest = or_else_none _ _ parts.1 in
    own_input l w (unless_none (has_input l w) _ _ parts.0).0 (unless_none (eqb (owner_at l w) l.side) _ _ rest.1).0

enters_empty : (e : Entry) (b : Bool) (w : ℕ) → act_fault e (EnterAct b) w ≡ None → e ≡ Empty
enters_empty Empty b w h = refl
enters_empty (Waiting x) b w h = cc
enters_empty Released b w h = cc

changes_waiting : (e : Entry) (b : Bool) (w : ℕ) → act_fault e (ChangeAct b) w ≡ None → e ≡ Waiting (bit_of e)
changes_waiting Empty b w h = cc
changes_waiting (Waiting x) b w h = refl
changes_waiting Released b w h = cc

releases_waiting : (e : Entry) (w : ℕ) → act_fault e ReleaseAct w ≡ None → e ≡ Waiting (bit_of e)
releases_waiting Empty w h = cc
releases_waiting (Waiting x) w h = refl
releases_waiting Released w h = cc

pub enter_facts : (l : Ledger) (w bit : ℕ) → enter_fault l w bit ≡ None → OwnInput l w × (entry_at l w ≡ Empty)
enter_facts l w bit e =
    let parts = or_else_none (given_fault l w bit) _ e in
    (given_own l w bit parts.0, enters_empty (entry_at l w) (eqb bit 1) w parts.1)

pub change_facts : (l : Ledger) (w bit : ℕ) → change_fault l w bit ≡ None → OwnInput l w × (entry_at l w ≡ Waiting (bit_of (entry_at l w)))
change_facts l w bit e =
    let parts = or_else_none (given_fault l w bit) _ e in
    (given_own l w bit parts.0, changes_waiting (entry_at l w) (eqb bit 1) w parts.1)

pub release_facts : (l : Ledger) (words bytes w : ℕ) → release_fault l words bytes w ≡ None
    → OwnInput l w × (entry_at l w ≡ Waiting (bit_of (entry_at l w)))
release_facts l words bytes w e =
    let a = or_else_none (store_fault l words) _ e in
    let b = or_else_none (sheet_fault l bytes) _ a.1 in
    let d = or_else_none (wire_fault l w) _ b.1 in
    (wire_own l w d.0, releases_waiting (entry_at l w) w d.1)

-- What an entry made by the lines says of them, where a wire was released or not, entered or not, with a last bit.
abbrev pub entry_of : Bool → Bool → Bool → Entry
entry_of released entered last = cond released Released (cond (entered && not released) (Waiting last) Empty)

pub empty_unentered : (r n x : Bool) → entry_of r n x ≡ Empty → (r ≡ false) × (n ≡ false)
empty_unentered true n x e = absurd cc
empty_unentered false true x e = absurd cc
empty_unentered false false x e = (refl, refl)

pub waiting_entered : (r n x y : Bool) → entry_of r n x ≡ Waiting y → (r ≡ false) × (n ≡ true)
waiting_entered true n x y e = absurd cc
waiting_entered false true x y e = (refl, refl)
waiting_entered false false x y e = absurd cc
