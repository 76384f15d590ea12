use Rattle.std.proofs.Common.{◌≡◌, drop}
use Rattle.std.specs.Prelude.{find, ◌==◌}
use Rattle.disk_store.specs.declared.requests.Slot.{Slot}
use Rattle.disk_store.proofs.requests.key_in.Given as goal

abbrev pub invariant-loop-slot : goal.invariant-loop-slot
invariant-loop-slot l = find (λ (slot : Slot). slot.seat == l.who) (drop l.slot-index l.slots) ≡ find (λ (slot : Slot). slot.seat == l.who) l.slots
