use Rattle.std.proofs.Common.{◌≡◌, drop}
use Rattle.std.specs.Prelude.{find}
use Rattle.std.specs.Str.{bytes_eq}
use Rattle.disk_store.specs.declared.requests.Slot.{Slot}
use Rattle.disk_store.proofs.requests.is_first.Given as goal

abbrev pub invariant-loop-slot : goal.invariant-loop-slot
invariant-loop-slot l = find (λ (slot : Slot). bytes_eq l.key slot.key) (drop l.slot-index l.slots) ≡ find (λ (slot : Slot). bytes_eq l.key slot.key) l.slots
