-- What the table of requests keeps of each. It is this project's own.
use Rattle.std.specs.Prelude.{◌≡◌, ◌≤◌, ◌==◌, ℕ, Bool, false, Some, None, map, vec_capacity}
use Rattle.std.specs.declared.option.Option.{Option}
use Rattle.disk_store.specs.declared.requests.Slot.{Slot}
use Rattle.disk_store.specs.declared.requests.RequestTable.TheInside.{Inside}
use Rattle.store_world.specs.World.{Request}

-- the seat and its key
abbrev pub slot_of : ℕ × Request → Slot
slot_of r = record { seat = r.0; key = r.1.key }

-- whether a slot was found and is the seat's
abbrev pub is_of : ℕ → Option Slot → Bool
is_of who None = false
is_of who (Some slot) = slot.seat == who

-- each request has its slot, in order, and there is room for that of each seat
pub record KeepsSlots (s : Inside) : Type 0 where
  pub slots_are : s.slots.items ≡ map slot_of s.requests.value
  pub reserved : 16 ≤ vec_capacity s.slots
