use Rattle.std.proofs.Common.{map, ap, sym, ◌∙◌}
use Rattle.store_world.specs.Steps.{granted_if}
use Rattle.disk_store.specs.Slots.{slot_of}
use Rattle.disk_store.proofs.Listed.{keeps_slots, granted_key}
use Rattle.disk_store.proofs.requests.RequestTable.tell.Goals as goal

pub invariant_of-self : goal.invariant_of-self
invariant_of-self c = record {
  slots_are = c.self.invariant.slots_are
      ∙ sym (keeps_slots c.args.who (granted_if c.args.first) (granted_key c.args.first) c.self.inside.requests.value)
      ∙ sym (ap (map slot_of) c.update_snapshot.ensures);
  reserved = c.self.invariant.reserved;
}
