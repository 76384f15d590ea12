use Rattle.std.proofs.Common.{None, map, refl, ap, sym, ◌∙◌}
use Rattle.store_world.specs.Steps.{with_edit}
use Rattle.disk_store.specs.Slots.{slot_of}
use Rattle.disk_store.proofs.Listed.{keeps_slots}
use Rattle.disk_store.proofs.requests.RequestTable.end.Goals as goal

pub invariant_of-self : goal.invariant_of-self
invariant_of-self c = record {
  slots_are = c.self.invariant.slots_are
      ∙ sym (keeps_slots c.args.who (with_edit None) (λ request. refl) c.self.inside.requests.value)
      ∙ sym (ap (map slot_of) c.update_snapshot.ensures);
  reserved = c.self.invariant.reserved;
}
