use Rattle.std.proofs.Common.{map, refl, ap, sym, ◌∙◌}
use Rattle.disk_store.specs.Requests.{written_to}
use Rattle.disk_store.specs.Slots.{slot_of}
use Rattle.disk_store.proofs.Listed.{keeps_slots}
use Rattle.disk_store.proofs.requests.RequestTable.write.Goals as goal

pub invariant_of-self : goal.invariant_of-self
invariant_of-self c = record {
  slots_are = c.self.invariant.slots_are
      ∙ sym (keeps_slots c.args.who (written_to _ _) (λ request. refl) c.self.inside.requests.value)
      ∙ sym (ap (map slot_of) c.update_snapshot.ensures);
  reserved = c.self.invariant.reserved;
}
