use Rattle.std.proofs.Common.{map, ap, sym, ◌∙◌}
use Rattle.disk_store.specs.Requests.{begun_edit_if}
use Rattle.disk_store.specs.Slots.{slot_of}
use Rattle.disk_store.proofs.Listed.{keeps_slots, begun_key}
use Rattle.disk_store.proofs.requests.RequestTable.begin.Goals as goal

pub invariant_of-self : goal.invariant_of-self
invariant_of-self c = record {
  slots_are = c.self.invariant.slots_are
      ∙ sym (keeps_slots c.args.who (begun_edit_if c.args.edit) (begun_key c.args.edit) c.self.inside.requests.value)
      ∙ sym (ap (map slot_of) c.update_snapshot.ensures);
  reserved = c.self.invariant.reserved;
}
