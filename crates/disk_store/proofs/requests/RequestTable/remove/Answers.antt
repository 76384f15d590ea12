use Rattle.std.proofs.Common.{ℕ, ◌+◌, ◌≤◌, List, ◌++◌, map, take, drop, ap, sym, subst, ◌∙◌}
use Rattle.std.specs.Prelude.{◌==◌}
use Rattle.std.specs.List.{position_or_len}
use Rattle.disk_store.specs.declared.requests.Slot.{Slot}
use Rattle.disk_store.specs.Slots.{slot_of}
use Rattle.disk_store.proofs.Listed.{slots_without}
use Rattle.disk_store.proofs.requests.RequestTable.remove.Goals as goal

pub invariant_of-self : goal.invariant_of-self
invariant_of-self c =
    let place : List Slot → ℕ = λ slots. position_or_len (λ (slot : Slot). slot.seat == c.args.who) slots in
    record {
      slots_are = c.remove_slot.ensures.items
          ∙ ap (λ (slots : List Slot). take (place slots) slots ++ drop (place slots + 1) slots) c.self.invariant.slots_are
          ∙ slots_without c.args.who c.self.inside.requests.value
          ∙ sym (ap (map slot_of) c.update_snapshot.ensures);
      reserved = subst (λ n. 16 ≤ n) (sym c.remove_slot.ensures.capacity) c.self.invariant.reserved;
    }
