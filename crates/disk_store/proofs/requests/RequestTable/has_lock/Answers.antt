use Rattle.std.proofs.Common.{List, ap, sym, ◌∙◌}
use Rattle.std.specs.Prelude.{find}
use Rattle.std.specs.Option.{option_map}
use Rattle.std.specs.Str.{bytes_eq}
use Rattle.store_world.specs.World.{Request, Requests, request_of, has_lock}
use Rattle.disk_store.specs.declared.requests.Slot.{Slot}
use Rattle.disk_store.specs.Slots.{is_of}
use Rattle.disk_store.proofs.Listed.{lock_found}
use Rattle.disk_store.proofs.requests.RequestTable.has_lock.Goals as goal

pub returns-in-Some : goal.returns-in-Some
returns-in-Some c =
    c.is_first.ensures
    ∙ ap (λ (slots : List Slot). is_of c.args.who (find (λ (slot : Slot). bytes_eq c.in-Some.key slot.key) slots)) (c.deref.ensures.value ∙ c.self.invariant.slots_are)
    ∙ lock_found c.args.who c.self.inside.requests.value c.in-Some.key
    (sym c.in-Some.is ∙ c.key_of.ensures ∙ ap (λ (rs : Requests). option_map (λ (request : Request). request.key) (request_of c.args.who rs)) (sym c.self.view_is))
    ∙ ap (has_lock c.args.who) c.self.view_is
