use Rattle.std.proofs.Common.{List, ap, ◌∙◌}
use Rattle.std.specs.Prelude.{find, ◌==◌}
use Rattle.std.specs.Option.{option_map}
use Rattle.store_world.specs.World.{Request, Requests, request_of}
use Rattle.disk_store.specs.declared.requests.Slot.{Slot}
use Rattle.disk_store.proofs.Listed.{key_found}
use Rattle.disk_store.proofs.requests.RequestTable.key_of.Goals as goal

pub returns : goal.returns
returns c =
    c.key_in.ensures
    ∙ ap (λ (slots : List Slot). option_map (λ (slot : Slot). slot.key) (find (λ (slot : Slot). slot.seat == c.args.who) slots)) (c.deref.ensures.value ∙ c.self.invariant.slots_are)
    ∙ key_found c.args.who c.self.inside.requests.value
    ∙ ap (λ (rs : Requests). option_map (λ (request : Request). request.key) (request_of c.args.who rs)) c.self.view_is
