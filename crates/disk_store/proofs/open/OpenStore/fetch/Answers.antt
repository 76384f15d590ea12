use Rattle.std.proofs.Common.{List, sym, subst, ◌∙◌, false}
use Rattle.state_machine.specs.declared.entry.Entry.{Entry}
use Rattle.store_world.specs.declared.events.StoreEvent.TheVariants as events
use Rattle.store_world.specs.declared.events.Note.{Note}
use Rattle.store_world.specs.World.{World}
use Rattle.store_world.specs.Knowledge.{knowledge_in}
use Rattle.disk_store.specs.StoreView.{MayStep}
use Rattle.disk_store.proofs.Tokens.{gets_keep, same_edits}
use Rattle.disk_store.proofs.open.OpenStore.fetch.Goals as goal

pub invariant_of-self : goal.invariant_of-self
invariant_of-self g c =
    let w : World = record { off = false; disk = c.self.inside.disk; content = c.self.inside.told; requests = c.self.inside.requests } in
    let past : List (Entry Note) = c.args.history.now.value in
    let may : MayStep w past c.args.who (events.Fetch c.args.key.now) = subst (λ (v : World). MayStep v past c.args.who (events.Fetch c.args.key.now)) (sym c.self.view_is) c.requires in
    record {
      tokens_agree = same_edits c.self.inside.disk c.get-found.new.disk c.self.inside.requests c.self.inside.edits
          (gets_keep w (knowledge_in past) c.args.key.now c.get-found.result c.get-found.new.disk may.sound c.get-found.ensures) c.self.invariant.tokens_agree;
      maximum_is = c.self.invariant.maximum_is ∙ sym c.get-found.ensures.maximum;
    }
