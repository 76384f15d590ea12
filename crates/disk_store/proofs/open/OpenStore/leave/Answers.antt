use Rattle.std.proofs.Common.{List, get_or, None, refl, sym, subst, false}
use Rattle.state_machine.specs.declared.entry.Entry.{Entry}
use Rattle.store_world.specs.declared.events.StoreEvent.TheVariants as events
use Rattle.store_world.specs.declared.events.Note.{Note}
use Rattle.store_world.specs.World.{Requests, World, without_seat}
use Rattle.disk_store.specs.StoreView.{MayStep}
use Rattle.disk_store.specs.OpenView.{IsOpenStore}
use Rattle.disk_store.proofs.Tokens.{keeps_tokens, others_left, own_left, gone_own}
use Rattle.disk_store.proofs.open.OpenStore.leave.Goals as goal

pub invariant_of-self : goal.invariant_of-self
invariant_of-self g c =
    let w : World = record { off = false; disk = c.self.inside.disk; content = c.self.inside.told; requests = c.self.inside.requests } in
    let rs : Requests = c.self.inside.requests in
    let past : List (Entry Note) = c.args.history.now.value in
    let may : MayStep w past c.args.who events.Done = subst (λ (v : World). MayStep v past c.args.who events.Done) (sym c.self.view_is) c.requires in
    subst (λ (q : Requests). IsOpenStore c.self.inside.disk q c.self.inside.edits c.self.inside.maximum) (sym c.remove.ensures) (record {
      tokens_agree = keeps_tokens c.self.inside.disk c.self.inside.disk rs (without_seat c.args.who rs) c.self.inside.edits c.self.inside.edits c.args.who c.self.invariant.tokens_agree c.self.invariant.tokens_agree.places
          (λ other apart. others_left c.args.who other rs apart) (λ other apart. refl) (λ other request edit apart is has open_. refl)
          (gone_own c.self.inside.disk (without_seat c.args.who rs) (get_or c.self.inside.edits c.args.who None) c.args.who (own_left c.args.who rs may.sound.seated));
      maximum_is = c.self.invariant.maximum_is;
    })
