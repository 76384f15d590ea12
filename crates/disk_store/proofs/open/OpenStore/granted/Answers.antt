use Rattle.std.proofs.Common.{List, refl, sym, subst, false}
use Rattle.state_machine.specs.declared.entry.Entry.{Entry}
use Rattle.store_world.specs.declared.events.StoreEvent.TheVariants as events
use Rattle.store_world.specs.declared.events.Note.{Note}
use Rattle.store_world.specs.World.{Request, Requests, World}
use Rattle.disk_store.specs.StoreView.{MayStep}
use Rattle.disk_store.specs.OpenView.{IsOpenStore}
use Rattle.store_world.specs.Steps.{granted_if}
use Rattle.disk_store.specs.Requests.{change}
use Rattle.disk_store.proofs.Listed.{granted_key}
use Rattle.disk_store.proofs.Tokens.{keeps_tokens, others_same}
use Rattle.disk_store.proofs.OpenEvents.{own_request, own_now, kept_own, granted_edit}
use Rattle.disk_store.proofs.open.OpenStore.granted.Goals as goal

pub invariant_of-self : goal.invariant_of-self
invariant_of-self g c =
    let w : World = record { off = false; disk = c.self.inside.disk; content = c.self.inside.told; requests = c.self.inside.requests } in
    let rs : Requests = c.self.inside.requests in
    let past : List (Entry Note) = c.args.history.now.value in
    let first = c.has_lock-first.result in
    let may : MayStep w past c.args.who events.Granted = subst (λ (v : World). MayStep v past c.args.who events.Granted) (sym c.self.view_is) c.requires in
    let request : Request = may.permitted.0 in
    let is = own_request w past c.args.who request may.sound may.permitted.1 in
    let rs' : Requests = change c.args.who (granted_if first) rs in
    subst (λ (q : Requests). IsOpenStore c.self.inside.disk q c.self.inside.edits c.self.inside.maximum) (sym c.tell.ensures) (record {
      tokens_agree = keeps_tokens c.self.inside.disk c.self.inside.disk rs rs' c.self.inside.edits c.self.inside.edits c.args.who c.self.invariant.tokens_agree c.self.invariant.tokens_agree.places
          (λ other apart. others_same c.args.who other (granted_if first) rs apart) (λ other apart. refl) (λ other request edit apart is has open_. refl)
          (kept_own c.self.inside.disk rs rs' c.self.inside.edits c.args.who request (granted_if first request) c.self.invariant.tokens_agree is (own_now c.args.who (granted_if first) request rs is) (granted_key first request) (granted_edit first request));
      maximum_is = c.self.invariant.maximum_is;
    })
