use Rattle.std.proofs.Common.{◌≡◌, List, [], ◌∷◌, ◌++◌, get_or, None, refl, sym, subst, ◌∙◌, false}
use Rattle.state_machine.specs.declared.entry.Entry.{Entry}
use Rattle.store_world.specs.declared.events.StoreEvent.TheVariants as events
use Rattle.store_world.specs.declared.events.Note.{Note}
use Rattle.store_world.specs.World.{Request, Requests, World, request_of}
use Rattle.store_world.specs.Knowledge.{knowledge_in}
use Rattle.disk_store.specs.StoreView.{MayStep}
use Rattle.disk_store.specs.OpenView.{IsOpenStore}
use Rattle.store_world.specs.Steps.{new_request}
use Rattle.disk_store.proofs.Tokens.{keeps_tokens, none_own, others_added, own_added}
use Rattle.disk_store.proofs.open.OpenStore.want.Goals as goal

pub add-requires : goal.add-requires
add-requires g c =
    let w : World = record { off = false; disk = c.self.inside.disk; content = c.self.inside.told; requests = c.self.inside.requests } in
    let past : List (Entry Note) = c.args.history.now.value in
    let may : MayStep w past c.args.who (events.Want c.args.key.now c.args.length c.args.payload) = subst (λ (v : World). MayStep v past c.args.who (events.Want c.args.key.now c.args.length c.args.payload)) (sym c.self.view_is) c.requires in
    c.requests_are_few.ensures.more w (knowledge_in past) c.args.who may.served may.sound may.permitted

pub invariant_of-self : goal.invariant_of-self
invariant_of-self g c =
    let w : World = record { off = false; disk = c.self.inside.disk; content = c.self.inside.told; requests = c.self.inside.requests } in
    let rs : Requests = c.self.inside.requests in
    let past : List (Entry Note) = c.args.history.now.value in
    let may : MayStep w past c.args.who (events.Want c.args.key.now c.args.length c.args.payload) = subst (λ (v : World). MayStep v past c.args.who (events.Want c.args.key.now c.args.length c.args.payload)) (sym c.self.view_is) c.requires in
    let new : Request = new_request c.args.key.now in
    let none : request_of c.args.who rs ≡ None = sym (may.sound.known_is c.args.who) ∙ may.permitted in
    subst (λ (q : Requests). IsOpenStore c.self.inside.disk q c.self.inside.edits c.self.inside.maximum) (sym c.add.ensures) (record {
      tokens_agree = keeps_tokens c.self.inside.disk c.self.inside.disk rs (rs ++ (c.args.who, new) ∷ []) c.self.inside.edits c.self.inside.edits c.args.who c.self.invariant.tokens_agree c.self.invariant.tokens_agree.places
          (λ other apart. others_added c.args.who other new rs apart) (λ other apart. refl) (λ other request edit apart is has open_. refl)
          (none_own c.self.inside.disk (rs ++ (c.args.who, new) ∷ []) (get_or c.self.inside.edits c.args.who None) c.args.who new (own_added c.args.who new rs none) refl);
      maximum_is = c.self.invariant.maximum_is;
    })
