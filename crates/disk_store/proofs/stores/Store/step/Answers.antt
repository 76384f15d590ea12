use Rattle.std.proofs.Common.{List, [], ◌∷◌, ◌++◌, ap, sym, subst, ◌∙◌}
use Rattle.state_machine.specs.declared.entry.Entry.{Entry}
use Rattle.state_machine.specs.Histories.{entry}
use Rattle.store_world.specs.declared.events.Note.{Note}
use Rattle.store_world.specs.World.{World}
use Rattle.store_world.specs.Knowledge.{knowledge_in}
use Rattle.store_world.specs.Permits.{Permits}
use Rattle.store_world.specs.StoreMachine.{noted}
use Rattle.disk_store.specs.StoreView.{MayStep}
use Rattle.disk_store.specs.Kept.{StoreValue, IsStore}
use Rattle.disk_store.proofs.Stepping.{stays_store}
use Rattle.disk_store.proofs.stores.Store.step.Goals as goal

pub answer-reply-requires : goal.answer-reply-requires
answer-reply-requires g c = record {
  sound = c.self.invariant.sound;
  served = c.requires.who;
  permitted = subst (λ o. Permits o (knowledge_in c.self.inside.history.value c.args.who) c.args.event) (sym c.self.invariant.settings.content) (subst (λ (v : StoreValue). Permits v.opening.content (knowledge_in v.history c.args.who) c.args.event) (sym c.self.view_is) c.requires.asks);
}

pub invariant_of-self : goal.invariant_of-self
invariant_of-self g c =
    let before = g.F.Files.history c.self.inside.before.value in
    let opening : World = c.self.inside.opening.value in
    let w : World = c.self.inside.state in
    let past : List (Entry Note) = c.self.inside.history.value in
    let e : Entry Note = entry c.args.who (noted c.args.event c.answer-reply.result) in
    let may : MayStep w past c.args.who c.args.event = record {
      sound = c.self.invariant.sound;
      served = c.requires.who;
      permitted = subst (λ o. Permits o (knowledge_in c.self.inside.history.value c.args.who) c.args.event) (sym c.self.invariant.settings.content) (subst (λ (v : StoreValue). Permits v.opening.content (knowledge_in v.history c.args.who) c.args.event) (sym c.self.view_is) c.requires.asks);
    } in
    subst (λ (past' : List (Entry Note)). IsStore before opening c.answer-reply.new.self past') (sym (c.add_entry.ensures ∙ ap (λ event. past ++ entry c.args.who (noted event c.answer-reply.result) ∷ []) c.of-shown.ensures))
    (stays_store before opening w c.answer-reply.new.self past e c.own_entries_append.ensures c.each_event_keeps_sound.ensures c.each_event_keeps_settings.ensures c.each_event_keeps_what_is_off.ensures c.each_moment_offers_what_is_right.ensures c.self.invariant may c.answer-reply.ensures)
