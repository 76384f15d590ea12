use Rattle.std.proofs.Common.{◌<◌, List, [], ◌∷◌, ◌++◌, length, ap, sym, subst, ◌∙◌}
use Rattle.state_machine.specs.declared.entry.Entry.{Entry}
use Rattle.state_machine.specs.Histories.{entry}
use Rattle.engine_world.specs.declared.events.Note.{Note}
use Rattle.engine_world.specs.World.{World}
use Rattle.engine_world.specs.Knowledge.{knowledge_in}
use Rattle.engine_world.specs.Permits.{Permits}
use Rattle.engine_core.specs.CoreView.{CoreValue, IsCore, MayStep, note_of}
use Rattle.engine_core.proofs.Stepping.{stays_core}
use Rattle.engine_core.proofs.cores.Core.step.Goals as goal

pub invariant_of-self : goal.invariant_of-self
invariant_of-self c =
    let w : World = c.self.inside.tables in
    let past : List (Entry Note) = c.self.inside.history.value in
    let e : Entry Note = entry c.args.who (note_of c.args.event c.answer-reply.result) in
    let may : MayStep w past c.args.who c.args.event = record {
      core = c.self.invariant;
      served = subst (λ (v : CoreValue). c.args.who < length v.world.limits.quotas) (sym c.self.view_is) c.requires.who;
      permitted = subst (λ (v : CoreValue). Permits v.world.content (knowledge_in v.history c.args.who) c.args.event) (sym c.self.view_is) c.requires.asks;
    } in
    subst (IsCore c.answer-reply.new.self) (sym (c.add_entry.ensures ∙ ap (λ event. past ++ entry c.args.who (note_of event c.answer-reply.result) ∷ []) c.of-shown.ensures))
    (stays_core w c.answer-reply.new.self past e c.own_entries_append.ensures c.each_event_keeps_sound.ensures c.each_event_keeps_limits.ensures.event c.each_event_keeps_opening.ensures may c.answer-reply.ensures.step)
