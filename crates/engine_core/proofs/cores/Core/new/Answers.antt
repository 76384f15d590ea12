use Rattle.std.proofs.Common.{List, sym, subst}
use Rattle.state_machine.specs.declared.entry.Entry.{Entry}
use Rattle.engine_world.specs.declared.events.Note.{Note}
use Rattle.engine_world.specs.World.{World, opening}
use Rattle.engine_core.specs.declared.replies.Reply.{Reply}
use Rattle.engine_core.specs.CoreView.{CoreValue, IsCore, note_of}
use Rattle.engine_core.proofs.Stepping.{opens_core}
use Rattle.engine_core.proofs.cores.Core.new.Goals as goal

pub invariant_of-result : goal.invariant_of-result
invariant_of-result c =
    subst (λ (w : World). IsCore w c.no_history.result.value) (sym c.in_ok-new.ensures)
    (subst (λ (past : List (Entry Note)). IsCore (opening c.args.limits c.args.told) past) (sym c.no_history.ensures)
    (opens_core CoreValue Reply c.args.limits c.args.told (λ v. v.world) (λ v. v.history) note_of c.each_history_is_sound.ensures.sound c.each_event_keeps_limits.ensures.opening c.requires))
