-- Each world that a legal history leads to is within its limits.
use Rattle.std.proofs.Common.{◌≡◌, List, [], ◌∷◌, ◌++◌, Option, refl, subst, ◌∙◌}
use Rattle.outside.specs.Content.{Contents}
use Rattle.state_machine.specs.declared.entry.Entry.{Entry}
use Rattle.state_machine.specs.Legal.{Leads}
use Rattle.engine_world.specs.declared.events.Event.{Event}
use Rattle.engine_world.specs.declared.events.Note.{Note}
use Rattle.engine_world.specs.World.{Limits, World, opening}
use Rattle.engine_world.specs.Knowledge.{knowledge_in}
use Rattle.engine_world.specs.Sound.{Sound}
use Rattle.engine_world.specs.Rooms.{WithinLimits}
use Rattle.engine_world.specs.RoomLaws.{HistoriesKeepLimits}
use Rattle.engine_world.specs.EngineMachine.{engine_machine}
use Rattle.engine_world.proofs.Fixed.{fixed_law}
use Rattle.engine_world.proofs.Always.{history_law, AllMay, may_first, may_later, opening-sound}
use Rattle.engine_world.proofs.Limits.{limits_law, opens_within}

module _ {M Reply : Type 0} (world : M → World) (history : M → List (Entry Note)) (note : Event → Reply → Note) where
  from_past : (limits : Limits) (content : Option Contents) (past rest : List (Entry Note)) (w z : World) → w.limits ≡ limits → w.content ≡ content → Sound w (knowledge_in past) → WithinLimits w
      → Leads (engine_machine world history note) w rest z → AllMay world history note limits content past rest → WithinLimits z
  from_past limits content past [] w z lim con s l leads may = subst WithinLimits leads l
  from_past limits content past (e ∷ rest) w z lim con s l leads may =
      let first = may_first world history note limits content past e rest w lim con may in
      let fixed = fixed_law w leads.0 e.by e.note.event e.note.reply leads.1 in
      let within : WithinLimits leads.0 = limits_law e.note.event w leads.0 (knowledge_in past) e.by e.note.reply first.0 s first.1 l leads.1 in
      from_past limits content (past ++ e ∷ []) rest leads.0 z (fixed.0 ∙ lim) (fixed.1 ∙ con) (history_law w leads.0 past e first.0 s first.1 leads.1) within leads.2
      (may_later world history note limits content past e rest may)

pub always_within : (M Reply : Type 0) → HistoriesKeepLimits M Reply
always_within M Reply world history note limits content past w legal =
    from_past world history note limits content [] past (opening limits content) w refl refl (opening-sound limits content) (opens_within limits content) legal.leads legal.asked
