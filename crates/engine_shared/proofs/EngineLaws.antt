-- A world is sound after each legal history.
use Rattle.std.specs.Prelude.{List}
use Rattle.state_machine.specs.declared.entry.Entry.{Entry}
use Rattle.engine_world.specs.declared.events.Note.{Note}
use Rattle.engine_world.specs.World.{World}
use Rattle.engine_world.specs.Knowledge.{knowledge_in}
use Rattle.engine_world.specs.Sound.{Sound}
use Rattle.engine_core.specs.CoreView.{note_of}
use Rattle.engine_shared.specs.Caller.{Caller, IsPast, IsLegal}
use Rattle.engine_shared.specs.inside.EngineLaws.{EngineLaws}

pub sound_in : EngineLaws → (w : World) (past : List (Entry Note)) → IsPast w past → Sound w (knowledge_in past)
sound_in laws w past is = laws.sound (λ core. core.world) (λ core. core.history) note_of w.limits w.content past w is

pub sound_of : EngineLaws → (c : Caller) → IsLegal c → Sound c.world (knowledge_in c.seen)
sound_of laws c legal = sound_in laws c.world c.seen legal.past
