use Rattle.engine_world.proofs.Always.{always_sound, always_balanced}
use Rattle.engine_world.proofs.laws.each_history_is_sound.Goals as goal

pub returns-clause-sound : goal.returns-clause-sound
returns-clause-sound g c world history note = always_sound world history note

pub returns-clause-balanced : goal.returns-clause-balanced
returns-clause-balanced g c world history note = always_balanced world history note
