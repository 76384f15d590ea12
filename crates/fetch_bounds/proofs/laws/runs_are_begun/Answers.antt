use Rattle.fetch_bounds.proofs.Begun.{runs_are_begun}
use Rattle.fetch_bounds.proofs.laws.runs_are_begun.Goals as goal

pub returns : goal.returns
returns g c = runs_are_begun
    (record { keeps_sound = c.each_event_keeps_sound.ensures; keeps_opening = c.each_event_keeps_opening.ensures })
    c.each_history_is_sound.ensures.sound
