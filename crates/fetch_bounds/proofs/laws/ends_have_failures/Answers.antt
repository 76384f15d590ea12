use Rattle.fetch_bounds.proofs.FailedEnds.{ends_have_failures}
use Rattle.fetch_bounds.proofs.laws.ends_have_failures.Goals as goal

pub returns : goal.returns
returns g c = ends_have_failures
    (record { keeps_sound = c.each_event_keeps_sound.ensures; keeps_opening = c.each_event_keeps_opening.ensures })
    c.each_history_is_sound.ensures.sound
