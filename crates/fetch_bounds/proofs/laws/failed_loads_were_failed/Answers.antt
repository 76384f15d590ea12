use Rattle.fetch_bounds.proofs.Failures.{failed_loads_were_failed}
use Rattle.fetch_bounds.proofs.laws.failed_loads_were_failed.Goals as goal

pub returns : goal.returns
returns g c = failed_loads_were_failed
    (record { keeps_sound = c.each_event_keeps_sound.ensures; keeps_opening = c.each_event_keeps_opening.ensures })
    c.each_history_is_sound.ensures.sound
