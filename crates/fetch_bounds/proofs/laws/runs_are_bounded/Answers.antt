use Rattle.fetch_bounds.proofs.Bounds.{runs_are_bounded}
use Rattle.fetch_bounds.proofs.laws.runs_are_bounded.Goals as goal

pub returns : goal.returns
returns g c = runs_are_bounded
    (record { keeps_sound = c.each_event_keeps_sound.ensures; keeps_opening = c.each_event_keeps_opening.ensures })
    c.each_history_is_sound.ensures.sound c.traces_are_orderly.ensures
