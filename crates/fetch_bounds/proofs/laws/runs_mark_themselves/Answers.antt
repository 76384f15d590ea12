use Rattle.fetch_bounds.proofs.OwnMarks.{runs_mark_themselves}
use Rattle.fetch_bounds.proofs.laws.runs_mark_themselves.Goals as goal

pub returns : goal.returns
returns g c = runs_mark_themselves
    (record { keeps_sound = c.each_event_keeps_sound.ensures; keeps_opening = c.each_event_keeps_opening.ensures })
    c.each_history_is_sound.ensures.sound c.traces_are_orderly.ensures c.ends_decide_the_walk.ensures
