use Rattle.fetch_bounds.proofs.FailedEnds.{marked_begins_failed}
use Rattle.fetch_bounds.proofs.laws.marked_begins_failed.Goals as goal

pub returns : goal.returns
returns g c = marked_begins_failed
    (record { keeps_sound = c.each_event_keeps_sound.ensures; keeps_opening = c.each_event_keeps_opening.ensures })
    c.each_history_is_sound.ensures.sound c.traces_are_orderly.ensures
