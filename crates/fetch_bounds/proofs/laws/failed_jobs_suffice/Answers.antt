use Rattle.fetch_bounds.proofs.Licence.{failed_jobs_suffice}
use Rattle.fetch_bounds.proofs.laws.failed_jobs_suffice.Goals as goal

pub returns : goal.returns
returns g c = failed_jobs_suffice
    (record { keeps_sound = c.each_event_keeps_sound.ensures; keeps_opening = c.each_event_keeps_opening.ensures })
    c.each_history_is_sound.ensures.sound c.traces_are_orderly.ensures c.begins_run_together.ensures
