use Rattle.engine_views.proofs.moves.laws_of_moves.Goals as goal

pub returns : goal.returns
returns c = record {
  opening = c.each_event_keeps_opening.ensures;
  stay = c.calls_tell_what_they_add.ensures.stay;
  stay_ready = c.calls_tell_what_they_add.ensures.stay_ready;
  jobs = c.calls_leave_the_rest.ensures.stay;
  join = c.followed_traces_join.ensures;
  failures = c.failures_add_up.ensures.entry;
  runs = c.failures_add_up.ensures.runs;
}
