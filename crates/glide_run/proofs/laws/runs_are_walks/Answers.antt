use Rattle.glide_run.proofs.laws.runs_are_walks.Goals as goal

pub returns : goal.returns
returns c = record {
  decide = c.ends_decide_the_walk.ensures;
  gather = c.begins_end_at_the_next_gather.ensures;
  cached = c.begins_are_cached_by_loads.ensures;
  blames = c.blamed_sources_failed.ensures;
  orderly = c.traces_are_orderly.ensures;
  join = c.followed_traces_join.ensures;
  orders = c.followed_traces_are_answered.ensures.orders;
  ends = c.followed_traces_are_answered.ensures.ends;
  lines = c.followed_traces_are_answered.ensures.lines;
  marks = c.runs_mark_themselves.ensures;
  bounded = c.runs_are_bounded.ensures;
  begun = c.runs_are_begun.ensures;
  suffice = c.failed_jobs_suffice.ensures;
  failures = c.ends_have_failures.ensures;
  marked = c.marked_begins_failed.ensures;
  sound = c.each_history_is_sound.ensures.sound;
  balanced = c.each_history_is_sound.ensures.balanced;
  limits = c.each_history_keeps_limits.ensures;
}
