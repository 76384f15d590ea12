use Rattle.engine_shared.proofs.laws.engine_laws.Goals as goal

pub returns : goal.returns
returns c = record {
  sound = c.each_history_is_sound.ensures.sound;
  holds = c.each_history_keeps_holds.ensures;
  shows = c.ready_loads_show_their_keys.ensures;
  opening = c.each_event_keeps_opening.ensures;
  own = c.own_entries_append.ensures;
  join = c.steps_append.ensures.join;
  grow = c.legal_histories_grow.ensures;
}
