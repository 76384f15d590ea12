use Rattle.store_world.proofs.Staying.{entries_law}
use Rattle.store_world.proofs.laws.each_event_keeps_entries.Goals as goal

pub returns : goal.returns
returns c event = entries_law c.entries_stay.ensures c.calls_keep_others.ensures.list_answers event
