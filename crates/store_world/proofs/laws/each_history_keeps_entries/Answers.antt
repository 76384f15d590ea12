use Rattle.store_world.proofs.Staying.{always_offered}
use Rattle.store_world.proofs.laws.each_history_keeps_entries.Goals as goal

pub returns : goal.returns
returns g c opening now history = always_offered opening now history c.entries_stay.ensures c.calls_keep_others.ensures.list_answers
