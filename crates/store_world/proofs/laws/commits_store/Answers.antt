use Rattle.store_world.proofs.Staying.{commit_stores}
use Rattle.store_world.proofs.laws.commits_store.Goals as goal

pub returns : goal.returns
returns c = commit_stores c.entries_stay.ensures c.calls_keep_others.ensures.list_answers
