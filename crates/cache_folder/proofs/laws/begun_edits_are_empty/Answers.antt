use Rattle.cache_folder.proofs.Lookups.{edit_begun}
use Rattle.cache_folder.proofs.laws.begun_edits_are_empty.Goals as goal

pub returns : goal.returns
returns c = edit_begun
