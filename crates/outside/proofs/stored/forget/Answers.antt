use Rattle.std.proofs.Common.{sym, ◌∙◌}
use Rattle.outside.proofs.Entries.{get-folder_of, folder_cut}
use Rattle.outside.proofs.stored.forget.Goals as goal

pub returns-clause-found : goal.returns-clause-found
returns-clause-found c = c.remove.ensures.value ∙ sym (get-folder_of c.args.files.now.entries c.args.name.now)

pub returns-clause-folder : goal.returns-clause-folder
returns-clause-folder c = folder_cut _ _ c.args.name.now (λ q. c.remove.ensures.updates.0 q)
