use Rattle.std.proofs.Common.{subst, sym, ap, ◌∙◌}
use Rattle.outside.specs.MemoryFiles.{FilesState, IsPrefixOf, history_of, stopped}
use Rattle.outside.proofs.Histories.{prefix_of_stopped}
use Rattle.outside.proofs.memory_files.MemoryFiles.image.Goals as goal

pub returns-clause-prefix : goal.returns-clause-prefix
returns-clause-prefix c =
    subst (λ changes. IsPrefixOf (history_of changes) (history_of c.args.self.now.changes))
    (sym (ap (λ (s : FilesState). s.changes) (c.in_ok-of_changes.ensures) ∙ c.in_ok-made.ensures ∙ ap (stopped c.args.change c.args.cut) c.deref.ensures.value ∙ ap (λ (s : FilesState). stopped c.args.change c.args.cut s.changes) c.self.view_is))
    (prefix_of_stopped c.args.change c.args.cut c.args.self.now.changes)
