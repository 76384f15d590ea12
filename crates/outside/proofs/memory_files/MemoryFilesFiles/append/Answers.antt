use Rattle.std.proofs.Common.{[], ◌∷◌, ◌++◌, Ok, ap, ◌∙◌}
use Rattle.outside.specs.declared.changes.Change.TheVariants.{Appended}
use Rattle.outside.specs.MemoryFiles.{FilesState}
use Rattle.outside.proofs.Histories.{changes_of_call}
use Rattle.outside.proofs.memory_files.MemoryFilesFiles.append.Goals as goal

pub returns-clause-files : goal.returns-clause-files
returns-clause-files c = changes_of_call (Appended c.args.name.now c.args.bytes.now) c.args.self.now.changes c.append_copy.new.self.changes (Ok tt) (ap (λ (s : FilesState). s.changes) (c.in_ok-append_copy.ensures).ok ∙ ap (λ l. l ++ Appended c.args.name.now c.args.bytes.now ∷ []) c.count_call.ensures.changes)
