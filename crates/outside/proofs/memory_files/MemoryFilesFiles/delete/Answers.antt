use Rattle.std.proofs.Common.{true, Ok}
use Rattle.outside.specs.declared.changes.Change.TheVariants.{Deleted}
use Rattle.outside.proofs.Histories.{changes_of_call}
use Rattle.outside.proofs.memory_files.MemoryFilesFiles.delete.Goals as goal

pub returns-clause-files : goal.returns-clause-files
returns-clause-files c = changes_of_call (Deleted c.args.name.now) c.args.self.now.changes c.call.new.self.changes (Ok true) (c.in_ok-call.ensures).call.changed
