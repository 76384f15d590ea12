use Rattle.outside.specs.declared.changes.Change.TheVariants.{Made}
use Rattle.outside.proofs.Histories.{changes_of_call}
use Rattle.outside.proofs.memory_files.MemoryFilesFiles.make.Goals as goal

pub returns-clause-files : goal.returns-clause-files
returns-clause-files c = changes_of_call (Made c.args.name.now) c.args.self.now.changes c.call.new.self.changes c.call.result c.call.ensures.call.changed
