use Rattle.std.proofs.Common.{true, Ok}
use Rattle.outside.specs.declared.changes.Change.TheVariants.{Renamed}
use Rattle.outside.proofs.Histories.{changes_of_call}
use Rattle.outside.proofs.memory_files.MemoryFilesFiles.rename.Goals as goal

pub returns-clause-files : goal.returns-clause-files
returns-clause-files c = changes_of_call (Renamed c.args.from.now c.args.to.now) c.args.self.now.changes c.call.new.self.changes (Ok true) (c.in_ok-call.ensures).call.changed
