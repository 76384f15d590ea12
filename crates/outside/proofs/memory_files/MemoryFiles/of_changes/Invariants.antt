use Rattle.std.proofs.Common.{◌≡◌, []}
use Rattle.outside.specs.Calls.{no_calls}
use Rattle.outside.proofs.memory_files.MemoryFiles.of_changes.Given as goal

abbrev pub invariant-loop-change : goal.invariant-loop-change
invariant-loop-change l = l.files ≡ record { changes = l.yielded; calls = no_calls [] }
