use Rattle.std.proofs.Common.{refl, rules}
use Rattle.disk_table.proofs.edits.Edits.new.Goals as goal

pub invariant_of-result : goal.invariant_of-result
invariant_of-result c = record { places = refl; apart = search rules }
