use Rattle.std.proofs.Common.{ap, ◌∙◌}
use Rattle.load_table.specs.LoadsView.{loads_of}
use Rattle.load_table.proofs.Entries.{loads_of_none}
use Rattle.load_table.proofs.loads.LoadTable.new.Goals as goal

pub returns : goal.returns
returns g c = λ i. record { room = c.args.room; loads = (ap loads_of c.in_ok-with_capacity.ensures.items ∙ loads_of_none) i }
