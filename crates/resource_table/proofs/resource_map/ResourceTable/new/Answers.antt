use Rattle.std.proofs.Common.{ap, ◌∙◌}
use Rattle.resource_table.specs.Resources.{Resources}
use Rattle.resource_table.specs.ResourceTableView.{resources_of}
use Rattle.resource_table.proofs.Entries.{resources_of_none}
use Rattle.resource_table.proofs.resource_map.ResourceTable.new.Goals as goal

pub returns : goal.returns
returns c = ap (λ (m : Resources). record { room = c.args.room; resources = m }) (ap resources_of c.in_ok-with_capacity.ensures.items ∙ resources_of_none)
