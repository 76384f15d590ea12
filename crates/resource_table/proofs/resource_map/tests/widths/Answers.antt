use Rattle.resource_table.proofs.Keys.{known}
use Rattle.resource_table.proofs.resource_map.tests.widths.Goals as goal

pub key-requires : goal.key-requires
key-requires c = record { known = known c.args.table.now.resources c.args.number (c.has.ensures c.if-not-has.false) }
