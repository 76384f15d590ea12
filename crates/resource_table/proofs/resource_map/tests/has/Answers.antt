use Rattle.std.proofs.Common.{◌<◌, length, ap, arith}
use Rattle.std.proofs.lemmas.Bool.{ltb-true}
use Rattle.resource_table.specs.Resources.{ResourceTableValue}
use Rattle.resource_table.proofs.Entries.{there}
use Rattle.resource_table.proofs.resource_map.tests.has.Goals as goal

pub returns : goal.returns
returns c is =
    let within : c.place_of.result < length c.table.inside.entries.items = omega (arith, ltb-true c.place_of.result c.len.result is, c.len.ensures, c.table.inside.entries.ok) in
    there c.deref.result.now c.table.inside.entries.items c.args.table.now.resources c.args.number c.place_of.result c.deref.ensures.value
    (ap (λ (v : ResourceTableValue). v.resources) c.table.view_is) c.place_of.ensures within
