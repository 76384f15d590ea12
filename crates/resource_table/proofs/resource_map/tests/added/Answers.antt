use Rattle.std.proofs.Common.{◌≡◌, ◌≤◌, length, sym, ap, arith, ◌∙◌}
use Rattle.std.specs.FinMap.{get, len}
use Rattle.resource_table.specs.Resources.{ResourceTableValue}
use Rattle.resource_table.proofs.Entries.{absent, length_is}
use Rattle.resource_table.proofs.resource_map.tests.added.Goals as goal

pub add-requires-clause-room : goal.add-requires-clause-room
add-requires-clause-room c =
    let room : c.table.inside.room ≡ c.args.table.now.room = ap (λ (v : ResourceTableValue). v.room) c.table.view_is in
    let long : len c.args.table.now.resources ≡ length c.table.inside.entries.items =
    ap (λ (v : ResourceTableValue). len v.resources) (sym c.table.view_is) ∙ length_is c.table.inside.entries.items c.table.invariant.apart in
    omega (arith, room, long, c.if-len-table.false, c.len.ensures, c.table.inside.entries.ok)

pub add-requires-clause-absent : goal.add-requires-clause-absent
add-requires-clause-absent c =
    let past : length c.table.inside.entries.items ≤ c.place_of-place.result = omega (arith, c.if-place-len.false, c.len-else-len-table.ensures, c.table.inside.entries.ok) in
    ap (get c.args.table.now.resources) (sym c.number.ensures)
    ∙ absent c.deref.result.now c.table.inside.entries.items c.args.table.now.resources c.number.result c.place_of-place.result c.deref.ensures.value
    (ap (λ (v : ResourceTableValue). v.resources) c.table.view_is) c.place_of-place.ensures past
