use Rattle.std.proofs.Common.{◌≡◌, ◌≤◌, List, length, ap, sym, ◌∙◌, arith}
use Rattle.std.specs.FinMap.{len}
use Rattle.std.proofs.lemmas.Bool.{eqb-true}
use Rattle.load_table.specs.declared.loads.LoadEntry.{LoadEntry}
use Rattle.load_table.specs.Loads.{LoadsValue}
use Rattle.load_table.specs.LoadsView.{loads_of}
use Rattle.load_table.proofs.Entries.{length_is, absent}
use Rattle.load_table.proofs.loads.tests.lacks.Goals as goal

pub returns-then-len-table-clause-room : goal.returns-then-len-table-clause-room
returns-then-len-table-clause-room g c is =
    let es : List (LoadEntry g.row.C.Denot) = c.table.inside.entries.items in
    let room : c.table.inside.room ≡ c.args.table.now.room = ap (λ (v : LoadsValue g.row.C.Denot). v.room) c.table.view_is in
    let few : length es ≡ len c.args.table.now.loads = sym (length_is es c.table.invariant.apart) ∙ ap (λ (v : LoadsValue g.row.C.Denot). len v.loads) c.table.view_is in
    omega (arith, few, room, c.if-len-table.true, c.len.ensures, c.table.inside.entries.ok)

pub returns-then-len-table-clause-absent : goal.returns-then-len-table-clause-absent
returns-then-len-table-clause-absent g c is =
    let es : List (LoadEntry g.row.C.Denot) = c.table.inside.entries.items in
    let seen : loads_of es ≡ c.args.table.now.loads = ap (λ (v : LoadsValue g.row.C.Denot). v.loads) c.table.view_is in
    let same : c.place_of.result ≡ c.len-then-len-table.result = eqb-true c.place_of.result c.len-then-len-table.result is in
    let past : length es ≤ c.place_of.result = omega (arith, same, c.len-then-len-table.ensures, c.table.inside.entries.ok) in
    absent c.deref.result.now es c.args.table.now.loads (c.args.owner, c.args.number) c.place_of.result c.deref.ensures.value seen c.place_of.ensures past
