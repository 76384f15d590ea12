use Rattle.std.proofs.Common.{◌≡◌, ◌<◌, List, length, ap, arith}
use Rattle.std.proofs.lemmas.Bool.{ltb-true}
use Rattle.load_table.specs.declared.loads.LoadEntry.{LoadEntry}
use Rattle.load_table.specs.Loads.{LoadsValue}
use Rattle.load_table.specs.LoadsView.{loads_of}
use Rattle.load_table.proofs.Entries.{there}
use Rattle.load_table.proofs.loads.tests.has.Goals as goal

pub returns : goal.returns
returns g c is =
    let es : List (LoadEntry g.row.C.Denot) = c.table.inside.entries.items in
    let seen : loads_of es ≡ c.args.table.now.loads = ap (λ (v : LoadsValue g.row.C.Denot). v.loads) c.table.view_is in
    let less : c.place_of.result < c.len.result = ltb-true c.place_of.result c.len.result is in
    let within : c.place_of.result < length es = omega (arith, less, c.len.ensures, c.table.inside.entries.ok) in
    there c.deref.result.now es c.args.table.now.loads (c.args.owner, c.args.number) c.place_of.result c.deref.ensures.value seen c.place_of.ensures within
