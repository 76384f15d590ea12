use Rattle.std.proofs.Common.{◌≡◌, List, length, map, Some, None, refl, sym, ◌∙◌, arith}
use Rattle.std.specs.Ordering.{nat_cmp}
use Rattle.std.specs.FinMap.{find}
use Rattle.std.proofs.lemmas.Option.{slice_get_read, slice_get_past}
use Rattle.engine_resource.specs.Resource.{ResourceValue}
use Rattle.resource_table.specs.ResourceTableView.{entry_of}
use Rattle.resource_table.proofs.Entries.{found_here, found_later, found_end}
use Rattle.resource_table.proofs.resource_map.place_of.Goals as goal

pub loop-i-preserved : goal.loop-i-preserved
loop-i-preserved c =
    found_later c.args.number c.args.entries.now c.loop-i.i c.index-entries-i.result c.loop-i-test.true c.index-entries-i.is (λ is. c.if-number.false (c.number.ensures ∙ sym is)) ∙ c.loop-i.invariant

pub returns-then-number : goal.returns-then-number
returns-then-number c =
    let es : List ResourceValue = c.args.entries.now in
    let e : ResourceValue = c.index-entries-i.result in
    let here : e.bitmap.number ≡ c.args.number = sym c.number.ensures ∙ c.if-number.true in
    let found : find nat_cmp c.args.number (map entry_of es) ≡ Some e = sym c.loop-i.invariant ∙ found_here c.args.number es c.loop-i.i e c.loop-i-test.true c.index-entries-i.is here in
    slice_get_read es (length es) c.loop-i.i e refl c.loop-i-test.true c.index-entries-i.is ∙ sym found

pub returns : goal.returns
returns c =
    let es : List ResourceValue = c.args.entries.now in
    let found : find nat_cmp c.args.number (map entry_of es) ≡ None = sym c.loop-i.invariant ∙ found_end c.args.number es c.loop-i.i c.loop-i-test.false in
    slice_get_past es (length es) (omega arith) ∙ sym found
