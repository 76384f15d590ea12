use Rattle.std.proofs.Common.{◌≡◌, List, length, map, Some, None, refl, ap, sym, ◌∙◌, arith}
use Rattle.std.specs.Option.{option_map}
use Rattle.std.specs.FinMap.{find}
use Rattle.std.proofs.lemmas.Option.{slice_get_read, slice_get_past}
use Rattle.std.proofs.lemmas.List.{get_or_read}
use Rattle.load_table.specs.declared.loads.LoadState.{LoadState}
use Rattle.load_table.specs.declared.loads.LoadEntry.{LoadEntry}
use Rattle.load_table.specs.Loads.{LoadName, load_cmp}
use Rattle.load_table.specs.LoadsView.{name_of, entry_of}
use Rattle.load_table.proofs.Entries.{found_here, found_end}
use Rattle.load_table.proofs.loads.place_of.Goals as goal

pub returns-then-entries-i-2 : goal.returns-then-entries-i-2
returns-then-entries-i-2 g c =
    let es : List (LoadEntry g.row.C.Denot) = c.args.entries.now in
    let e : LoadEntry g.row.C.Denot = c.index-entries-i.result in
    let q : LoadName = (c.args.owner, c.args.number) in
    let owner : e.owner ≡ c.args.owner = ap (λ (x : LoadEntry g.row.C.Denot). x.owner) c.index-entries-i.is ∙ c.if-entries-i.true in
    let number : e.number ≡ c.args.number = ap (λ (x : LoadEntry g.row.C.Denot). x.number) (get_or_read es c.loop-i.i e c.loop-i-test.true c.index-entries-i.is c.index-entries-i-then-entries-i.result) ∙ c.if-entries-i-2.true in
    let name : name_of e ≡ q = λ i. (owner i, number i) in
    let found : find load_cmp q (map entry_of es) ≡ Some e.state = sym c.loop-i.invariant ∙ found_here q es c.loop-i.i e c.loop-i-test.true c.index-entries-i.is name in
    ap (option_map entry_of) (slice_get_read es (length es) c.loop-i.i e refl c.loop-i-test.true c.index-entries-i.is) ∙ ap (λ n. Some (n, e.state)) name
    ∙ sym (ap (option_map (λ (state : LoadState g.row.C.Denot). (q, state))) found)

pub returns : goal.returns
returns g c =
    let es : List (LoadEntry g.row.C.Denot) = c.args.entries.now in
    let q : LoadName = (c.args.owner, c.args.number) in
    let found : find load_cmp q (map entry_of es) ≡ None = sym c.loop-i.invariant ∙ found_end q es c.loop-i.i c.loop-i-test.false in
    ap (option_map entry_of) (slice_get_past es (length es) (omega arith)) ∙ sym (ap (option_map (λ (state : LoadState g.row.C.Denot). (q, state))) found)
