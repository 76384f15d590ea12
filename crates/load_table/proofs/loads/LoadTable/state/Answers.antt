use Rattle.std.proofs.Common.{◌≡◌, List, Some, ap, sym, ◌∙◌, arith}
use Rattle.std.specs.Prelude.{slice_get}
use Rattle.std.specs.FinMap.{get}
use Rattle.std.proofs.lemmas.Option.{slice_get_within, get_or_from_slice_get}
use Rattle.load_table.specs.declared.loads.LoadEntry.{LoadEntry}
use Rattle.load_table.specs.Loads.{LoadName, LoadsValue}
use Rattle.load_table.specs.LoadsView.{name_of, loads_of}
use Rattle.load_table.proofs.Entries.{placed}
use Rattle.load_table.proofs.loads.LoadTable.state.Goals as goal

pub index-requires : goal.index-requires
index-requires g c =
    let es : List (LoadEntry g.row.C.Denot) = c.self.inside.entries.items in
    let q : LoadName = (c.args.owner, c.args.number) in
    let seen : loads_of es ≡ c.args.self.now.loads = ap (λ (v : LoadsValue g.row.C.Denot). v.loads) c.self.view_is in
    let at : (x : LoadEntry g.row.C.Denot) × (slice_get es c.place_of-place.result ≡ Some x) × (name_of x ≡ q) × (get c.args.self.now.loads q ≡ Some x.state) =
    placed c.deref.result.now es c.args.self.now.loads q c.place_of-place.result c.deref.ensures.value seen c.place_of-place.ensures c.requires in
    omega (arith, slice_get_within es c.place_of-place.result at.0 at.1, c.self.inside.entries.ok)

pub returns : goal.returns
returns g c =
    let es : List (LoadEntry g.row.C.Denot) = c.self.inside.entries.items in
    let q : LoadName = (c.args.owner, c.args.number) in
    let seen : loads_of es ≡ c.args.self.now.loads = ap (λ (v : LoadsValue g.row.C.Denot). v.loads) c.self.view_is in
    let at : (x : LoadEntry g.row.C.Denot) × (slice_get es c.place_of-place.result ≡ Some x) × (name_of x ≡ q) × (get c.args.self.now.loads q ≡ Some x.state) =
    placed c.deref.result.now es c.args.self.now.loads q c.place_of-place.result c.deref.ensures.value seen c.place_of-place.ensures c.requires in
    let read : at.0 ≡ c.index.result.now = sym (c.index.ensures ∙ get_or_from_slice_get es c.place_of-place.result at.0 c.index.result.now at.1) in
    at.3 ∙ ap (λ (x : LoadEntry g.row.C.Denot). Some x.state) read
