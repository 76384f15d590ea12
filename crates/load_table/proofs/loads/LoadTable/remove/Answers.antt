use Rattle.std.proofs.Common.{◌≡◌, List, Some, ap, sym, subst, ◌∙◌, arith}
use Rattle.std.specs.Prelude.{slice_get}
use Rattle.std.specs.FinMap.{get, remove}
use Rattle.std.proofs.lemmas.Option.{slice_get_within, get_or_from_slice_get}
use Rattle.load_table.specs.declared.loads.LoadEntry.{LoadEntry}
use Rattle.load_table.specs.Loads.{LoadName, Loads, LoadsValue}
use Rattle.load_table.specs.LoadsView.{name_of, loads_of, AreApart}
use Rattle.load_table.proofs.Entries.{placed, apart_without, without_is}
use Rattle.load_table.proofs.loads.LoadTable.remove.Goals as goal

pub remove-requires : goal.remove-requires
remove-requires g c =
    let es : List (LoadEntry g.row.C.Denot) = c.self.inside.entries.items in
    let q : LoadName = (c.args.owner, c.args.number) in
    let seen : loads_of es ≡ c.args.self.now.loads = ap (λ (v : LoadsValue g.row.C.Denot). v.loads) c.self.view_is in
    let at : (x : LoadEntry g.row.C.Denot) × (slice_get es c.place_of-place.result ≡ Some x) × (name_of x ≡ q) × (get c.args.self.now.loads q ≡ Some x.state) =
    placed c.deref.result.now es c.args.self.now.loads q c.place_of-place.result c.deref.ensures.value seen c.place_of-place.ensures c.requires in
    omega (arith, slice_get_within es c.place_of-place.result at.0 at.1, c.self.inside.entries.ok)

pub invariant_of-self : goal.invariant_of-self
invariant_of-self g c =
    let es : List (LoadEntry g.row.C.Denot) = c.self.inside.entries.items in
    let q : LoadName = (c.args.owner, c.args.number) in
    let seen : loads_of es ≡ c.args.self.now.loads = ap (λ (v : LoadsValue g.row.C.Denot). v.loads) c.self.view_is in
    let at : (x : LoadEntry g.row.C.Denot) × (slice_get es c.place_of-place.result ≡ Some x) × (name_of x ≡ q) × (get c.args.self.now.loads q ≡ Some x.state) =
    placed c.deref.result.now es c.args.self.now.loads q c.place_of-place.result c.deref.ensures.value seen c.place_of-place.ensures c.requires in
    record {
      apart = subst AreApart (sym c.remove.ensures.items) (apart_without es c.place_of-place.result at.0 c.self.invariant.apart at.1);
      within = omega (arith, c.remove.ensures.len, c.self.invariant.within, c.self.inside.entries.ok, c.remove.new.self.ok);
      reserved = omega (arith, c.remove.ensures.capacity, c.self.invariant.reserved);
      small = c.self.invariant.small;
    }

pub returns-clause-state : goal.returns-clause-state
returns-clause-state g c =
    let es : List (LoadEntry g.row.C.Denot) = c.self.inside.entries.items in
    let q : LoadName = (c.args.owner, c.args.number) in
    let seen : loads_of es ≡ c.args.self.now.loads = ap (λ (v : LoadsValue g.row.C.Denot). v.loads) c.self.view_is in
    let at : (x : LoadEntry g.row.C.Denot) × (slice_get es c.place_of-place.result ≡ Some x) × (name_of x ≡ q) × (get c.args.self.now.loads q ≡ Some x.state) =
    placed c.deref.result.now es c.args.self.now.loads q c.place_of-place.result c.deref.ensures.value seen c.place_of-place.ensures c.requires in
    let read : at.0 ≡ c.remove.result = sym (c.remove.ensures.value ∙ get_or_from_slice_get es c.place_of-place.result at.0 c.remove.result at.1) in
    at.3 ∙ ap (λ (x : LoadEntry g.row.C.Denot). Some x.state) read

pub returns-clause-left : goal.returns-clause-left
returns-clause-left g c =
    let es : List (LoadEntry g.row.C.Denot) = c.self.inside.entries.items in
    let q : LoadName = (c.args.owner, c.args.number) in
    let seen : loads_of es ≡ c.args.self.now.loads = ap (λ (v : LoadsValue g.row.C.Denot). v.loads) c.self.view_is in
    let at : (x : LoadEntry g.row.C.Denot) × (slice_get es c.place_of-place.result ≡ Some x) × (name_of x ≡ q) × (get c.args.self.now.loads q ≡ Some x.state) =
    placed c.deref.result.now es c.args.self.now.loads q c.place_of-place.result c.deref.ensures.value seen c.place_of-place.ensures c.requires in
    let loads : loads_of c.remove.new.self.items ≡ remove c.args.self.now.loads q =
    ap loads_of c.remove.ensures.items ∙ without_is es c.place_of-place.result at.0 c.self.invariant.apart at.1
    ∙ ap (λ (m : Loads g.row.C.Denot). remove m (name_of at.0)) seen ∙ ap (remove c.args.self.now.loads) at.2 in
    λ i. record { room = (ap (λ (v : LoadsValue g.row.C.Denot). v.room) c.self.view_is) i; loads = loads i }
