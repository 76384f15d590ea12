use Rattle.std.proofs.Common.{◌≡◌, List, Some, ap, sym, subst, ◌∙◌, arith}
use Rattle.std.specs.Prelude.{slice_get}
use Rattle.std.specs.FinMap.{get, remove}
use Rattle.std.proofs.lemmas.Option.{slice_get_within, get_or_from_slice_get}
use Rattle.engine_resource.specs.Resource.{ResourceValue}
use Rattle.resource_table.specs.Resources.{Resources, ResourceTableValue}
use Rattle.resource_table.specs.ResourceTableView.{resources_of, AreApart}
use Rattle.resource_table.proofs.Entries.{placed, apart_without, without_is}
use Rattle.resource_table.proofs.resource_map.ResourceTable.remove.Goals as goal

pub remove-requires : goal.remove-requires
remove-requires c =
    let es : List ResourceValue = c.self.inside.entries.items in
    let at : (x : ResourceValue) × (slice_get es c.place_of-place.result ≡ Some x) × (x.bitmap.number ≡ c.args.number) × (get c.args.self.now.resources c.args.number ≡ Some x) =
    placed c.deref.result.now es c.args.self.now.resources c.args.number c.place_of-place.result c.deref.ensures.value (ap (λ (v : ResourceTableValue). v.resources) c.self.view_is) c.place_of-place.ensures c.requires in
    omega (arith, slice_get_within es c.place_of-place.result at.0 at.1, c.self.inside.entries.ok)

pub invariant_of-self : goal.invariant_of-self
invariant_of-self c =
    let es : List ResourceValue = c.self.inside.entries.items in
    let at : (x : ResourceValue) × (slice_get es c.place_of-place.result ≡ Some x) × (x.bitmap.number ≡ c.args.number) × (get c.args.self.now.resources c.args.number ≡ Some x) =
    placed c.deref.result.now es c.args.self.now.resources c.args.number c.place_of-place.result c.deref.ensures.value (ap (λ (v : ResourceTableValue). v.resources) c.self.view_is) c.place_of-place.ensures c.requires in
    record {
      apart = subst AreApart (sym c.remove.ensures.items) (apart_without es c.place_of-place.result at.0 c.self.invariant.apart at.1);
      within = omega (arith, c.remove.ensures.len, c.self.invariant.within, c.self.inside.entries.ok, c.remove.new.self.ok);
      reserved = omega (arith, c.remove.ensures.capacity, c.self.invariant.reserved);
    }

pub returns-clause-resource : goal.returns-clause-resource
returns-clause-resource c =
    let es : List ResourceValue = c.self.inside.entries.items in
    let at : (x : ResourceValue) × (slice_get es c.place_of-place.result ≡ Some x) × (x.bitmap.number ≡ c.args.number) × (get c.args.self.now.resources c.args.number ≡ Some x) =
    placed c.deref.result.now es c.args.self.now.resources c.args.number c.place_of-place.result c.deref.ensures.value (ap (λ (v : ResourceTableValue). v.resources) c.self.view_is) c.place_of-place.ensures c.requires in
    at.3 ∙ ap Some (sym (c.remove.ensures.value ∙ get_or_from_slice_get es c.place_of-place.result at.0 c.remove.result at.1))

pub returns-clause-number : goal.returns-clause-number
returns-clause-number c =
    let es : List ResourceValue = c.self.inside.entries.items in
    let at : (x : ResourceValue) × (slice_get es c.place_of-place.result ≡ Some x) × (x.bitmap.number ≡ c.args.number) × (get c.args.self.now.resources c.args.number ≡ Some x) =
    placed c.deref.result.now es c.args.self.now.resources c.args.number c.place_of-place.result c.deref.ensures.value (ap (λ (v : ResourceTableValue). v.resources) c.self.view_is) c.place_of-place.ensures c.requires in
    ap (λ (r : ResourceValue). r.bitmap.number) (c.remove.ensures.value ∙ get_or_from_slice_get es c.place_of-place.result at.0 c.remove.result at.1) ∙ at.2

pub returns-clause-left : goal.returns-clause-left
returns-clause-left c =
    let es : List ResourceValue = c.self.inside.entries.items in
    let at : (x : ResourceValue) × (slice_get es c.place_of-place.result ≡ Some x) × (x.bitmap.number ≡ c.args.number) × (get c.args.self.now.resources c.args.number ≡ Some x) =
    placed c.deref.result.now es c.args.self.now.resources c.args.number c.place_of-place.result c.deref.ensures.value (ap (λ (v : ResourceTableValue). v.resources) c.self.view_is) c.place_of-place.ensures c.requires in
    ap (λ (m : Resources). record { room = c.self.inside.room; resources = m })
    (ap resources_of c.remove.ensures.items ∙ without_is es c.place_of-place.result at.0 c.self.invariant.apart at.1 ∙ ap (remove (resources_of es)) at.2)
    ∙ ap (λ (v : ResourceTableValue). record v { resources = remove v.resources c.args.number }) c.self.view_is
