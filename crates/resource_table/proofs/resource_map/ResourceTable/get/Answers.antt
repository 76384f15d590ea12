use Rattle.std.proofs.Common.{◌≡◌, List, Some, ap, sym, ◌∙◌, arith}
use Rattle.std.specs.Prelude.{slice_get}
use Rattle.std.specs.FinMap.{get}
use Rattle.std.proofs.lemmas.Option.{slice_get_within, get_or_from_slice_get}
use Rattle.engine_resource.specs.Resource.{ResourceValue}
use Rattle.resource_table.specs.Resources.{ResourceTableValue}
use Rattle.resource_table.proofs.Entries.{placed}
use Rattle.resource_table.proofs.resource_map.ResourceTable.get.Goals as goal

pub index-requires : goal.index-requires
index-requires c =
    let es : List ResourceValue = c.self.inside.entries.items in
    let at : (x : ResourceValue) × (slice_get es c.place_of-place.result ≡ Some x) × (x.bitmap.number ≡ c.args.number) × (get c.args.self.now.resources c.args.number ≡ Some x) =
    placed c.deref.result.now es c.args.self.now.resources c.args.number c.place_of-place.result c.deref.ensures.value (ap (λ (v : ResourceTableValue). v.resources) c.self.view_is) c.place_of-place.ensures c.requires in
    omega (arith, slice_get_within es c.place_of-place.result at.0 at.1, c.self.inside.entries.ok)

pub returns-clause-resource : goal.returns-clause-resource
returns-clause-resource c =
    let es : List ResourceValue = c.self.inside.entries.items in
    let at : (x : ResourceValue) × (slice_get es c.place_of-place.result ≡ Some x) × (x.bitmap.number ≡ c.args.number) × (get c.args.self.now.resources c.args.number ≡ Some x) =
    placed c.deref.result.now es c.args.self.now.resources c.args.number c.place_of-place.result c.deref.ensures.value (ap (λ (v : ResourceTableValue). v.resources) c.self.view_is) c.place_of-place.ensures c.requires in
    at.3 ∙ ap Some (sym (c.index.ensures ∙ get_or_from_slice_get es c.place_of-place.result at.0 c.index.result.now at.1))

pub returns-clause-number : goal.returns-clause-number
returns-clause-number c =
    let es : List ResourceValue = c.self.inside.entries.items in
    let at : (x : ResourceValue) × (slice_get es c.place_of-place.result ≡ Some x) × (x.bitmap.number ≡ c.args.number) × (get c.args.self.now.resources c.args.number ≡ Some x) =
    placed c.deref.result.now es c.args.self.now.resources c.args.number c.place_of-place.result c.deref.ensures.value (ap (λ (v : ResourceTableValue). v.resources) c.self.view_is) c.place_of-place.ensures c.requires in
    ap (λ (r : ResourceValue). r.bitmap.number) (c.index.ensures ∙ get_or_from_slice_get es c.place_of-place.result at.0 c.index.result.now at.1) ∙ at.2
