use Rattle.std.proofs.Common.{◌≡◌, ℕ, ◌+◌, ◌<◌, List, [], ◌∷◌, ◌++◌, length, map, None, ap, sym, subst, ◌∙◌, arith}
use Rattle.std.specs.Ordering.{nat_cmp}
use Rattle.std.specs.FinMap.{get, insert, len, find}
use Rattle.std.proofs.lemmas.List.{length_push}
use Rattle.engine_resource.specs.Resource.{ResourceValue}
use Rattle.resource_table.specs.Resources.{Resources, ResourceTableValue}
use Rattle.resource_table.specs.ResourceTableView.{entry_of, resources_of, AreApart}
use Rattle.resource_table.proofs.Entries.{found_is, length_is, pushed_is, apart_push}
use Rattle.resource_table.proofs.resource_map.ResourceTable.add.Goals as goal

few : (es : List ResourceValue) (m : Resources) (room : ℕ) → AreApart es → resources_of es ≡ m → len m < room → length es < room
few es m room apart seen less = let same : length es ≡ len m = sym (length_is es apart) ∙ ap len seen in omega (arith, same, less)

pub push_reserved-requires : goal.push_reserved-requires
push_reserved-requires c =
    let room : c.self.inside.room ≡ c.args.self.now.room = ap (λ (v : ResourceTableValue). v.room) c.self.view_is in
    let less : length c.self.inside.entries.items < c.args.self.now.room =
    few c.self.inside.entries.items c.args.self.now.resources c.args.self.now.room c.self.invariant.apart (ap (λ (v : ResourceTableValue). v.resources) c.self.view_is) c.requires.room in
    omega (arith, room, less, c.self.invariant.reserved, c.self.inside.entries.ok)

pub invariant_of-self : goal.invariant_of-self
invariant_of-self c =
    let es : List ResourceValue = c.self.inside.entries.items in
    let e : ResourceValue = c.args.resource in
    let room : c.self.inside.room ≡ c.args.self.now.room = ap (λ (v : ResourceTableValue). v.room) c.self.view_is in
    let seen : resources_of es ≡ c.args.self.now.resources = ap (λ (v : ResourceTableValue). v.resources) c.self.view_is in
    let less : length es < c.args.self.now.room = few es c.args.self.now.resources c.args.self.now.room c.self.invariant.apart seen c.requires.room in
    let none : find nat_cmp e.bitmap.number (map entry_of es) ≡ None = found_is es e.bitmap.number ∙ ap (λ (m : Resources). get m e.bitmap.number) seen ∙ c.requires.absent in
    let more : c.push_reserved.new.self.items ≡ es ++ e ∷ [] = c.push_reserved.ensures.items in
    let long : length (es ++ e ∷ []) ≡ length es + 1 = length_push es e in
    record {
      apart = subst AreApart (sym more) (apart_push es e c.self.invariant.apart none);
      within = omega (arith, ap length more, long, room, less);
      reserved = omega (arith, c.push_reserved.ensures.capacity, c.self.invariant.reserved);
    }

pub returns : goal.returns
returns c =
    let es : List ResourceValue = c.self.inside.entries.items in
    let e : ResourceValue = c.args.resource in
    let seen : resources_of es ≡ c.args.self.now.resources = ap (λ (v : ResourceTableValue). v.resources) c.self.view_is in
    let none : get (resources_of es) e.bitmap.number ≡ None = ap (λ (m : Resources). get m e.bitmap.number) seen ∙ c.requires.absent in
    ap (λ (m : Resources). record { room = c.self.inside.room; resources = m }) (ap resources_of c.push_reserved.ensures.items ∙ pushed_is es e none)
    ∙ ap (λ (v : ResourceTableValue). record v { resources = insert v.resources e.bitmap.number e }) c.self.view_is
