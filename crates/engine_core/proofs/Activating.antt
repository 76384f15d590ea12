-- A new resource among the keys of the table, and the active one of its key.
use Rattle.std.proofs.Common.{◌≡◌, ◌≢◌, ℕ, Bool, true, false, inl, inr, List, [], ◌∷◌, map, Some, None, Option, refl, ap, sym, subst, ◌∙◌, arith}
use Rattle.std.specs.Prelude.{is_some, IsTrue, ◌↔◌}
use Rattle.std.specs.Option.{option_map}
use Rattle.std.specs.Ordering.{nat_cmp}
use Rattle.std.specs.FinMap.{get, insert, nat_cmp-IsAntisymmetric}
use Rattle.std.specs.FinSet as set
use Rattle.std.proofs.lemmas.Cmp.{nat_cmp_total}
use Rattle.std.proofs.lemmas.Bool.{eq-eqb}
use Rattle.bitmap_kind.specs.Picture.{BitmapValue}
use Rattle.memory_cache.specs.Cache.{number_in}
use Rattle.finite_maps.specs.Maps.{map_values}
use Rattle.finite_maps.specs.MapLaws.{not_Some, same_Some, get-map_values, get-insert_same, get-insert_other, insert_cases}
use Rattle.cache_key.specs.Key.{Key, same_key}
use Rattle.engine_resource.specs.Resource.{ResourceValue}
use Rattle.resource_table.specs.Resources as table
use Rattle.resource_table.specs.Resources.{keys_of}
use Rattle.active_resources.specs.Actives as actives
use Rattle.active_resources.specs.Actives.{Numbers, ActiveValue, Fits, TellsIt, activated}
use Rattle.engine_world.specs.World.{Loads, Resource, Resources, World}
use Rattle.engine_world.specs.Moves.{key_is, allocation_of, active_of}
use Rattle.engine_world.specs.Sound.{ActiveAre}
use Rattle.engine_world.specs.Steps.{replace, activate}
use Rattle.engine_world.specs.Laws.{FindsActive}
use Rattle.engine_world.specs.Places.{one_if, occurrences}
use Rattle.engine_core.specs.declared.tables.Tables.TheInside.{Inside}
use Rattle.engine_core.specs.Lending.{resource_by}
use Rattle.engine_core.specs.TablesView.{resource_in, world_of, SizesAre, AreJoined}
use Rattle.engine_core.proofs.MovedMaps.{moved_insert}

-- two answers that say the same of each number
pub same_answer : (o p : Option ℕ) → ((r : ℕ) → o ≡ Some r → p ≡ Some r) → ((r : ℕ) → p ≡ Some r → o ≡ Some r) → o ≡ p
same_answer None None there back = refl
same_answer None (Some r) there back = back r refl
same_answer (Some r) p there back = sym (there r refl)

-- the key of a resource that the world has is that of the table
key_seen : (o : Option ResourceValue) (resource : Resource) → option_map resource_in o ≡ Some resource → option_map (λ (r : ResourceValue). r.key) o ≡ Some resource.key
key_seen None resource is = absurd (not_Some is)
key_seen (Some x) resource is = ap (λ (r : Resource). Some r.key) (same_Some _ _ is)

-- an older resource keeps its key
pub older_key : (m : table.Resources) (number : ℕ) (x : ResourceValue) (q : ℕ) (resource : Resource) → get m number ≡ None → get (map_values resource_in m) q ≡ Some resource
    → (q ≢ number) × (get (keys_of (insert m number x)) q ≡ Some resource.key)
older_key m number x q resource absent is =
    let seen : option_map resource_in (get m q) ≡ Some resource = sym (get-map_values nat_cmp resource_in m q) ∙ is in
    let other : q ≢ number = λ same. not_Some (sym (ap (option_map resource_in) (ap (get m) same ∙ absent)) ∙ seen) in (
      other,
      get-map_values nat_cmp (λ (r : ResourceValue). r.key) (insert m number x) q
          ∙ ap (option_map (λ (r : ResourceValue). r.key)) (get-insert_other nat_cmp_total nat_cmp-IsAntisymmetric m number x q other)
          ∙ key_seen (get m q) resource seen,
    )

pub newer_key : (m : table.Resources) (number : ℕ) (x : ResourceValue) → get (keys_of (insert m number x)) number ≡ Some x.key
newer_key m number x = get-map_values nat_cmp (λ (r : ResourceValue). r.key) (insert m number x) number
    ∙ ap (option_map (λ (r : ResourceValue). r.key)) (get-insert_same nat_cmp_total nat_cmp-IsAntisymmetric m number x)

-- the table of active numbers fits the keys with one more
pub fits_more : (m : table.Resources) (number : ℕ) (x : ResourceValue) (loads : Loads) (active : Numbers) → get m number ≡ None → ActiveAre loads (map_values resource_in m) active
    → Fits (keys_of (insert m number x)) active
fits_more m number x loads active absent are = record {
  known = λ q is. let at = (are.each q is).0 in ap is_some (older_key m number x q at.0 absent at.1).1;
  apart = λ a b a_in b_in same.
      let p = (are.each a a_in).0 in
      let q = (are.each b b_in).0 in
      are.apart a b p.0 q.0 a_in b_in p.1 q.1
      (same_Some _ _ (sym (older_key m number x a p.0 absent p.1).1 ∙ same ∙ (older_key m number x b q.0 absent q.1).1));
}

-- the new one is not active yet
pub not_active : (m : table.Resources) (number : ℕ) (loads : Loads) (active : Numbers) → get m number ≡ None → ActiveAre loads (map_values resource_in m) active → set.contains active number ≡ false
not_active m number loads active absent are = elim (set.contains active number) as (λ t. set.contains active number ≡ t → t ≡ false) [
  | true ↦ λ is.
      let at = (are.each number is).0 in
      absurd (not_Some (sym (get-map_values nat_cmp resource_in m number ∙ ap (option_map resource_in) absent) ∙ at.1))
  | false ↦ λ is. refl
] refl

-- the number that is replaced is that of the active resource of the key
pub replaced_is : (m : table.Resources) (number : ℕ) (x : ResourceValue) (loads : Loads) (active : Numbers) (answer : Option ℕ) → FindsActive → ((a b : Key) → IsTrue (same_key a b) ↔ (a ≡ b))
    → get m number ≡ None → ActiveAre loads (map_values resource_in m) active → TellsIt (keys_of (insert m number x)) (get (keys_of (insert m number x)) number) active answer
    → answer ≡ active_of (map_values resource_in m) active x.key
replaced_is m number x loads active answer finds keys absent are tells =
    let resources : Resources = map_values resource_in m in
    let wanted = newer_key m number x in
    same_answer answer (active_of resources active x.key)
    (λ r is.
    let at = (tells r).0 is in
    let there = (are.each r at.0).0 in
    let key : there.0.key ≡ x.key = same_Some _ _ (sym (older_key m number x r there.0 absent there.1).1 ∙ at.1 ∙ wanted) in
    (finds loads resources active are x.key r).1 (at.0, ap (key_is x.key) there.1 ∙ (keys there.0.key x.key).1 key))
    (λ r is.
    let at = (finds loads resources active are x.key r).0 is in
    let there = (are.each r at.0).0 in
    let key : there.0.key ≡ x.key = (keys there.0.key x.key).0 (sym (ap (key_is x.key) there.1) ∙ at.1) in
    (tells r).1 (at.0, (older_key m number x r there.0 absent there.1).1 ∙ ap Some key ∙ sym wanted))

-- both words for the number that is replaced
pub without_is : (o : Option ℕ) (numbers : Numbers) → actives.without o numbers ≡ replace o numbers
without_is None numbers = refl
without_is (Some r) numbers = refl

-- ---- the tables with one more resource

-- a number that the world's resources lack is not in the table
pub absent_in : (s : Inside) (w : World) (n : ℕ) → world_of s ≡ w → get w.resources n ≡ None → get s.resources.resources n ≡ None
absent_in s w n seen absent =
    let none : option_map resource_in (get s.resources.resources n) ≡ None = sym (get-map_values nat_cmp resource_in s.resources.resources n) ∙ ap (λ (v : World). get v.resources n) seen ∙ absent in
    elim (get s.resources.resources n) as (λ o. option_map resource_in o ≡ None → o ≡ None) [ None ↦ λ is. refl | Some x ↦ λ is. absurd (not_Some (sym is)) ] none

-- a resource of the table with none that holds it
abbrev pub new_resource : BitmapValue → Key → Bool → ResourceValue
new_resource bitmap key cacheable = record { bitmap = bitmap; key = key; cacheable = cacheable; count = 0 }

-- The table has one more.
abbrev pub with_resource : table.ResourceTableValue → ResourceValue → table.ResourceTableValue
with_resource t x = record t { resources = insert t.resources x.bitmap.number x }

-- cached sizes stay what they are
pub sizes_with : (m : Resources) (n : ℕ) (resource : Resource) (items : List (ℕ × ℕ)) → occurrences n (map number_in items) ≡ 0 → SizesAre m items → SizesAre (insert m n resource) items
sizes_with m n resource [] none sizes = tt
sizes_with m n resource (item ∷ items) none sizes =
    let other : number_in item ≢ n = λ same. let one = ap one_if (eq-eqb (number_in item) n same) in omega (arith, one, none) in (
      sizes.0 ∙ ap allocation_of (sym (get-insert_other nat_cmp_total nat_cmp-IsAntisymmetric m n resource (number_in item) other)),
      sizes_with m n resource items (omega (arith, none)) sizes.1,
    )

-- what the tables keep among one another, with one resource more
pub joined_with : (s : Inside) (w : World) (bitmap : BitmapValue) (key : Key) (cacheable : Bool) (t : table.ResourceTableValue) → AreJoined s → world_of s ≡ w → occurrences bitmap.number w.cached ≡ 0
    → t ≡ with_resource s.resources (new_resource bitmap key cacheable) → AreJoined (record s { resources = t })
joined_with s w bitmap key cacheable t a seen none is =
    let x : ResourceValue = new_resource bitmap key cacheable in
    let m : table.Resources = s.resources.resources in
    subst (λ (v : table.ResourceTableValue). AreJoined (record s { resources = v })) (sym is) (record {
      jobs = a.jobs;
      out = a.out;
      counts = λ number resource at. elim (insert_cases nat_cmp_total nat_cmp-IsAntisymmetric m x.bitmap.number x number resource at) [
        | inl new ↦ sym (ap (λ (r : ResourceValue). r.count) new.1)
        | inr old ↦ a.counts number resource old.1
      ];
      sizes = subst (λ (v : Resources). SizesAre v s.cache.items) (sym (moved_insert nat_cmp_total nat_cmp-IsAntisymmetric resource_in m x.bitmap.number x))
          (sizes_with (map_values resource_in m) bitmap.number (resource_in x) s.cache.items (ap (λ (v : World). occurrences bitmap.number v.cached) seen ∙ none) a.sizes);
      seats = a.seats;
      loads_room = a.loads_room;
      jobs_room = a.jobs_room;
      resources_room = a.resources_room;
      active_room = a.active_room;
    })

-- and other active numbers
pub reactivated : (s : Inside) (active : ActiveValue) → active.room ≡ s.active.room → AreJoined s → AreJoined (record s { active = active })
reactivated s active room a = record {
  jobs = a.jobs;
  out = a.out;
  counts = a.counts;
  sizes = a.sizes;
  seats = a.seats;
  loads_room = a.loads_room;
  jobs_room = a.jobs_room;
  resources_room = a.resources_room;
  active_room = room ∙ a.active_room;
}

-- the resource that may not be asked for again
pub added_is : (s : Inside) (bitmap : BitmapValue) (key : Key) (t : table.ResourceTableValue) → t ≡ with_resource s.resources (new_resource bitmap key false)
    → world_of (record s { resources = t }) ≡ (let w = world_of s in record (activate false bitmap.number (resource_by key false bitmap) w) { resources = insert w.resources bitmap.number (resource_by key false bitmap) })
added_is s bitmap key t is =
    ap (λ (v : table.ResourceTableValue). world_of (record s { resources = v })) is
    ∙ ap (λ (m : Resources). record (world_of s) { resources = m }) (moved_insert nat_cmp_total nat_cmp-IsAntisymmetric resource_in s.resources.resources bitmap.number (new_resource bitmap key false))

-- and the one that may
pub activated_is : (s : Inside) (bitmap : BitmapValue) (key : Key) (t : table.ResourceTableValue) (active : ActiveValue) (answer : Option ℕ) → t ≡ with_resource s.resources (new_resource bitmap key true)
    → active ≡ activated answer bitmap.number s.active → answer ≡ active_of (map_values resource_in s.resources.resources) s.active.numbers key
    → world_of (record s { resources = t; active = active }) ≡ (let w = world_of s in record (activate true bitmap.number (resource_by key true bitmap) w) { resources = insert w.resources bitmap.number (resource_by key true bitmap) })
activated_is s bitmap key t active answer is now replaced =
    let w : World = world_of s in
    let m : Resources = insert w.resources bitmap.number (resource_by key true bitmap) in
    ap (λ (v : table.ResourceTableValue). world_of (record s { resources = v; active = active })) is
    ∙ ap (λ (v : Resources). record w { resources = v; active = active.numbers }) (moved_insert nat_cmp_total nat_cmp-IsAntisymmetric resource_in s.resources.resources bitmap.number (new_resource bitmap key true))
    ∙ ap (λ (v : ActiveValue). record w { resources = m; active = v.numbers }) now
    ∙ ap (λ (v : Numbers). record w { resources = m; active = set.insert v bitmap.number }) (without_is answer s.active.numbers)
    ∙ ap (λ o. record w { resources = m; active = set.insert (replace o s.active.numbers) bitmap.number }) replaced
