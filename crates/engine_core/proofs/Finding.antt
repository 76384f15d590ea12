-- What is found among the active and the cached resources.
use Rattle.std.proofs.Common.{◌≡◌, ℕ, ◌+◌, ◌<◌, Bool, true, false, cond, eqb, List, [], ◌∷◌, map, length, drop, Some, None, Option, refl, ap, sym, subst, ◌∙◌, arith, slice_index_or, true≢false}
use Rattle.std.specs.Prelude.{IsTrue, not, ◌↔◌, IsSome, is_some}
use Rattle.std.specs.Option.{option_map}
use Rattle.std.specs.List.{find}
use Rattle.std.specs.Ordering.{nat_cmp}
use Rattle.std.specs.FinMap.{FinMap, get, len, entries, len-entries, nat_cmp-IsAntisymmetric}
use Rattle.std.proofs.lemmas.Cmp.{nat_cmp_total}
use Rattle.std.proofs.lemmas.Bool.{eq-eqb}
use Rattle.std.proofs.lemmas.List.{drop_more}
use Rattle.finite_maps.specs.Maps.{sum_over, total, map_values}
use Rattle.finite_maps.specs.MapLaws.{not_Some, same_Some, get-map_values, total-map_values}
use Rattle.cache_key.specs.Key.{Key, same_key}
use Rattle.engine_resource.specs.Resource.{ResourceValue}
use Rattle.resource_table.specs.Resources.{Resources, keys_of}
use Rattle.active_resources.specs.Actives.{Numbers, ActiveValue, Fits, TellsIt, activated}
use Rattle.memory_cache.specs.Cache.{CacheValue, number_in}
use Rattle.memory_cache.specs.Cache as cache
use Rattle.engine_world.specs.World.{Loads, Resource, World}
use Rattle.engine_world.specs.World.{Resources as Seen}
use Rattle.engine_world.specs.Places.{one_if, occurrences}
use Rattle.engine_world.specs.Moves.{key_is, has_key, active_of, without}
use Rattle.engine_world.specs.Knowledge.{Knowledge}
use Rattle.engine_world.specs.Sound.{IsJob, ActiveAre, CachedAre, Sound}
use Rattle.engine_world.specs.Laws.{FindsActive}
use Rattle.engine_core.specs.InOrder.{InOrder}
use Rattle.engine_core.specs.Loading.{AllThere, NoneActive, revived}
use Rattle.engine_core.specs.TablesView.{resource_in, world_of, SizesAre}
use Rattle.engine_core.specs.declared.tables.Tables.TheInside.{Inside}
use Rattle.engine_core.proofs.MovedMaps.{moved_there}

one_if_itself : (x : ℕ) → one_if (eqb x x) ≡ 1
one_if_itself x = ap one_if (eq-eqb x x refl)

same_option : (a b : Option ℕ) → ((n : ℕ) → a ≡ Some n → b ≡ Some n) → ((n : ℕ) → b ≡ Some n → a ≡ Some n) → a ≡ b
same_option None None to from = refl
same_option None (Some n) to from = from n refl
same_option (Some n) b to from = sym (to n refl)

module _ (m : Resources) (key : Key) (items : List (ℕ × ℕ)) (i : ℕ) (below : i < length items) where
  abbrev item : ℕ × ℕ
  item = slice_index_or items i (0, 0)

  -- what the walk finds from an item on, by whether it has the key
  found_from : (x : ResourceValue) (has : Bool) → get m item.0 ≡ Some x → same_key x.key key ≡ has
      → find (has_key (map_values resource_in m) key) (map number_in (drop i items))
      ≡ cond has (Some item.0) (find (has_key (map_values resource_in m) key) (map number_in (drop (i + 1) items)))
  found_from x has is same =
      ap (λ l. find (has_key (map_values resource_in m) key) (map number_in l)) (drop_more items i (0, 0) below)
      ∙ ap (λ b. cond b (Some item.0) (find (has_key (map_values resource_in m) key) (map number_in (drop (i + 1) items))))
      (ap (key_is key) (moved_there nat_cmp_total nat_cmp-IsAntisymmetric resource_in m item.0 x is) ∙ same)

  pub found_here : (x : ResourceValue) (whole : Option ℕ) → get m item.0 ≡ Some x → same_key x.key key ≡ true
      → find (has_key (map_values resource_in m) key) (map number_in (drop i items)) ≡ whole → Some item.0 ≡ whole
  found_here x whole is same before = sym (found_from x true is same) ∙ before

  pub found_later : (x : ResourceValue) (whole : Option ℕ) → get m item.0 ≡ Some x → same_key x.key key ≡ false
      → find (has_key (map_values resource_in m) key) (map number_in (drop i items)) ≡ whole
      → find (has_key (map_values resource_in m) key) (map number_in (drop (i + 1) items)) ≡ whole
  found_later x whole is same before = sym (found_from x false is same) ∙ before

  pub there_later : AllThere m (drop i items) → AllThere m (drop (i + 1) items)
  there_later all = (subst (AllThere m) (drop_more items i (0, 0) below) all).1

-- ---- the active resource of a key

module _ (m : Resources) where
  found_by : (o : Option ResourceValue) (a : Resource) → option_map resource_in o ≡ Some a → (x : ResourceValue) × (o ≡ Some x) × (resource_in x ≡ a)
  found_by None a is = absurd (not_Some is)
  found_by (Some x) a is = (x, refl, same_Some _ _ is)

  -- a resource of the world is one of the table
  pub table_has : (r : ℕ) (a : Resource) → get (map_values resource_in m) r ≡ Some a → (x : ResourceValue) × (get m r ≡ Some x) × (resource_in x ≡ a)
  table_has r a is = found_by (get m r) a (sym (get-map_values nat_cmp resource_in m r) ∙ is)

  key_at : (r : ℕ) (x : ResourceValue) → get m r ≡ Some x → get (keys_of m) r ≡ Some x.key
  key_at r x is = get-map_values nat_cmp (λ (resource : ResourceValue). resource.key) m r ∙ ap (option_map (λ (resource : ResourceValue). resource.key)) is

  -- the table's keys fit the active numbers
  pub fits_active : (loads : Loads) (active : Numbers) → ActiveAre loads (map_values resource_in m) active → Fits (keys_of m) active
  fits_active loads active are = record {
    known = λ r is.
        let there = (are.each r is).0 in
        let x = table_has r there.0 there.1 in
        ap is_some (key_at r x.0 x.1);
    apart = λ a b a_in b_in same.
        let a_is = (are.each a a_in).0 in
        let b_is = (are.each b b_in).0 in
        let x = table_has a a_is.0 a_is.1 in
        let y = table_has b b_is.0 b_is.1 in
        let keys : x.0.key ≡ y.0.key = same_Some _ _ (sym (key_at a x.0 x.1) ∙ same ∙ key_at b y.0 y.1) in
        are.apart a b a_is.0 b_is.0 a_in b_in a_is.1 b_is.1 (ap (λ (v : Resource). v.key) (sym x.2) ∙ keys ∙ ap (λ (v : Resource). v.key) y.2);
  }

  module _ (equals : (a b : Key) → IsTrue (same_key a b) ↔ (a ≡ b)) (key : Key) where
    pub has_key_of : (r : ℕ) → get (keys_of m) r ≡ Some key → has_key (map_values resource_in m) key r ≡ true
    has_key_of r is = elim (get m r) as (λ o. get m r ≡ o → has_key (map_values resource_in m) key r ≡ true) [
      | None ↦ λ e. absurd (not_Some (sym (get-map_values nat_cmp (λ (resource : ResourceValue). resource.key) m r ∙ ap (option_map (λ (resource : ResourceValue). resource.key)) e) ∙ is))
      | Some x ↦ λ e. ap (key_is key) (moved_there nat_cmp_total nat_cmp-IsAntisymmetric resource_in m r x e) ∙ (equals x.key key).1 (same_Some _ _ (sym (key_at r x e) ∙ is))
    ] refl

    pub key_of_has : (r : ℕ) → has_key (map_values resource_in m) key r ≡ true → get (keys_of m) r ≡ Some key
    key_of_has r has = elim (get m r) as (λ o. get m r ≡ o → get (keys_of m) r ≡ Some key) [
      | None ↦ λ e. let no : has_key (map_values resource_in m) key r ≡ false = ap (key_is key) (get-map_values nat_cmp resource_in m r ∙ ap (option_map resource_in) e) in absurd (true≢false (sym has ∙ no))
      | Some x ↦ λ e.
          let is : same_key x.key key ≡ true = sym (ap (key_is key) (moved_there nat_cmp_total nat_cmp-IsAntisymmetric resource_in m r x e)) ∙ has in
          key_at r x e ∙ ap Some ((equals x.key key).0 is)
    ] refl

    -- what the table of active numbers answers is the world's active resource of the key
    pub active_is : (loads : Loads) (active : Numbers) (found : Option ℕ) → FindsActive → ActiveAre loads (map_values resource_in m) active
        → TellsIt (keys_of m) (Some key) active found → found ≡ active_of (map_values resource_in m) active key
    active_is loads active found finds are tells = same_option found (active_of (map_values resource_in m) active key)
        (λ r is. let it = (tells r).0 is in (finds loads (map_values resource_in m) active are key r).1 (it.0, has_key_of r it.1))
        (λ r is. let it = (finds loads (map_values resource_in m) active are key r).0 is in (tells r).1 (it.0, key_of_has r it.1))

-- ---- the cached ones are there

pub all_there : (m : Resources) (items : List (ℕ × ℕ)) → ((r : ℕ) → 0 < occurrences r (map number_in items) → IsSome (get m r)) → AllThere m items
all_there m [] h = tt
all_there m (item ∷ items) h = (
  h item.0 (omega (arith, one_if_itself item.0)),
  all_there m items (λ r some. h r (omega (arith, some))),
)

pub cached_there : (m : Resources) (maximum : ℕ) (items : List (ℕ × ℕ)) → CachedAre maximum (map_values resource_in m) (map number_in items) → AllThere m items
cached_there m maximum items are = all_there m items (λ r some.
    let there = (are.each r some).0 in
    ap is_some (table_has m r there.0 there.1).1)

-- ---- as many entries

ones : {X : Type 0} (es : List (ℕ × X)) → sum_over (λ k x. 1) es ≡ length es
ones [] = refl
ones (e ∷ es) = let rest : sum_over (λ k x. 1) es ≡ length es = ones es in omega (arith, rest)

total-ones : {X : Type 0} (m : FinMap nat_cmp X) → total (λ k x. 1) m ≡ len m
unfolding total
total-ones m = ones (entries m) ∙ sym (len-entries m)

-- a map with each value changed has as many entries
pub len-map_values : {X Y : Type 0} (f : X → Y) (m : FinMap nat_cmp X) → len (map_values f m) ≡ len m
len-map_values f m = sym (total-ones (map_values f m)) ∙ total-map_values nat_cmp f (λ k y. 1) m ∙ total-ones m

pub zero_more : (n : ℕ) → 0 + n ≡ n
zero_more n = omega arith

-- no job has the next number
pub unused_job : (s : Inside) (w : World) (known : ℕ → Knowledge) → world_of s ≡ w → Sound w known → get s.live.value s.jobs.added ≡ None
unused_job s w known seen sound = subst (λ (v : World). get v.jobs v.counts.started ≡ None) (sym seen) (elim (get w.jobs w.counts.started) as (λ o. get w.jobs w.counts.started ≡ o → o ≡ None) [
  | None ↦ λ e. refl
  | Some old ↦ λ e. let is : IsJob w.counts.started w.counts.started old = sound.jobs.each w.counts.started old e in absurd (omega (arith, is.below))
] refl)

-- ---- a cached number that leaves

pub numbers_without : (r : ℕ) (items : List (ℕ × ℕ)) → map number_in (cache.without r items) ≡ without r (map number_in items)
numbers_without r [] = refl
numbers_without r (item ∷ items) = elim (eqb item.0 r) as (λ t. map number_in (cond (not t) (item ∷ cache.without r items) (cache.without r items)) ≡ cond (not t) (item.0 ∷ without r (map number_in items)) (without r (map number_in items))) [
  | true ↦ numbers_without r items
  | false ↦ ap (λ l. item.0 ∷ l) (numbers_without r items)
]

pub sizes_left : (m : Seen) (r : ℕ) (items : List (ℕ × ℕ)) → SizesAre m items → SizesAre m (cache.without r items)
sizes_left m r [] sizes = tt
sizes_left m r (item ∷ items) sizes = elim (eqb item.0 r) as (λ t. SizesAre m (cond (not t) (item ∷ cache.without r items) (cache.without r items))) [
  | true ↦ sizes_left m r items sizes.1
  | false ↦ (sizes.0, sizes_left m r items sizes.1)
]

-- a cached resource, as its table has it
pub cached_has : (m : Resources) (maximum r : ℕ) (cached : List ℕ) → CachedAre maximum (map_values resource_in m) cached → 0 < occurrences r cached
    → (x : ResourceValue) × (get m r ≡ Some x) × (get (keys_of m) r ≡ Some x.key)
cached_has m maximum r cached are some =
    let there = (are.each r some).0 in
    let x = table_has m r there.0 there.1 in
    (x.0, x.1, key_at m r x.0 x.1)

-- a cached resource that becomes active, in the place of none
pub revived_is : (s : Inside) (r : ℕ) (a : ActiveValue) (c : CacheValue) (replaced : Option ℕ) → replaced ≡ None → a ≡ activated replaced r s.active → c ≡ record s.cache { items = cache.without r s.cache.items }
    → world_of (record s { active = a; cache = c; counts = record s.counts { memory = s.counts.memory + 1 } }) ≡ revived r (world_of s)
revived_is s r a c replaced none active left =
    ap (λ (v : ActiveValue). world_of (record s { active = v; cache = c; counts = record s.counts { memory = s.counts.memory + 1 } })) (active ∙ ap (λ o. activated o r s.active) none)
    ∙ ap (λ (v : CacheValue). world_of (record s { active = activated None r s.active; cache = v; counts = record s.counts { memory = s.counts.memory + 1 } })) left
    ∙ ap (λ (l : List ℕ). record (revived r (world_of s)) { cached = l }) (numbers_without r s.cache.items)

-- What the table has of a cached resource, and that none of its key is active.
pub record Reviving (s : Inside) (r : ℕ) : Type 0 where
  pub key : Key
  pub key_is : get (keys_of s.resources.resources) r ≡ Some key
  pub none : ((a b : Key) → IsTrue (same_key a b) ↔ (a ≡ b)) → FindsActive → (found : Option ℕ)
      → TellsIt (keys_of s.resources.resources) (Some key) s.active.numbers found → found ≡ None

pub reviving : (s : Inside) (w : World) (r : ℕ) → world_of s ≡ w → InOrder w → 0 < occurrences r w.cached → NoneActive w r → Reviving s r
reviving s w r seen order cached alone =
    let m = s.resources.resources in
    let are : CachedAre s.cache.maximum (map_values resource_in m) (map number_in s.cache.items) = subst (λ (v : World). CachedAre v.limits.memory v.resources v.cached) (sym seen) order.sound.cached in
    let active : ActiveAre s.loads.loads (map_values resource_in m) s.active.numbers = subst (λ (v : World). ActiveAre v.loads v.resources v.active) (sym seen) order.sound.active in
    let x = cached_has m s.cache.maximum r (map number_in s.cache.items) are (subst (λ (v : World). 0 < occurrences r v.cached) (sym seen) cached) in
    let none : NoneActive (world_of s) r = subst (λ (v : World). NoneActive v r) (sym seen) alone in
    record {
      key = x.0.key;
      key_is = x.2;
      none = λ equals finds found tells. active_is m equals x.0.key s.loads.loads s.active.numbers found finds active tells
          ∙ none (resource_in x.0) (moved_there nat_cmp_total nat_cmp-IsAntisymmetric resource_in m r x.0 x.1);
    }
