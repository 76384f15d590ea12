-- The memory cache, from which the eldest goes to the pool again and again.
use Rattle.std.proofs.Common.{◌≡◌, ◌≢◌, ℕ, ◌+◌, ◌-◌, ◌<◌, ◌≤◌, Bool, true, false, cond, eqb, ltb, leb, List, [], ◌∷◌, ◌++◌, length, map, take, drop, Some, None, Option, refl, ap, sym, subst, ◌∙◌, inl, inr, arith, true≢false}
use Rattle.std.specs.Prelude.{zero, suc, IsSome, is_some, ◌⊎◌, ◌&&◌, ◌||◌, sum_by, reverse, filter, slice_get}
use Rattle.std.specs.Option.{option_map}
use Rattle.std.specs.FinMap.{get, remove, nat_cmp-IsAntisymmetric}
use Rattle.std.proofs.lemmas.Cmp.{nat_cmp_total}
use Rattle.std.proofs.lemmas.Bool.{eq-eqb, ltb-true, ltb-false, or_cases, or_parts}
use Rattle.std.proofs.lemmas.List.{length-map, take-map}
use Rattle.std.proofs.lemmas.List.Sums.{sum_by-cons}
use Rattle.std.proofs.lemmas.Option.{slice_get-map}
use Rattle.fitting.specs.Fitting.{fitting}
use Rattle.fitting.specs.Prefixes.{IsOver}
use Rattle.finite_maps.specs.Maps.{map_values}
use Rattle.finite_maps.specs.MapLaws.{not_Some, same_Some, get-remove_other}
use Rattle.memory_cache.specs.Cache.{CacheValue, cache_kept, cache_gone, is_above, is_over, given_up, left_after, number_in, size_in}
use Rattle.memory_cache.specs.Evicting.{EldestGoes, NoneGoes}
use Rattle.bitmap_pool.specs.Pool.{pool_put}
use Rattle.engine_world.specs.World.{Resource, Resources, World}
use Rattle.engine_world.specs.Places.{one_if, occurrences}
use Rattle.engine_world.specs.Moves.{allocation_of, size_of, pool_resource, to_pool, all_to_pool, shrink_cache}
use Rattle.engine_world.specs.OccurrenceLaws.{one_if_same, occurrences-append}
use Rattle.engine_core.specs.declared.tables.Tables.TheInside.{Inside}
use Rattle.engine_core.specs.TablesView.{resource_in, world_of, SizesAre, AreJoined}
use Rattle.engine_core.specs.Releasing.{AreCached}

-- ---- how often a number stands in a list

-- a list without its last
last_off : (x : ℕ) (xs : List ℕ) (e : ℕ) → slice_get (x ∷ xs) (length xs) ≡ Some e → x ∷ xs ≡ take (length xs) (x ∷ xs) ++ e ∷ []
last_off x [] e is = ap (λ n. n ∷ []) (same_Some _ _ is)
last_off x (y ∷ xs) e is = ap (λ l. x ∷ l) (last_off y xs e is)

pub without_eldest : (xs : List ℕ) (e : ℕ) → slice_get xs (length xs - 1) ≡ Some e → xs ≡ take (length xs - 1) xs ++ e ∷ []
without_eldest [] e is = absurd (not_Some is)
without_eldest (x ∷ xs) e is =
    let one_less : length (x ∷ xs) - 1 ≡ length xs = omega arith in
    last_off x xs e (sym (ap (slice_get (x ∷ xs)) one_less) ∙ is) ∙ sym (ap (λ n. take n (x ∷ xs) ++ e ∷ []) one_less)

-- how often what stays stands, and what goes
pub eldest_counts : (b : ℕ) (xs : List ℕ) (e : ℕ) → slice_get xs (length xs - 1) ≡ Some e → occurrences b xs ≡ occurrences b (take (length xs - 1) xs) + one_if (eqb e b)
eldest_counts b xs e is =
    let parts = ap (occurrences b) (without_eldest xs e is) ∙ occurrences-append b (take (length xs - 1) xs) (e ∷ []) in
    omega (arith, parts)

-- ---- sizes of the world and of the cache

pub sums_same : (m : Resources) (items : List (ℕ × ℕ)) → SizesAre m items → sum_by size_in items ≡ sum_by (size_of m) (map number_in items)
sums_same m [] sizes = refl
sums_same m (item ∷ items) sizes =
    let rest : sum_by size_in items ≡ sum_by (size_of m) (map number_in items) = sums_same m items sizes.1 in
    let left : sum_by size_in (item ∷ items) ≡ size_in item + sum_by size_in items = sum_by-cons size_in item items in
    let right : sum_by (size_of m) (map number_in (item ∷ items)) ≡ size_of m (number_in item) + sum_by (size_of m) (map number_in items) = sum_by-cons (size_of m) (number_in item) (map number_in items) in
    omega (arith, rest, left, right, sizes.0)

pub sizes_take : (m : Resources) (n : ℕ) (items : List (ℕ × ℕ)) → SizesAre m items → SizesAre m (take n items)
sizes_take m zero items sizes = tt
sizes_take m (suc n) [] sizes = tt
sizes_take m (suc n) (item ∷ items) sizes = (sizes.0, sizes_take m n items sizes.1)

pub sizes_filter : (m : Resources) (p : ℕ × ℕ → Bool) (items : List (ℕ × ℕ)) → SizesAre m items → SizesAre m (filter p items)
sizes_filter m p [] sizes = tt
sizes_filter m p (item ∷ items) sizes = elim (p item) as (λ t. SizesAre m (cond t (item ∷ filter p items) (filter p items))) [
  | true ↦ (sizes.0, sizes_filter m p items sizes.1)
  | false ↦ sizes_filter m p items sizes.1
]

-- the cache changes
pub recached : (s : Inside) (cache : CacheValue) → SizesAre (map_values resource_in s.resources.resources) cache.items → AreJoined s → AreJoined (record s { cache = cache })
recached s cache sizes a = record {
  jobs = a.jobs;
  out = a.out;
  counts = a.counts;
  sizes = sizes;
  seats = a.seats;
  loads_room = a.loads_room;
  jobs_room = a.jobs_room;
  resources_room = a.resources_room;
  active_room = a.active_room;
}

-- ---- what fits, by sizes that agree

pub fitting_same : (f g : ℕ → ℕ) (room slots : ℕ) (xs : List ℕ) → ((q : ℕ) → 0 < occurrences q xs → f q ≡ g q) → fitting f room slots xs ≡ fitting g room slots xs
fitting_same f g room slots [] same = refl
fitting_same f g room slots (x ∷ xs) same =
    let first : f x ≡ g x = same x (let one = one_if_same x in omega (arith, one)) in
    ap (λ n. cond (ltb 0 slots && leb n room) (1 + fitting f (room - n) (slots - 1) xs) 0) first
    ∙ ap (λ n. cond (ltb 0 slots && leb (g x) room) (1 + n) 0) (fitting_same f g (room - g x) (slots - 1) xs (λ q some. same q (omega (arith, some))))

pub gone_same : (f g : ℕ → ℕ) (room : ℕ) (xs : List ℕ) → ((q : ℕ) → 0 < occurrences q xs → f q ≡ g q) → cache_gone f room xs ≡ cache_gone g room xs
gone_same f g room xs same = ap (λ n. reverse (drop n xs)) (fitting_same f g room 1024 xs same)

pub kept_same : (f g : ℕ → ℕ) (room : ℕ) (xs : List ℕ) → ((q : ℕ) → 0 < occurrences q xs → f q ≡ g q) → cache_kept f room xs ≡ cache_kept g room xs
kept_same f g room xs same = ap (λ n. take n xs) (fitting_same f g room 1024 xs same)

-- ---- one step

-- the world that one step leaves
abbrev pub evicted : World → ℕ → World
evicted w e = to_pool e (record w { cached = take (length w.cached - 1) w.cached })

evicted_at : (w : World) (e : ℕ) (resource : Resource) → get w.resources e ≡ Some resource
    → evicted w e ≡ record w { cached = take (length w.cached - 1) w.cached; resources = remove w.resources e; pool = pool_put w.limits.pool resource.allocation resource.picture.config e w.pool }
evicted_at w e resource at = ap (λ o. pool_resource e o (record w { cached = take (length w.cached - 1) w.cached })) at

others : (w : World) (e q : ℕ) → AreCached w → slice_get w.cached (length w.cached - 1) ≡ Some e → 0 < occurrences q (take (length w.cached - 1) w.cached) → q ≢ e
others w e q are last some same =
    let counts = eldest_counts q w.cached e last in
    let one : one_if (eqb e q) ≡ 1 = ap (λ n. one_if (eqb n q)) (sym same) ∙ one_if_same q in
    absurd (omega (arith, counts, one, are.once q, some))

module _ (w : World) (e room : ℕ) (resource : Resource) (at : get w.resources e ≡ Some resource) (are : AreCached w) (last : slice_get w.cached (length w.cached - 1) ≡ Some e) where
  same_there : (q : ℕ) → 0 < occurrences q (take (length w.cached - 1) w.cached) → get (remove w.resources e) q ≡ get w.resources q
  same_there q some = get-remove_other nat_cmp_total nat_cmp-IsAntisymmetric w.resources e q (others w e q are last some)

  pub step_shrinks : EldestGoes ℕ → IsOver (size_of w.resources) room 1024 w.cached → shrink_cache room (evicted w e) ≡ shrink_cache room w
  step_shrinks eldest over =
      let xs : List ℕ = take (length w.cached - 1) w.cached in
      let m : Resources = remove w.resources e in
      let pool = pool_put w.limits.pool resource.allocation resource.picture.config e w.pool in
      let law = eldest (size_of w.resources) room w.cached e over last in
      let sizes : (q : ℕ) → 0 < occurrences q xs → size_of m q ≡ size_of w.resources q = λ q some. ap allocation_of (same_there q some) in
      ap (shrink_cache room) (evicted_at w e resource at)
      ∙ ap (λ l. all_to_pool l (record w { cached = cache_kept (size_of m) room xs; resources = m; pool = pool })) (gone_same (size_of m) (size_of w.resources) room xs sizes)
      ∙ ap (λ l. all_to_pool (cache_gone (size_of w.resources) room xs) (record w { cached = l; resources = m; pool = pool })) (kept_same (size_of m) (size_of w.resources) room xs sizes ∙ law.0)
      ∙ sym (ap (λ l. all_to_pool l (record w { cached = cache_kept (size_of w.resources) room w.cached })) law.1
      ∙ ap (λ o. all_to_pool (cache_gone (size_of w.resources) room xs) (pool_resource e o (record w { cached = cache_kept (size_of w.resources) room w.cached }))) at)

  pub step_cached : AreCached (evicted w e)
  step_cached = subst AreCached (sym (evicted_at w e resource at)) (record {
    once = λ q. let counts = eldest_counts q w.cached e last in omega (arith, counts, are.once q);
    there = λ q some.
        let counts = eldest_counts q w.cached e last in
        ap is_some (same_there q some) ∙ are.there q (omega (arith, counts, some));
  })

-- where none goes, all stay
pub none_shrinks : (w : World) (room : ℕ) → NoneGoes ℕ → sum_by (size_of w.resources) w.cached ≤ room → length w.cached ≤ 1024 → shrink_cache room w ≡ w
none_shrinks w room none size few =
    let law = none (size_of w.resources) room w.cached size few in
    ap (λ l. all_to_pool l (record w { cached = cache_kept (size_of w.resources) room w.cached })) law.1
    ∙ ap (λ l. record w { cached = l }) law.0

-- ---- the same in the tables

-- what a call of the cache gives up is the eldest
pub eldest_item : (goes : Bool) (items : List (ℕ × ℕ)) (number : ℕ) → Some number ≡ option_map number_in (given_up goes items)
    → (goes ≡ true) × (slice_get (map number_in items) (length (map number_in items) - 1) ≡ Some number)
eldest_item true items number is =
    (refl, ap (λ n. slice_get (map number_in items) (n - 1)) (length-map items number_in) ∙ slice_get-map number_in items (length items - 1) ∙ sym is)
eldest_item false items number is = absurd (not_Some (sym is))

-- and the others are left
pub left_numbers : (s : Inside) (cache : CacheValue) (goes : Bool) → goes ≡ true → cache ≡ record s.cache { items = left_after goes s.cache.items }
    → world_of (record s { cache = cache }) ≡ (let w = world_of s in record w { cached = take (length w.cached - 1) w.cached })
left_numbers s cache goes does is =
    let w : World = world_of s in
    let items : List (ℕ × ℕ) = s.cache.items in
    ap (λ (v : CacheValue). world_of (record s { cache = v })) (is ∙ ap (λ b. record s.cache { items = left_after b items }) does)
    ∙ ap (λ (l : List ℕ). record w { cached = l }) (sym (take-map number_in (length items - 1) items) ∙ ap (λ n. take (n - 1) (map number_in items)) (sym (length-map items number_in)))

-- where none is given up the cache stays
pub nothing_left : (cache now : CacheValue) (goes : Bool) → goes ≡ false → now ≡ record cache { items = left_after goes cache.items } → now ≡ cache
nothing_left cache now goes stays is = is ∙ ap (λ b. record cache { items = left_after b cache.items }) stays

-- what is left has the sizes of its resources
pub left_sizes : (m : Resources) (goes : Bool) (items : List (ℕ × ℕ)) → SizesAre m items → SizesAre m (left_after goes items)
left_sizes m true items sizes = sizes_take m (length items - 1) items sizes
left_sizes m false items sizes = sizes

pub above_is : (m : Resources) (room : ℕ) (items : List (ℕ × ℕ)) → SizesAre m items → is_above size_in room items ≡ true → IsOver (size_of m) room 1024 (map number_in items)
above_is m room items sizes is =
    let more : room < sum_by size_in items = ltb-true _ _ is in
    let sums = sums_same m items sizes in
    inl (omega (arith, more, sums))

pub over_is : (m : Resources) (room : ℕ) (items : List (ℕ × ℕ)) → SizesAre m items → is_over size_in room items ≡ true → IsOver (size_of m) room 1024 (map number_in items)
over_is m room items sizes is = elim (or_cases (is_above size_in room items) (ltb 1024 (length items)) is) [
  | inl above ↦ above_is m room items sizes above
  | inr many ↦ let more : 1024 < length items = ltb-true _ _ many in let long = length-map items number_in in inr (omega (arith, more, long))
]

pub within_above : (m : Resources) (room : ℕ) (items : List (ℕ × ℕ)) → SizesAre m items → is_above size_in room items ≡ false → sum_by (size_of m) (map number_in items) ≤ room
within_above m room items sizes is =
    let most : sum_by size_in items ≤ room = ltb-false _ _ is in
    let sums = sums_same m items sizes in
    omega (arith, most, sums)

pub within_over : (m : Resources) (room : ℕ) (items : List (ℕ × ℕ)) → SizesAre m items → is_over size_in room items ≡ false
    → (sum_by (size_of m) (map number_in items) ≤ room) × (length (map number_in items) ≤ 1024)
within_over m room items sizes is =
    let neither = or_parts (is_above size_in room items) (ltb 1024 (length items)) is in
    let few : length items ≤ 1024 = ltb-false _ _ neither.1 in
    let long = length-map items number_in in
    (within_above m room items sizes neither.0, omega (arith, few, long))

-- ---- what one step does, whatever the resource is

pub found : (o : Option Resource) → IsSome o → (x : Resource) × (o ≡ Some x)
found None is = absurd (true≢false (sym is))
found (Some x) is = (x, refl)

-- The eldest is there, and stands no more where it is given up.
pub record IsEldest (w : World) (e : ℕ) : Type 0 where
  pub last : slice_get w.cached (length w.cached - 1) ≡ Some e
  pub are : AreCached w

eldest_stands : (w : World) (e : ℕ) → IsEldest w e → 0 < occurrences e w.cached
eldest_stands w e is = let counts = eldest_counts e w.cached e is.last in let one = one_if_same e in omega (arith, counts, one)

pub eldest_there : (w : World) (e : ℕ) → IsEldest w e → IsSome (get w.resources e)
eldest_there w e is = is.are.there e (eldest_stands w e is)

pub eldest_once : (w : World) (e : ℕ) → IsEldest w e → occurrences e (take (length w.cached - 1) w.cached) ≡ 0
eldest_once w e is = let counts = eldest_counts e w.cached e is.last in let one = one_if_same e in omega (arith, counts, one, is.are.once e)

pub eldest_shrinks : (w : World) (e room : ℕ) → IsEldest w e → EldestGoes ℕ → IsOver (size_of w.resources) room 1024 w.cached → shrink_cache room (evicted w e) ≡ shrink_cache room w
eldest_shrinks w e room is goes over = let at = found (get w.resources e) (eldest_there w e is) in step_shrinks w e room at.0 at.1 is.are is.last goes over

pub eldest_cached : (w : World) (e : ℕ) → IsEldest w e → AreCached (evicted w e)
eldest_cached w e is = let at = found (get w.resources e) (eldest_there w e is) in step_cached w e 0 at.0 at.1 is.are is.last
