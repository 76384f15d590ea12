-- What goes to the memory cache, and what leaves it by its number.
use Rattle.std.proofs.Common.{◌≡◌, ◌≢◌, ℕ, ◌+◌, ◌<◌, ◌≤◌, Bool, true, false, cond, eqb, ltb, List, [], ◌∷◌, length, map, Some, refl, ap, sym, subst, ◌∙◌, arith, true≢false}
use Rattle.std.specs.Prelude.{IsSome, is_some, ◌||◌, not, sum_by, find}
use Rattle.std.specs.Option.{option_map}
use Rattle.std.specs.Ordering.{nat_cmp}
use Rattle.std.specs.FinMap.{get, remove, nat_cmp-IsAntisymmetric}
use Rattle.std.proofs.lemmas.Cmp.{nat_cmp_total}
use Rattle.std.proofs.lemmas.Bool.{eq-eqb, ltb-true}
use Rattle.std.proofs.lemmas.List.Sums.{sum_by-cons}
use Rattle.engine_resource.specs.Resource.{ResourceValue}
use Rattle.finite_maps.specs.Maps.{map_values}
use Rattle.finite_maps.specs.MapLaws.{not_Some, same_Some, get-map_values, get-remove_other}
use Rattle.memory_cache.specs.Cache as cache
use Rattle.memory_cache.specs.Cache.{CacheValue, number_in, size_in, has_number, is_over, is_above}
use Rattle.resource_table.specs.Resources as table
use Rattle.engine_world.specs.World.{Resource, Resources, World}
use Rattle.engine_world.specs.Places.{one_if, occurrences}
use Rattle.engine_world.specs.Moves.{allocation_of, size_of, without, pool_resource, cached_to_pool}
use Rattle.engine_world.specs.OccurrenceLaws.{one_if_same, without-le, without_same}
use Rattle.engine_core.specs.declared.tables.Tables.TheInside.{Inside}
use Rattle.engine_core.specs.TablesView.{resource_in, world_of, SizesAre}
use Rattle.engine_core.specs.Releasing.{IsIdle}
use Rattle.engine_core.specs.Loading.{AllThere}
use Rattle.engine_core.proofs.Joins.{some_held}
use Rattle.engine_core.proofs.Shrinking.{sums_same, found}

-- ---- what stands in the cache

-- the resources of cached items are there
pub all_there : (m : table.Resources) (items : List (ℕ × ℕ)) → ((r : ℕ) → 0 < occurrences r (map number_in items) → IsSome (get (map_values resource_in m) r)) → AllThere m items
all_there m [] are = tt
all_there m (item ∷ items) are = (
  some_held (get m (number_in item)) (ap is_some (sym (get-map_values nat_cmp resource_in m (number_in item))) ∙ are (number_in item) (let one = one_if_same (number_in item) in omega (arith, one))),
  all_there m items (λ r some. are r (omega (arith, some))),
)

-- a number that does not stand there
pub has_none : (r : ℕ) (items : List (ℕ × ℕ)) → occurrences r (map number_in items) ≡ 0 → has_number r items ≡ false
has_none r [] none = refl
has_none r (item ∷ items) none = elim (eqb (number_in item) r) as (λ t. eqb (number_in item) r ≡ t → (t || has_number r items) ≡ false) [
  | true ↦ λ e. let one : one_if (eqb (number_in item) r) ≡ 1 = ap one_if e in absurd (omega (arith, one, none))
  | false ↦ λ e. has_none r items (omega (arith, none))
] refl

-- within its limits it is not over
pub not_over : (m : Resources) (maximum : ℕ) (items : List (ℕ × ℕ)) → SizesAre m items → sum_by (size_of m) (map number_in items) ≤ maximum → length items ≤ 1024 → is_over size_in maximum items ≡ false
not_over m maximum items sizes size few =
    let sums = sums_same m items sizes in
    elim (ltb maximum (sum_by size_in items)) as (λ t. ltb maximum (sum_by size_in items) ≡ t → (t || ltb 1024 (length items)) ≡ false) [
      | true ↦ λ e. let more : maximum < sum_by size_in items = ltb-true _ _ e in absurd (omega (arith, more, sums, size))
      | false ↦ λ e. elim (ltb 1024 (length items)) as (λ t. ltb 1024 (length items) ≡ t → t ≡ false) [
        | true ↦ λ e. let more : 1024 < length items = ltb-true _ _ e in absurd (omega (arith, more, few))
        | false ↦ λ e. refl
      ] refl
    ] refl

-- ---- without a number

-- the numbers of the items without one
pub without_numbers : (r : ℕ) (items : List (ℕ × ℕ)) → map number_in (cache.without r items) ≡ without r (map number_in items)
without_numbers r [] = refl
without_numbers r (item ∷ items) = elim (eqb (number_in item) r) as (λ t. map number_in (cond (not t) (item ∷ cache.without r items) (cache.without r items)) ≡ cond (not t) (number_in item ∷ without r (map number_in items)) (without r (map number_in items))) [
  | true ↦ without_numbers r items
  | false ↦ ap (λ l. number_in item ∷ l) (without_numbers r items)
]

-- what is left is not larger, by sizes that agree on it
pub without_size : (f g : ℕ → ℕ) (r : ℕ) (xs : List ℕ) → ((q : ℕ) → q ≢ r → f q ≡ g q) → sum_by f (without r xs) ≤ sum_by g xs
without_size f g r [] same = omega arith
without_size f g r (x ∷ xs) same =
    let rest : sum_by f (without r xs) ≤ sum_by g xs = without_size f g r xs same in
    let all : sum_by g (x ∷ xs) ≡ g x + sum_by g xs = sum_by-cons g x xs in
    elim (eqb x r) as (λ t. eqb x r ≡ t → sum_by f (cond (not t) (x ∷ without r xs) (without r xs)) ≤ sum_by g (x ∷ xs)) [
      | true ↦ λ e. omega (arith, rest, all)
      | false ↦ λ e.
          let one : f x ≡ g x = same x (λ is. true≢false (sym (eq-eqb x r is) ∙ e)) in
          let less : sum_by f (x ∷ without r xs) ≡ f x + sum_by f (without r xs) = sum_by-cons f x (without r xs) in
          omega (arith, rest, all, one, less)
    ] refl

pub without_few : (r : ℕ) (xs : List ℕ) → length (without r xs) ≤ length xs
without_few r [] = omega arith
without_few r (x ∷ xs) = let rest : length (without r xs) ≤ length xs = without_few r xs in elim (eqb x r) as (λ t. length (cond (not t) (x ∷ without r xs) (without r xs)) ≤ length (x ∷ xs)) [ true ↦ omega (arith, rest) | false ↦ omega (arith, rest) ]

-- ---- another cached resource goes

-- the world without a cached resource
taken_out : (w : World) (older : ℕ) (gone : Resource) → get w.resources older ≡ Some gone
    → cached_to_pool (Some older) w ≡ pool_resource older (Some gone) (record w { cached = without older w.cached })
taken_out w older gone at = ap (λ o. pool_resource older o (record w { cached = without older w.cached })) at

-- a resource that is idle stays so where a cached one goes
pub still_idle : (w : World) (number older : ℕ) → IsIdle w number → 0 < occurrences older w.cached → IsIdle (cached_to_pool (Some older) w) number
still_idle w number older idle some =
    let gone = found (get w.resources older) (idle.cached.there older some) in
    let other : number ≢ older = λ is. let none = ap (λ n. occurrences n w.cached) (sym is) in absurd (omega (arith, none, some, idle.uncached)) in
    subst (λ (v : World). IsIdle v number) (sym (taken_out w older gone.0 gone.1)) (record {
      resource = idle.resource;
      there = get-remove_other nat_cmp_total nat_cmp-IsAntisymmetric w.resources older number other ∙ idle.there;
      uncached = let less = without-le number older w.cached in omega (arith, less, idle.uncached);
      cached = record {
        once = λ r. let less = without-le r older w.cached in omega (arith, less, idle.cached.once r);
        there = λ r in_.
            let less = without-le r older w.cached in
            let ne : r ≢ older = λ is. let none = ap (λ n. occurrences n (without older w.cached)) is ∙ without_same older w.cached in absurd (omega (arith, none, in_)) in
            ap is_some (get-remove_other nat_cmp_total nat_cmp-IsAntisymmetric w.resources older r ne) ∙ idle.cached.there r (omega (arith, less, in_));
      };
      within = record {
        size = let less = without_size (size_of (remove w.resources older)) (size_of w.resources) older w.cached (λ q ne. ap allocation_of (get-remove_other nat_cmp_total nat_cmp-IsAntisymmetric w.resources older q ne)) in
            omega (arith, less, idle.within.size);
        few = let less = without_few older w.cached in omega (arith, less, idle.within.few);
      };
    })

-- ---- what is found

-- what the first key finds stands there
pub find_stands : (p : ℕ → Bool) (xs : List ℕ) (r : ℕ) → find p xs ≡ Some r → 0 < occurrences r xs
find_stands p [] r is = absurd (not_Some is)
find_stands p (x ∷ xs) r is = elim (p x) as (λ t. cond t (Some x) (find p xs) ≡ Some r → 0 < occurrences r (x ∷ xs)) [
  | true ↦ λ is. let one : one_if (eqb x r) ≡ 1 = ap (λ n. one_if (eqb n r)) (same_Some _ _ is) ∙ one_if_same r in omega (arith, one)
  | false ↦ λ is. let rest = find_stands p xs r is in omega (arith, rest)
] is

-- ---- a resource of the world and of the table

-- its size is its bitmap's allocation
pub size_at : (s : Inside) (w : World) (r : ℕ) (x : ResourceValue) → world_of s ≡ w → get s.resources.resources r ≡ Some x → size_of w.resources r ≡ x.bitmap.allocation
size_at s w r x seen is = ap (λ (v : World). size_of v.resources r) (sym seen) ∙ ap allocation_of (get-map_values nat_cmp resource_in s.resources.resources r ∙ ap (option_map resource_in) is)

-- and it is the one that the table has
pub same_resource : (s : Inside) (w : World) (r : ℕ) (x : ResourceValue) (resource : Resource) → world_of s ≡ w → get s.resources.resources r ≡ Some x → get w.resources r ≡ Some resource → resource_in x ≡ resource
same_resource s w r x resource seen is at =
    same_Some _ _ (sym (ap (option_map resource_in) is) ∙ sym (get-map_values nat_cmp resource_in s.resources.resources r) ∙ ap (λ (v : World). get v.resources r) seen ∙ at)

-- ---- another cached resource goes, or none

pub still_sized : (w : World) (number older : ℕ) → IsIdle w number → 0 < occurrences older w.cached → size_of (cached_to_pool (Some older) w).resources number ≡ size_of w.resources number
still_sized w number older idle some =
    let gone = found (get w.resources older) (idle.cached.there older some) in
    let other : number ≢ older = λ is. let none = ap (λ n. occurrences n w.cached) (sym is) in absurd (omega (arith, none, some, idle.uncached)) in
    ap (λ (v : World). size_of v.resources number) (taken_out w older gone.0 gone.1)
    ∙ ap allocation_of (get-remove_other nat_cmp_total nat_cmp-IsAntisymmetric w.resources older number other)

pub still_limited : (w : World) (number older : ℕ) → IsIdle w number → 0 < occurrences older w.cached → (cached_to_pool (Some older) w).limits ≡ w.limits
still_limited w number older idle some =
    let gone = found (get w.resources older) (idle.cached.there older some) in
    ap (λ (v : World). v.limits) (taken_out w older gone.0 gone.1)
