-- Resources on their way: no load holds them, and they are not cached. They go to the pool or to the memory cache.
use Rattle.std.proofs.Common.{◌≡◌, ◌≢◌, ℕ, ◌+◌, ◌<◌, ◌≤◌, true, false, cond, eqb, ltb, leb, List, [], ◌∷◌, ◌++◌, length, take, drop, Some, None, refl, ap, sym, subst, ◌∙◌, inl, inr, arith, true≢false}
use Rattle.std.specs.Prelude.{min, ◌⊎◌, ◌&&◌, sum_by, reverse}
use Rattle.std.specs.Option.{is_some}
use Rattle.std.specs.Cmp.{nat_cmp_total}
use Rattle.std.specs.FinMap.{get, remove, nat_cmp-IsAntisymmetric}
use Rattle.std.proofs.lemmas.List.{length-take, take-append-drop}
use Rattle.std.proofs.lemmas.Bool.{ltb-false, leb-false, and_from}
use Rattle.cache_key.specs.Key.{Key}
use Rattle.load_cause.specs.declared.causes.Cause.{Cause}
use Rattle.fitting.specs.Fitting.{fitting}
use Rattle.fitting.specs.Prefixes.{fitting-take, fitting-le-length, all_fit}
use Rattle.bitmap_pool.specs.Pool.{pooled, pool_put}
use Rattle.load_table.specs.declared.loads.LoadState.TheVariants.{Ready}
use Rattle.load_table.specs.Loads.{ready_on, holders}
use Rattle.load_table.specs.LoadOrder.{load_total, load_same}
use Rattle.engine_world.specs.World.{Job, Resource, Resources, World}
use Rattle.engine_world.specs.Places.{one_if, occurrences, is_held, whereabouts, times_kept}
use Rattle.engine_world.specs.Moves.{has_key, cached_of, allocation_of, size_of, without, pool_resource, to_pool, all_to_pool, shrink_cache, cached_to_pool, cache_first, to_cache, retire}
use Rattle.engine_world.specs.Knowledge.{Knowledge}
use Rattle.engine_world.specs.Sound.{AllAwaited, JobsAre, IsCacheable, KeysApart, ActiveAre, CachedAre, PoolIs, AllServe, IsResource, facts, KnowledgeAgrees, Sound}
use Rattle.engine_world.specs.OccurrenceLaws.{one_if_same, one_if_other, occurrences-append, without_same, without_other, find-passes, find-none}
use Rattle.engine_world.specs.KeyedLaws.{has_key-found, has_key-there}
use Rattle.engine_world.specs.NumberLaws.{number_cases, gone_other, gone_found}
use Rattle.engine_world.proofs.Parts.{whereabouts_of}
use Rattle.finite_maps.specs.MapLaws.{same_Some, le-total, get-remove_same}
use Rattle.engine_world.proofs.Occurs.{occurrences-reverse}
use Rattle.engine_world.proofs.PoolLaws.{pool_put_is, pool_put_number}
use Rattle.engine_world.proofs.Jobs.{job_same, agree_stays}
use Rattle.engine_world.proofs.EndEvents.{held_same, sizes_same}
use Rattle.engine_world.proofs.LoadEvent.{cached_without}

-- ---- what fits, of items of any size

fit_within : (size : ℕ → ℕ) (room slots : ℕ) (xs : List ℕ) → (sum_by size (take (fitting size room slots xs) xs) ≤ room) × (length (take (fitting size room slots xs) xs) ≤ slots)
fit_within size room slots xs =
    let n = fitting size room slots xs in
    let same : fitting size room slots (take n xs) ≡ min n n = fitting-take size room slots n xs in
    let long : length (take n xs) ≡ min n (length xs) = length-take n xs in
    all_fit size room slots (take n xs) (omega (arith, same, long, fitting-le-length size room slots xs))

-- Sound, but that these resources are on their way, and that the memory cache may be over.
pub record InTransit (w : World) (known : ℕ → Knowledge) (idle : List ℕ) : Type 0 where
  pub once : (b : ℕ) → times_kept (whereabouts w) b + occurrences b idle ≤ 1
  pub below : (b : ℕ) → 0 < times_kept (whereabouts w) b + occurrences b idle → b < w.next
  pub kept : (r : ℕ) (resource : Resource) → get w.resources r ≡ Some resource → 0 < one_if (is_held w.loads w.resources r) + occurrences r w.cached + occurrences r idle
  pub there : (r : ℕ) → 0 < occurrences r idle → (resource : Resource) × (get w.resources r ≡ Some resource)
  pub awaited : AllAwaited w.loads w.jobs
  pub jobs : JobsAre w.counts.started w.jobs
  pub active : ActiveAre w.loads w.resources w.active
  pub cached_each : (r : ℕ) → 0 < occurrences r w.cached → IsCacheable w.resources r × (size_of w.resources r < w.limits.memory)
  pub cached_apart : KeysApart w.resources (λ r. 0 < occurrences r w.cached)
  pub pool : PoolIs w.limits.pool w.pool
  pub lent : (j : ℕ) (job : Job) → get w.jobs j ≡ Some job → AllServe job.out
  pub resources : (r : ℕ) (resource : Resource) → get w.resources r ≡ Some resource → IsResource w.content resource
  pub seats : length w.begun ≡ length w.limits.quotas
  pub known_is : (who : ℕ) → KnowledgeAgrees (facts w) who (known who)

-- with nothing on its way, and the memory cache within its limits, that is sound
pub at_rest : (w : World) (known : ℕ → Knowledge) → InTransit w known [] → sum_by (size_of w.resources) w.cached ≤ w.limits.memory → length w.cached ≤ 1024 → Sound w known
at_rest w known l size few = record {
  places = record { once = λ b. omega (arith, l.once b); below = λ b some. l.below b (omega (arith, some)); kept = λ r resource at. omega (arith, l.kept r resource at) };
  awaited = l.awaited;
  jobs = l.jobs;
  active = l.active;
  cached = record { each = l.cached_each; apart = l.cached_apart; size = size; few = few };
  pool = l.pool;
  lent = l.lent;
  resources = l.resources;
  seats = l.seats;
  known_is = l.known_is;
}

pub set_off : (w : World) (known : ℕ → Knowledge) → Sound w known → InTransit w known []
set_off w known s = record {
  once = λ b. omega (arith, s.places.once b);
  below = λ b some. s.places.below b (omega (arith, some));
  kept = λ r resource at. omega (arith, s.places.kept r resource at);
  there = λ r some. absurd (omega (arith, some));
  awaited = s.awaited;
  jobs = s.jobs;
  active = s.active;
  cached_each = s.cached.each;
  cached_apart = s.cached.apart;
  pool = s.pool;
  lent = s.lent;
  resources = s.resources;
  seats = s.seats;
  known_is = s.known_is;
}

-- What has gone to the pool left the memory cache as it was.
pub record Pooled (w v : World) (known : ℕ → Knowledge) (idle : List ℕ) : Type 0 where
  pub transit : InTransit v known idle
  pub cached : v.cached ≡ w.cached
  pub limits : v.limits ≡ w.limits
  pub sizes : (q : ℕ) → 0 < occurrences q w.cached → size_of v.resources q ≡ size_of w.resources q
  pub resources : (q : ℕ) (resource : Resource) → get v.resources q ≡ Some resource → get w.resources q ≡ Some resource
  pub others : (q : ℕ) → 0 < occurrences q idle → get v.resources q ≡ get w.resources q

pooled_one : (w : World) (known : ℕ → Knowledge) (r : ℕ) (idle : List ℕ) (resource : Resource) → get w.resources r ≡ Some resource → InTransit w known (r ∷ idle) → Pooled w (pool_resource r (Some resource) w) known idle
pooled_one w known r idle resource at l =
    let resources : Resources = remove w.resources r in
    let pool = pool_put w.limits.pool resource.allocation resource.picture.config r w.pool in
    let here : one_if (eqb r r) ≡ 1 = one_if_same r in
    let alone : times_kept (whereabouts w) r + (one_if (eqb r r) + occurrences r idle) ≤ 1 = l.once r in
    let not_cached : occurrences r w.cached ≡ 0 = omega (arith, alone, here) in
    let not_idle : occurrences r idle ≡ 0 = omega (arith, alone, here) in
    let not_held : one_if (is_held w.loads w.resources r) ≡ 0 = omega (arith, alone, here) in
    let no_holder : holders r w.loads ≡ 0 = elim (ltb 0 (holders r w.loads)) as (λ t. ltb 0 (holders r w.loads) ≡ t → holders r w.loads ≡ 0) [
      | true ↦ λ e. absurd (omega (arith, not_held, ap one_if (and_from _ _ (ap is_some at) e)))
      | false ↦ λ e. let small : holders r w.loads ≤ 0 = ltb-false _ _ e in omega (arith, small)
    ] refl in
    let other : (q : ℕ) → q ≢ r → get resources q ≡ get w.resources q = λ q ne. gone_other w.resources r q ne in
    let gone : get resources r ≡ None = get-remove_same nat_cmp_total nat_cmp-IsAntisymmetric w.resources r in
    let held_other : (q : ℕ) → q ≢ r → is_held w.loads resources q ≡ is_held w.loads w.resources q = λ q ne. held_same w.loads w.loads w.resources resources q refl (other q ne) in
    let less : (b : ℕ) → times_kept (whereabouts_of w.loads w.jobs resources w.cached pool) b + occurrences b idle ≤ times_kept (whereabouts w) b + (one_if (eqb r b) + occurrences b idle) = λ b.
    let put : occurrences b (pooled pool) ≤ occurrences b (pooled w.pool) + one_if (eqb r b) = pool_put_number w.limits.pool resource.allocation resource.picture.config r b w.pool in
    elim (number_cases b r) [
      | inl same ↦ let free : is_held w.loads resources b ≡ false = ap (λ o. is_some o && ltb 0 (holders b w.loads)) (ap (get resources) same ∙ gone) in omega (arith, put, ap one_if free)
      | inr ne ↦ omega (arith, put, ap one_if (held_other b ne))
    ] in
    let holder_other : (q : ℕ) → 0 < holders q w.loads → q ≢ r = λ q some same. absurd (omega (arith, some, ap (λ c. holders c w.loads) same, no_holder)) in
    let cached_other : (q : ℕ) → 0 < occurrences q w.cached → q ≢ r = λ q some same. absurd (omega (arith, some, ap (λ c. occurrences c w.cached) same, not_cached)) in
    record {
      transit = record {
        once = λ b. omega (arith, less b, l.once b);
        below = λ b some. l.below b (omega (arith, less b, some));
        kept = λ q a is. let found = gone_found w.resources r q a is in
            let old : 0 < one_if (is_held w.loads w.resources q) + occurrences q w.cached + (one_if (eqb r q) + occurrences q idle) = l.kept q a found.1 in
            omega (arith, old, ap one_if (held_other q found.0), one_if_other r q (λ e. found.0 (sym e)));
        there = λ q some.
            let ne : q ≢ r = λ same. absurd (omega (arith, some, ap (λ c. occurrences c idle) same, not_idle)) in
            let old = l.there q (omega (arith, some)) in
            (old.0, other q ne ∙ old.1);
        awaited = l.awaited;
        jobs = l.jobs;
        active = record {
          each = λ q is. let old = l.active.each q is in ((old.0.0, other q (holder_other q old.1) ∙ old.0.1, old.0.2), old.1);
          apart = λ p q a b p_in q_in pt qt. l.active.apart p q a b p_in q_in (gone_found w.resources r p a pt).1 (gone_found w.resources r q b qt).1;
        };
        cached_each = λ q is. let old = l.cached_each q is in ((old.0.0, other q (cached_other q is) ∙ old.0.1, old.0.2), omega (arith, old.1, ap allocation_of (other q (cached_other q is))));
        cached_apart = λ p q a b p_in q_in pt qt. l.cached_apart p q a b p_in q_in (gone_found w.resources r p a pt).1 (gone_found w.resources r q b qt).1;
        pool = pool_put_is w.limits.pool resource.allocation resource.picture.config r w.pool l.pool;
        lent = l.lent;
        resources = λ q a is. l.resources q a (gone_found w.resources r q a is).1;
        seats = l.seats;
        known_is = λ k. let knows = l.known_is k in record {
          count = knows.count;
          below = knows.below;
          each = λ n. agree_stays w.jobs w.jobs w.resources resources (get (known k).loads n) (get w.loads (k, n)) (λ s i e is. job_same w.jobs i)
              (λ s q e is a found.
              let one : one_if (ready_on {C = Cause} q (Ready q)) ≤ holders q w.loads = le-total load_total load_same (λ ld st. one_if (ready_on q st)) w.loads (k, n) (Ready q) (e ∙ ap Some is) in
              let ne : q ≢ r = holder_other q (omega (arith, one, one_if_same q)) in
              (a, other q ne ∙ found, refl))
              (knows.each n);
          live = knows.live;
          runs = knows.runs;
          knows = knows.knows;
        };
      };
      cached = refl;
      limits = refl;
      sizes = λ q some. ap allocation_of (other q (cached_other q some));
      resources = λ q a is. (gone_found w.resources r q a is).1;
      others = λ q some. other q (λ same. absurd (omega (arith, some, ap (λ c. occurrences c idle) same, not_idle)));
    }

-- one goes to the pool
pub to_pool-in_transit : (w : World) (known : ℕ → Knowledge) (r : ℕ) (idle : List ℕ) → InTransit w known (r ∷ idle) → Pooled w (to_pool r w) known idle
to_pool-in_transit w known r idle l =
    let found = l.there r (omega (arith, one_if_same r)) in
    subst (λ o. Pooled w (pool_resource r o w) known idle) (sym found.1) (pooled_one w known r idle found.0 found.1 l)

-- all go
pub all_to_pool-in_transit : (w : World) (known : ℕ → Knowledge) (idle : List ℕ) → InTransit w known idle → Pooled w (all_to_pool idle w) known []
all_to_pool-in_transit w known [] l = record { transit = l; cached = refl; limits = refl; sizes = λ q some. refl; resources = λ q a is. is; others = λ q some. refl }
all_to_pool-in_transit w known (r ∷ idle) l =
    let first = to_pool-in_transit w known r idle l in
    let rest = all_to_pool-in_transit (to_pool r w) known idle first.transit in
    record {
      transit = rest.transit;
      cached = rest.cached ∙ first.cached;
      limits = rest.limits ∙ first.limits;
      sizes = λ q some. rest.sizes q (subst (λ c. 0 < occurrences q c) (sym first.cached) some) ∙ first.sizes q some;
      resources = λ q a is. first.resources q a (rest.resources q a is);
      others = λ q some. absurd (omega (arith, some));
    }

-- ---- the memory cache

-- The memory cache has been cut to a room.
pub record Shrunk (w v : World) (known : ℕ → Knowledge) (room : ℕ) : Type 0 where
  pub transit : InTransit v known []
  pub limits : v.limits ≡ w.limits
  pub size : sum_by (size_of v.resources) v.cached ≤ room
  pub few : length v.cached ≤ 1024

pub shrink_cache-in_transit : (w : World) (known : ℕ → Knowledge) (room : ℕ) → InTransit w known [] → Shrunk w (shrink_cache room w) known room
shrink_cache-in_transit w known room l =
    let n = fitting (size_of w.resources) room 1024 w.cached in
    let kept : List ℕ = take n w.cached in
    let rest : List ℕ = drop n w.cached in
    let gone : List ℕ = reverse rest in
    let parts : (b : ℕ) → occurrences b w.cached ≡ occurrences b kept + occurrences b gone = λ b.
    let all : occurrences b (kept ++ rest) ≡ occurrences b w.cached = ap (occurrences b) (take-append-drop n w.cached) in
    let sum : occurrences b (kept ++ rest) ≡ occurrences b kept + occurrences b rest = occurrences-append b kept rest in
    let turned : occurrences b gone ≡ occurrences b rest = occurrences-reverse b rest in
    omega (arith, all, sum, turned) in
    let start : InTransit (record w { cached = kept }) known gone = record {
      once = λ b. omega (arith, l.once b, parts b);
      below = λ b some. l.below b (omega (arith, some, parts b));
      kept = λ r resource at. let old : 0 < one_if (is_held w.loads w.resources r) + occurrences r w.cached + 0 = l.kept r resource at in omega (arith, old, parts r);
      there = λ r some. let old = l.cached_each r (omega (arith, some, parts r)) in (old.0.0, old.0.1);
      awaited = l.awaited;
      jobs = l.jobs;
      active = l.active;
      cached_each = λ r some. l.cached_each r (omega (arith, some, parts r));
      cached_apart = λ p q a b p_in q_in. l.cached_apart p q a b (omega (arith, p_in, parts p)) (omega (arith, q_in, parts q));
      pool = l.pool;
      lent = l.lent;
      resources = l.resources;
      seats = l.seats;
      known_is = l.known_is;
    } in
    let done = all_to_pool-in_transit (record w { cached = kept }) known gone start in
    let v = shrink_cache room w in
    let sizes : sum_by (size_of v.resources) kept ≡ sum_by (size_of w.resources) kept = sizes_same (size_of v.resources) (size_of w.resources) kept done.sizes in
    let same : sum_by (size_of v.resources) v.cached ≡ sum_by (size_of v.resources) kept = ap (sum_by (size_of v.resources)) done.cached in
    let within : (sum_by (size_of w.resources) kept ≤ room) × (length kept ≤ 1024) = fit_within (size_of w.resources) room 1024 w.cached in
    let long : length v.cached ≡ length kept = ap length done.cached in
    record { transit = done.transit; limits = done.limits; size = omega (arith, sizes, same, within); few = omega (arith, long, within) }

-- what is shrunk within the limit is sound
pub shrunk-sound : (w v : World) (known : ℕ → Knowledge) (room : ℕ) → room ≤ w.limits.memory → Shrunk w v known room → Sound v known
shrunk-sound w v known room within s =
    let same : v.limits.memory ≡ w.limits.memory = ap (λ l. l.memory) s.limits in
    at_rest v known s.transit (omega (arith, s.size, same, within)) s.few

-- an idle resource becomes the most recent
pub cache_first-sound : (w : World) (known : ℕ → Knowledge) (r : ℕ) (resource : Resource) → get w.resources r ≡ Some resource → resource.cacheable ≡ true → resource.allocation < w.limits.memory
    → ((q : ℕ) (a : Resource) → 0 < occurrences q w.cached → get w.resources q ≡ Some a → a.key ≢ resource.key) → InTransit w known (r ∷ []) → Sound (cache_first r w) known
cache_first-sound w known r resource at cacheable small apart l =
    let here : one_if (eqb r r) ≡ 1 = one_if_same r in
    let which : (q : ℕ) → 0 < one_if (eqb r q) + occurrences q w.cached → (q ≡ r) ⊎ (0 < occurrences q w.cached) = λ q some. elim (number_cases q r) [
      | inl same ↦ inl same
      | inr ne ↦ inr (omega (arith, some, one_if_other r q (λ e. ne (sym e))))
    ] in
    let start : InTransit (record w { cached = r ∷ w.cached }) known [] = record {
      once = λ b. omega (arith, l.once b);
      below = λ b some. l.below b (omega (arith, some));
      kept = λ q a is. omega (arith, l.kept q a is);
      there = λ q some. absurd (omega (arith, some));
      awaited = l.awaited;
      jobs = l.jobs;
      active = l.active;
      cached_each = λ q some. elim (which q some) [
        | inl same ↦ ((resource, ap (get w.resources) same ∙ at, cacheable), omega (arith, small, ap allocation_of (ap (get w.resources) same ∙ at)))
        | inr some ↦ l.cached_each q some
      ];
      cached_apart = λ p q a b p_in q_in pt qt keys. elim (which p p_in) [
        | inl p_is ↦ elim (which q q_in) [
          | inl q_is ↦ p_is ∙ sym q_is
          | inr q_is ↦ absurd (apart q b q_is qt (sym keys ∙ ap (λ (c : Resource). c.key) (same_Some _ _ (sym pt ∙ ap (get w.resources) p_is ∙ at))))
        ]
        | inr p_is ↦ elim (which q q_in) [
          | inl q_is ↦ absurd (apart p a p_is pt (keys ∙ ap (λ (c : Resource). c.key) (same_Some _ _ (sym qt ∙ ap (get w.resources) q_is ∙ at))))
          | inr q_is ↦ l.cached_apart p q a b p_is q_is pt qt keys
        ]
      ];
      pool = l.pool;
      lent = l.lent;
      resources = l.resources;
      seats = l.seats;
      known_is = l.known_is;
    } in
    shrunk-sound (record w { cached = r ∷ w.cached }) (cache_first r w) known w.limits.memory (omega arith) (shrink_cache-in_transit (record w { cached = r ∷ w.cached }) known w.limits.memory start)

-- What is there once the cached resource of a key has gone: the idle one, and none cached of that key.
record Replaced (w v : World) (known : ℕ → Knowledge) (r : ℕ) (key : Key) : Type 0 where
  transit : InTransit v known (r ∷ [])
  limits : v.limits ≡ w.limits
  same : get v.resources r ≡ get w.resources r
  none : (q : ℕ) (a : Resource) → 0 < occurrences q v.cached → get v.resources q ≡ Some a → a.key ≢ key
  size : sum_by (size_of v.resources) v.cached ≤ w.limits.memory
  few : length v.cached ≤ 1024

replaced : (w : World) (known : ℕ → Knowledge) (r : ℕ) (key : Key) → CachedAre w.limits.memory w.resources w.cached → InTransit w known (r ∷ []) → Replaced w (cached_to_pool (cached_of w.resources w.cached key) w) known r key
replaced w known r key are l = elim (cached_of w.resources w.cached key) as (λ o. cached_of w.resources w.cached key ≡ o → Replaced w (cached_to_pool o w) known r key) [
  | None ↦ λ e. record {
    transit = l;
    limits = refl;
    same = refl;
    none = λ q a some at same. true≢false (sym (has_key-there w.resources key q a at same) ∙ find-none (has_key w.resources key) w.cached q e some);
    size = are.size;
    few = are.few;
  }
  | Some old ↦ λ e.
      let found = find-passes (has_key w.resources key) w.cached old e in
      let there = has_key-found w.resources key old found.0 in
      let left : List ℕ = without old w.cached in
      let one : (b : ℕ) → occurrences b w.cached ≤ 1 = λ b. omega (arith, l.once b) in
      let parts : (b : ℕ) → occurrences b w.cached ≡ occurrences b left + one_if (eqb old b) = λ b. elim (number_cases b old) [
        | inl same ↦
            let none : occurrences b left ≡ 0 = ap (λ c. occurrences c left) same ∙ without_same old w.cached in
            let is : one_if (eqb old b) ≡ 1 = ap (λ n. one_if (eqb old n)) same ∙ one_if_same old in
            let some : 0 < occurrences b w.cached = subst (λ c. 0 < occurrences c w.cached) (sym same) found.1 in
            omega (arith, none, is, some, one b)
        | inr ne ↦ omega (arith, without_other b old w.cached ne, one_if_other old b (λ h. ne (sym h)))
      ] in
      let cut = cached_without w.limits.memory w.resources old w.cached are in
      let start : InTransit (record w { cached = left }) known (old ∷ r ∷ []) = record {
        once = λ b. omega (arith, l.once b, parts b);
        below = λ b some. l.below b (omega (arith, some, parts b));
        kept = λ q a is. omega (arith, l.kept q a is, parts q);
        there = λ q some. elim (number_cases q old) [
          | inl same ↦ (there.0, ap (get w.resources) same ∙ there.1)
          | inr ne ↦ l.there q (omega (arith, some, one_if_other old q (λ h. ne (sym h))))
        ];
        awaited = l.awaited;
        jobs = l.jobs;
        active = l.active;
        cached_each = λ q some. l.cached_each q (omega (arith, some, parts q));
        cached_apart = λ p q a b p_in q_in. l.cached_apart p q a b (omega (arith, p_in, parts p)) (omega (arith, q_in, parts q));
        pool = l.pool;
        lent = l.lent;
        resources = l.resources;
        seats = l.seats;
        known_is = l.known_is;
      } in
      let done = to_pool-in_transit (record w { cached = left }) known old (r ∷ []) start in
      let v = to_pool old (record w { cached = left }) in
      let sizes : sum_by (size_of v.resources) left ≡ sum_by (size_of w.resources) left = sizes_same (size_of v.resources) (size_of w.resources) left done.sizes in
      let same_size : sum_by (size_of v.resources) v.cached ≡ sum_by (size_of v.resources) left = ap (sum_by (size_of v.resources)) done.cached in
      record {
        transit = done.transit;
        limits = done.limits;
        same = done.others r (omega (arith, one_if_same r));
        none = λ q a some at same.
            let in_left : 0 < occurrences q left = subst (λ c. 0 < occurrences q c) done.cached some in
            let was : get w.resources q ≡ Some a = done.resources q a at in
            let is : old ≡ q = are.apart old q there.0 a found.1 (omega (arith, in_left, parts q)) there.1 was (there.2 ∙ sym same) in
            absurd (omega (arith, in_left, ap (λ c. occurrences c left) (sym is), without_same old w.cached));
        size = omega (arith, sizes, same_size, cut.size);
        few = omega (arith, ap length done.cached, cut.few);
      }
] refl

-- an idle resource goes to the memory cache or to the pool
pub retire-sound : (w : World) (known : ℕ → Knowledge) (r : ℕ) (resource : Resource) → get w.resources r ≡ Some resource → CachedAre w.limits.memory w.resources w.cached → InTransit w known (r ∷ [])
    → Sound (retire r (Some resource) w) known
retire-sound w known r resource at are l =
    let pooled_then : Sound (to_pool r w) known =
    (let done = to_pool-in_transit w known r [] l in
    let v = to_pool r w in
    let sizes : sum_by (size_of v.resources) w.cached ≡ sum_by (size_of w.resources) w.cached = sizes_same (size_of v.resources) (size_of w.resources) w.cached done.sizes in
    let same : sum_by (size_of v.resources) v.cached ≡ sum_by (size_of v.resources) w.cached = ap (sum_by (size_of v.resources)) done.cached in
    let limit : v.limits.memory ≡ w.limits.memory = ap (λ m. m.memory) done.limits in
    at_rest v known done.transit (omega (arith, sizes, same, limit, are.size)) (omega (arith, ap length done.cached, are.few))) in
    elim resource.cacheable as (λ t. resource.cacheable ≡ t → Sound (cond t (to_cache r resource w) (to_pool r w)) known) [
      | false ↦ λ e. pooled_then
      | true ↦ λ e. elim (leb w.limits.memory resource.allocation) as (λ t. leb w.limits.memory resource.allocation ≡ t → Sound (cond t (to_pool r w) (cache_first r (cached_to_pool (cached_of w.resources w.cached resource.key) w))) known) [
        | true ↦ λ big. pooled_then
        | false ↦ λ fits.
            let v = cached_to_pool (cached_of w.resources w.cached resource.key) w in
            let done : Replaced w v known r resource.key = replaced w known r resource.key are l in
            let small : resource.allocation < w.limits.memory = leb-false _ _ fits in
            let limit : v.limits.memory ≡ w.limits.memory = ap (λ m. m.memory) done.limits in
            cache_first-sound v known r resource (done.same ∙ at) e (omega (arith, small, limit)) done.none done.transit
      ] refl
    ] refl
