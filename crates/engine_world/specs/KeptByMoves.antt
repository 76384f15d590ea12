-- What stays true of a world whose jobs, resources, active and cached resources, and pool change, stays true through the moves that change nothing else.
use Rattle.std.proofs.Common.{ℕ, ◌/◌, true, false, cond, eqb, leb, List, [], ◌∷◌, Some, None, Option}
use Rattle.std.specs.Prelude.{◌||◌}
use Rattle.std.specs.Option.{is_none}
use Rattle.std.specs.FinMap.{get, insert, remove}
use Rattle.load_table.specs.declared.loads.LoadState.TheVariants.{Waiting, Ready, Failed}
use Rattle.load_table.specs.Loads.{waiting, holders}
use Rattle.active_resources.specs.Actives.{Numbers}
use Rattle.bitmap_pool.specs.Pool.{Group}
use Rattle.memory_cache.specs.Cache.{is_too_large, cache_kept, cache_gone}
use Rattle.engine_world.specs.declared.events.NotedReply.TheVariants as replies
use Rattle.engine_world.specs.declared.events.Lent.{Lent}
use Rattle.engine_world.specs.World.{LoadState, Job, Jobs, Resource, World}
use Rattle.engine_world.specs.Moves.{cached_of, next_queued, size_of, pool_resource, to_pool, all_to_pool, shrink_cache, cached_to_pool, cache_first, to_cache, retire, let_go, cancel_job, lend, take_back, trim_to}
use Rattle.engine_world.specs.Steps.{released, start_job, start_next, next_job, trim}

-- It stays true of a world of which one of these parts changes,
pub record OutlastsEvictions (P : World → Type 0) : Type 0 where
  pub resources : (v : World) (r : ℕ) → P v → P (record v { resources = remove v.resources r })
  pub active : (v : World) (active : Numbers) → P v → P (record v { active = active })
  pub cached : (v : World) (cached : List ℕ) → P v → P (record v { cached = cached })
  pub pool : (v : World) (pool : List (Group ℕ)) → P v → P (record v { pool = pool })

-- or one of these.
pub record Outlasts (P : World → Type 0) : Type 0 where
  pub resources : (v : World) (r : ℕ) → P v → P (record v { resources = remove v.resources r })
  pub active : (v : World) (active : Numbers) → P v → P (record v { active = active })
  pub cached : (v : World) (cached : List ℕ) → P v → P (record v { cached = cached })
  pub pool : (v : World) (pool : List (Group ℕ)) → P v → P (record v { pool = pool })
  pub jobs : (v : World) (jobs : Jobs) → P v → P (record v { jobs = jobs })

module _ (P : World → Type 0) (o : OutlastsEvictions P) where
  pool_resource-keeps : (r : ℕ) (found : Option Resource) (v : World) → P v → P (pool_resource r found v)
  pool_resource-keeps r None v h = h
  pool_resource-keeps r (Some a) v h = o.pool _ _ (o.resources v r h)

  to_pool-keeps : (r : ℕ) (v : World) → P v → P (to_pool r v)
  to_pool-keeps r v h = pool_resource-keeps r (get v.resources r) v h

  all_to_pool-keeps : (rs : List ℕ) (v : World) → P v → P (all_to_pool rs v)
  all_to_pool-keeps [] v h = h
  all_to_pool-keeps (r ∷ rs) v h = all_to_pool-keeps rs (to_pool r v) (to_pool-keeps r v h)

  shrink_cache-keeps : (room : ℕ) (v : World) → P v → P (shrink_cache room v)
  shrink_cache-keeps room v h =
      let kept = cache_kept (size_of v.resources) room v.cached in
      all_to_pool-keeps (cache_gone (size_of v.resources) room v.cached) (record v { cached = kept }) (o.cached v kept h)

  cached_to_pool-keeps : (found : Option ℕ) (v : World) → P v → P (cached_to_pool found v)
  cached_to_pool-keeps None v h = h
  cached_to_pool-keeps (Some r) v h = to_pool-keeps r _ (o.cached v _ h)

  cache_first-keeps : (r : ℕ) (v : World) → P v → P (cache_first r v)
  cache_first-keeps r v h = shrink_cache-keeps v.limits.memory (record v { cached = r ∷ v.cached }) (o.cached v _ h)

  to_cache-keeps : (r : ℕ) (a : Resource) (v : World) → P v → P (to_cache r a v)
  to_cache-keeps r a v h =
      let rest : World = cached_to_pool (cached_of v.resources v.cached a.key) v in
      elim (is_too_large v.limits.memory a.allocation) as (λ t. P (cond t (to_pool r v) (cache_first r (cached_to_pool (cached_of v.resources v.cached a.key) v)))) [
        | true ↦ to_pool-keeps r v h
        | false ↦ cache_first-keeps r rest (cached_to_pool-keeps (cached_of v.resources v.cached a.key) v h)
      ]

  retire-keeps : (r : ℕ) (found : Option Resource) (v : World) → P v → P (retire r found v)
  retire-keeps r None v h = h
  retire-keeps r (Some a) v h = elim a.cacheable as (λ t. P (cond t (to_cache r a v) (to_pool r v))) [ true ↦ to_cache-keeps r a v h | false ↦ to_pool-keeps r v h ]

  pub let_go-evicts : (r : ℕ) (v : World) → P v → P (let_go r v)
  let_go-evicts r v h = retire-keeps r (get v.resources r) _ (o.active v _ h)

  trim_to-keeps : (memory pool : ℕ) (v : World) → P v → P (trim_to memory pool v)
  trim_to-keeps memory pool v h = o.pool (shrink_cache memory v) _ (shrink_cache-keeps memory v h)

  pub trim-evicts : (level : ℕ) (v : World) → P v → P (trim level v)
  trim-evicts level v h = elim (leb 40 level) as (λ t. P (cond t (trim_to 0 0 v) (cond (leb 20 level || eqb level 15) (trim_to (v.limits.memory / 2) (v.limits.pool / 2) v) v))) [
    | true ↦ trim_to-keeps 0 0 v h
    | false ↦ elim (leb 20 level || eqb level 15) as (λ t. P (cond t (trim_to (v.limits.memory / 2) (v.limits.pool / 2) v) v)) [ true ↦ trim_to-keeps (v.limits.memory / 2) (v.limits.pool / 2) v h | false ↦ h ]
  ]

module _ (P : World → Type 0) (o : Outlasts P) where
  evictions : OutlastsEvictions P
  evictions = record { resources = o.resources; active = o.active; cached = o.cached; pool = o.pool }

  cancel_job-keeps : (j : ℕ) (found : Option Job) (v : World) → P v → P (cancel_job j found v)
  cancel_job-keeps j None v h = h
  cancel_job-keeps j (Some job) v h = elim (is_none job.seat) as (λ t. P (cond t (record v { jobs = remove v.jobs j }) (record v { jobs = insert v.jobs j (record job { cancelled = true }) }))) [
    | true ↦ o.jobs v _ h
    | false ↦ o.jobs v _ h
  ]

  pub released-keeps : (state : LoadState) (v : World) → P v → P (released state v)
  released-keeps (Waiting j) v h = elim (eqb (waiting j v.loads) 0) as (λ t. P (cond t (cancel_job j (get v.jobs j) v) v)) [ true ↦ cancel_job-keeps j (get v.jobs j) v h | false ↦ h ]
  released-keeps (Ready r) v h = elim (eqb (holders r v.loads) 0) as (λ t. P (cond t (let_go r v) v)) [ true ↦ let_go-evicts P evictions r v h | false ↦ h ]
  released-keeps (Failed cause) v h = h

  pub lend-keeps : (j : ℕ) (found : Option Job) (lent : Lent) (v : World) → P v → P (lend j found lent v)
  lend-keeps j None lent v h = h
  lend-keeps j (Some job) lent v h = o.jobs v _ h

  pub take_back-keeps : (j : ℕ) (found : Option Job) (b : ℕ) (v : World) → P v → P (take_back j found b v)
  take_back-keeps j None b v h = h
  take_back-keeps j (Some job) b v h = o.jobs v _ h

  start_job-keeps : (who j : ℕ) (found : Option Job) (v : World) → P v → P (start_job v who j found).1
  start_job-keeps who j None v h = h
  start_job-keeps who j (Some job) v h = o.jobs v _ h

  start_next-keeps : (who : ℕ) (found : Option ℕ) (v : World) → P v → P (start_next v who found).1
  start_next-keeps who None v h = h
  start_next-keeps who (Some j) v h = start_job-keeps who j (get v.jobs j) v h

  pub next_job-keeps : (who : ℕ) (v : World) → P v → P (next_job v who).1
  next_job-keeps who v h = elim v.closed as (λ t. P (cond t (replies.Closed, v) (start_next v who (next_queued v.jobs))).1) [ true ↦ h | false ↦ start_next-keeps who (next_queued v.jobs) v h ]

  pub trim-keeps : (level : ℕ) (v : World) → P v → P (trim level v)
  trim-keeps level v h = trim-evicts P evictions level v h
