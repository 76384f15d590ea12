-- The changes of the engine's state of which its steps are made. Each is Glide's, but for what is said
-- here to be this project's own, and for what the definitions of pool and memory cache say of theirs.
use Rattle.std.specs.Prelude.{ℕ, ◌+◌, Bool, true, false, not, ◌==◌, List, [], ◌∷◌, ◌++◌, filter, find, slice_index_or, slice_set, Some, None, if◌then◌else◌}
use Rattle.std.specs.declared.option.Option.{Option}
use Rattle.std.specs.Option.{is_none}
use Rattle.std.specs.FinMap.{get, insert, remove}
use Rattle.std.specs.FinSet as set
use Rattle.cache_key.specs.Key.{Key, same_key}
use Rattle.finite_maps.specs.Maps.{map_values}
use Rattle.load_cause.specs.declared.causes.Cause.{Cause}
use Rattle.load_table.specs.declared.loads.Settle.{Settle}
use Rattle.load_table.specs.Loads.{settled, waiting}
use Rattle.job_table.specs.declared.jobs.Job as table
use Rattle.job_table.specs.Jobs as job_table
use Rattle.active_resources.specs.Actives.{Numbers}
use Rattle.bitmap_pool.specs.Pool.{pool_put, pool_trim}
use Rattle.memory_cache.specs.Cache.{is_too_large, cache_kept, cache_gone}
use Rattle.engine_world.specs.declared.events.Lent.{Lent}
use Rattle.engine_world.specs.World.{LoadState, Job, Jobs, Resource, Resources, World}

-- ---- looking

-- whether a resource is there and has this key
abbrev pub key_is : Key → Option Resource → Bool
key_is key None = false
key_is key (Some resource) = same_key resource.key key

abbrev pub has_key : Resources → Key → ℕ → Bool
has_key resources key r = key_is key (get resources r)

-- the active resource of a key
abbrev pub active_of : Resources → Numbers → Key → Option ℕ
active_of resources active key = find (has_key resources key) (set.items active)

-- the cached resource of a key
abbrev pub cached_of : Resources → List ℕ → Key → Option ℕ
cached_of resources cached key = find (has_key resources key) cached

-- the jobs as their table has them, which knows nothing of bitmaps
abbrev pub table_job : Job → table.Job
table_job job = record { spec = job.spec; seat = job.seat; cancelled = job.cancelled }

abbrev pub table_jobs : Jobs → job_table.Jobs
table_jobs jobs = map_values table_job jobs

-- the job that a load of this key and kind joins: one that is not cancelled, and that may ask the source
-- exactly where the load may
abbrev pub job_for : Jobs → Key → Bool → Option ℕ
job_for jobs key cached = job_table.job_for key cached (table_jobs jobs)

-- the queued job of first priority, and of these the one of least number
abbrev pub next_queued : Jobs → Option ℕ
next_queued jobs = job_table.next_queued (table_jobs jobs)

-- a resource's size: its bitmap's allocation
abbrev pub allocation_of : Option Resource → ℕ
allocation_of None = 0
allocation_of (Some resource) = resource.allocation

abbrev pub size_of : Resources → ℕ → ℕ
size_of resources r = allocation_of (get resources r)

-- numbers without this one
abbrev pub without : ℕ → List ℕ → List ℕ
without r numbers = filter (λ n. not (n == r)) numbers

-- ---- resources that no load holds

-- A resource's bitmap goes to the pool, and the resource goes.
abbrev pub pool_resource : ℕ → Option Resource → World → World
pool_resource r None w = w
pool_resource r (Some resource) w = record w {
  resources = remove w.resources r;
  pool = pool_put w.limits.pool resource.allocation resource.picture.config r w.pool;
}

abbrev pub to_pool : ℕ → World → World
to_pool r w = pool_resource r (get w.resources r) w

-- These go to the pool one after another.
abbrev pub all_to_pool : List ℕ → World → World
all_to_pool [] w = w
all_to_pool (r ∷ rs) w = all_to_pool rs (to_pool r w)

-- What does not fit within a room leaves the memory cache for the pool, the eldest first.
abbrev pub shrink_cache : ℕ → World → World
shrink_cache room w =
    all_to_pool (cache_gone (size_of w.resources) room w.cached)
    (record w { cached = cache_kept (size_of w.resources) room w.cached })

-- A cached resource leaves the memory cache and goes to the pool.
abbrev pub cached_to_pool : Option ℕ → World → World
cached_to_pool None w = w
cached_to_pool (Some r) w = to_pool r (record w { cached = without r w.cached })

-- A resource becomes the most recent of the memory cache, and what then does not fit goes.
abbrev pub cache_first : ℕ → World → World
cache_first r w = shrink_cache w.limits.memory (record w { cached = r ∷ w.cached })

-- A resource goes to the memory cache, in place of another of its key; one that is too large goes to the
-- pool.
abbrev pub to_cache : ℕ → Resource → World → World
to_cache r resource w =
    if is_too_large w.limits.memory resource.allocation then to_pool r w
    else cache_first r (cached_to_pool (cached_of w.resources w.cached resource.key) w)

-- A resource that no load holds any more goes to the memory cache, or where it is not cacheable to the
-- pool.
abbrev pub retire : ℕ → Option Resource → World → World
retire r None w = w
retire r (Some resource) w = if resource.cacheable then to_cache r resource w else to_pool r w

-- It is active no longer. Another active resource of its key stays: this is the project's own.
abbrev pub let_go : ℕ → World → World
let_go r w = retire r (get w.resources r) (record w { active = set.remove w.active r })

-- ---- loads

-- how many loads a seat has made that were not Full
abbrev pub begun_by : World → ℕ → ℕ
begun_by w who = slice_index_or w.begun who 0

-- A seat has a load more, in this state.
abbrev pub add_load : ℕ → LoadState → World → World
add_load who state w = record w {
  loads = insert w.loads (who, begun_by w who) state;
  begun = slice_set w.begun who (begun_by w who + 1);
  counts = record w.counts { loads = w.counts.loads + 1 };
}

-- ---- jobs

-- A job is over, and the loads that wait on it come to this.
abbrev pub end_job : ℕ → Settle Cause → World → World
end_job j to w = record w { loads = map_values (settled j to) w.loads; jobs = remove w.jobs j }

-- A job on which no load waits any more: a queued one goes, a running one is cancelled. That a queued one
-- goes at once is this project's own.
abbrev pub cancel_job : ℕ → Option Job → World → World
cancel_job j None w = w
cancel_job j (Some job) w =
    if is_none job.seat then record w { jobs = remove w.jobs j }
    else record w { jobs = insert w.jobs j (record job { cancelled = true }) }

abbrev pub leave_job : ℕ → World → World
leave_job j w = if waiting j w.loads == 0 then cancel_job j (get w.jobs j) w else w

-- A bitmap is lent to a job.
abbrev pub lend : ℕ → Option Job → Lent → World → World
lend j None lent w = w
lend j (Some job) lent w =
    record w { jobs = insert w.jobs j (record job { takes = job.takes + 1; out = job.out ++ lent ∷ [] }) }

-- what a job has without the bitmap of this number
abbrev pub without_lent : ℕ → List Lent → List Lent
without_lent b out = filter (λ lent. not (lent.number == b)) out

-- A job gives a bitmap back.
abbrev pub take_back : ℕ → Option Job → ℕ → World → World
take_back j None b w = w
take_back j (Some job) b w =
    record w { jobs = insert w.jobs j (record job { out = without_lent b job.out }) }

-- ---- trimming

-- Memory cache and pool are cut to these sizes, the memory cache first: this order is the project's own.
abbrev pub trim_to : (memory pool : ℕ) → World → World
trim_to memory pool w = let cut = shrink_cache memory w in record cut { pool = pool_trim pool cut.pool }
