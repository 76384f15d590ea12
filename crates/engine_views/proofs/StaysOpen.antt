-- No step but a Close closes an engine.
use Rattle.std.proofs.Common.{◌≡◌, ℕ, ◌/◌, Bool, true, false, cond, eqb, leb, List, [], ◌∷◌, ◌||◌, Some, None, Option, refl, ap, ◌∙◌, inl, inr}
use Rattle.std.specs.Prelude.{not, ⊤}
use Rattle.std.specs.Option.{is_none, option_map}
use Rattle.std.specs.FinMap.{get, insert, remove}
use Rattle.std.specs.FinSet as set
use Rattle.bitmap_kind.specs.Picture.{BitmapValue}
use Rattle.cache_key.specs.declared.load_spec.LoadSpec.{LoadSpec}
use Rattle.load_table.specs.declared.loads.LoadState.TheVariants.{Waiting, Ready, Failed}
use Rattle.load_table.specs.Loads.{holders, owned, waiting}
use Rattle.memory_cache.specs.Cache.{is_too_large, cache_kept, cache_gone}
use Rattle.bitmap_pool.specs.Pool.{pool_pick}
use Rattle.engine_world.specs.declared.events.Event.{Event}
use Rattle.engine_world.specs.declared.events.Event.TheVariants as events
use Rattle.engine_world.specs.declared.events.NotedReply.{NotedReply}
use Rattle.engine_world.specs.declared.events.NotedReply.TheVariants as replies
use Rattle.engine_world.specs.declared.events.Lent.{Lent}
use Rattle.engine_world.specs.World.{LoadState, Job, Resource, World}
use Rattle.engine_world.specs.Moves.{active_of, cached_of, job_for, next_queued, size_of, without, pool_resource, to_pool, all_to_pool, shrink_cache, cached_to_pool, cache_first, to_cache, retire, let_go, cancel_job, lend, take_back, trim_to}
use Rattle.engine_world.specs.Steps.{quota_of, load_by_job, load_from_jobs, load_by_cache, load_by_active, load, released, release, start_job, start_next, next_job, Wanted, wanted_size, lent_as, TakeFrom, activate, resource_of, finish_kept, finish_cancelled, finish, trim, Transition}

-- any event but a Close
abbrev pub LeavesOpen : Event → Type 0
LeavesOpen events.Close = ⊥
LeavesOpen event = ⊤

-- One state is closed where the other is.
abbrev SameClosed : World → World → Type 0
SameClosed w z = z.closed ≡ w.closed

-- ---- resources

pool_resource-open : (r : ℕ) (o : Option Resource) (w : World) → SameClosed w (pool_resource r o w)
pool_resource-open r None w = refl
pool_resource-open r (Some resource) w = refl

all_to_pool-open : (rs : List ℕ) (w : World) → SameClosed w (all_to_pool rs w)
all_to_pool-open [] w = refl
all_to_pool-open (r ∷ rs) w = all_to_pool-open rs (to_pool r w) ∙ pool_resource-open r (get w.resources r) w

shrink_cache-open : (room : ℕ) (w : World) → SameClosed w (shrink_cache room w)
shrink_cache-open room w =
    all_to_pool-open (cache_gone (size_of w.resources) room w.cached) (record w { cached = cache_kept (size_of w.resources) room w.cached })

cached_to_pool-open : (o : Option ℕ) (w : World) → SameClosed w (cached_to_pool o w)
cached_to_pool-open None w = refl
cached_to_pool-open (Some r) w = pool_resource-open r (get w.resources r) (record w { cached = without r w.cached })

to_cache-open : (r : ℕ) (resource : Resource) (w : World) → SameClosed w (to_cache r resource w)
to_cache-open r resource w =
    let fewer : World = cached_to_pool (cached_of w.resources w.cached resource.key) w in
    elim (is_too_large w.limits.memory resource.allocation) as (λ t. SameClosed w (cond t (to_pool r w) (cache_first r fewer))) [
      | true ↦ pool_resource-open r (get w.resources r) w
      | false ↦ shrink_cache-open fewer.limits.memory (record fewer { cached = r ∷ fewer.cached })
          ∙ cached_to_pool-open (cached_of w.resources w.cached resource.key) w
    ]

retire-open : (r : ℕ) (o : Option Resource) (w : World) → SameClosed w (retire r o w)
retire-open r None w = refl
retire-open r (Some resource) w = elim resource.cacheable as (λ t. SameClosed w (cond t (to_cache r resource w) (to_pool r w))) [
  | true ↦ to_cache-open r resource w
  | false ↦ pool_resource-open r (get w.resources r) w
]

-- ---- jobs

cancel_job-open : (j : ℕ) (o : Option Job) (w : World) → SameClosed w (cancel_job j o w)
cancel_job-open j None w = refl
cancel_job-open j (Some job) w = elim (is_none job.seat) as (λ t. SameClosed w (cond t (record w { jobs = remove w.jobs j }) (record w { jobs = insert w.jobs j (record job { cancelled = true }) }))) [
  | true ↦ refl
  | false ↦ refl
]

lend-open : (j : ℕ) (o : Option Job) (lent : Lent) (w : World) → SameClosed w (lend j o lent w)
lend-open j None lent w = refl
lend-open j (Some job) lent w = refl

take_back-open : (j : ℕ) (o : Option Job) (b : ℕ) (w : World) → SameClosed w (take_back j o b w)
take_back-open j None b w = refl
take_back-open j (Some job) b w = refl

-- ---- loads

released-open : (state : LoadState) (w : World) → SameClosed w (released state w)
released-open (Waiting j) w = elim (eqb (waiting j w.loads) 0) as (λ t. SameClosed w (cond t (cancel_job j (get w.jobs j) w) w)) [
  | true ↦ cancel_job-open j (get w.jobs j) w
  | false ↦ refl
]
released-open (Ready r) w = elim (eqb (holders r w.loads) 0) as (λ t. SameClosed w (cond t (let_go r w) w)) [
  | true ↦ retire-open r (get w.resources r) (record w { active = set.remove w.active r })
  | false ↦ refl
]
released-open (Failed cause) w = refl

release-open : (who n : ℕ) (o : Option LoadState) (w : World) → SameClosed w (release w who n o)
release-open who n None w = refl
release-open who n (Some state) w = released-open state (record w { loads = remove w.loads (who, n) })

module _ (w : World) (who : ℕ) (spec : LoadSpec) where
  by_job-open : (o : Option ℕ) → SameClosed w (load_by_job w who spec o).1
  by_job-open None = refl
  by_job-open (Some j) = refl

  by_cache-open : (o : Option ℕ) → SameClosed w (load_by_cache w who spec o).1
  by_cache-open None = by_job-open (job_for w.jobs spec.key spec.cached)
  by_cache-open (Some r) = refl

  by_active-open : (o : Option ℕ) → SameClosed w (load_by_active w who spec o).1
  by_active-open None = by_cache-open (cached_of w.resources w.cached spec.key)
  by_active-open (Some r) = refl

  load-open : SameClosed w (load w who spec).1
  load-open = elim (eqb (owned who w.loads) (quota_of w who)) as (λ t. SameClosed w (cond t (replies.Full, w) (cond spec.skip (load_from_jobs w who spec) (load_by_active w who spec (active_of w.resources w.active spec.key)))).1) [
    | true ↦ refl
    | false ↦ elim spec.skip as (λ t. SameClosed w (cond t (load_from_jobs w who spec) (load_by_active w who spec (active_of w.resources w.active spec.key))).1) [
      | true ↦ by_job-open (job_for w.jobs spec.key spec.cached)
      | false ↦ by_active-open (active_of w.resources w.active spec.key)
    ]
  ]

-- ---- events

start_job-open : (w : World) (who j : ℕ) (o : Option Job) → SameClosed w (start_job w who j o).1
start_job-open w who j None = refl
start_job-open w who j (Some job) = refl

start_next-open : (w : World) (who : ℕ) (o : Option ℕ) → SameClosed w (start_next w who o).1
start_next-open w who None = refl
start_next-open w who (Some j) = start_job-open w who j (get w.jobs j)

next_job-open : (w : World) (who : ℕ) → SameClosed w (next_job w who).1
next_job-open w who = elim w.closed as (λ t. SameClosed w (cond t (replies.Closed, w) (start_next w who (next_queued w.jobs))).1) [
  | true ↦ refl
  | false ↦ start_next-open w who (next_queued w.jobs)
]

take-open : (wanted : Wanted) (w z : World) (reply : NotedReply) (found : Option Lent) → TakeFrom wanted w found reply z → SameClosed w z
take-open wanted w z reply (Some lent) step =
    ap (λ (v : World). v.closed) step.1 ∙ lend-open wanted.job (get w.jobs wanted.job) lent _
take-open wanted w z reply None step = elim step [
  | inl step ↦ ap (λ (v : World). v.closed) step.1 ∙ lend-open wanted.job (get w.jobs wanted.job) (lent_as wanted w.next (wanted_size wanted)) _
  | inr step ↦ ap (λ (v : World). v.closed) step.1
]

activate-open : (t : Bool) (r : ℕ) (resource : Resource) (w : World) → SameClosed w (activate t r resource w)
activate-open true r resource w = refl
activate-open false r resource w = refl

finish-open : (w : World) (j : ℕ) (o : Option Job) (bitmap : BitmapValue) → SameClosed w (finish w j o bitmap).1
finish-open w j None bitmap = refl
finish-open w j (Some job) bitmap = elim job.cancelled as (λ t. SameClosed w (cond t (finish_cancelled w j bitmap) (finish_kept w j job bitmap)).1) [
  | true ↦ refl
  | false ↦ activate-open (not job.spec.skip) bitmap.number (resource_of job bitmap) w
]

trim-open : (level : ℕ) (w : World) → SameClosed w (trim level w)
trim-open level w = elim (leb 40 level) as (λ t. SameClosed w (cond t (trim_to 0 0 w) (cond (leb 20 level || eqb level 15) (trim_to (w.limits.memory / 2) (w.limits.pool / 2) w) w))) [
  | true ↦ shrink_cache-open 0 w
  | false ↦ elim (leb 20 level || eqb level 15) as (λ t. SameClosed w (cond t (trim_to (w.limits.memory / 2) (w.limits.pool / 2) w) w)) [
    | true ↦ shrink_cache-open (w.limits.memory / 2) w
    | false ↦ refl
  ]
]

pub stays_open : (w z : World) (who : ℕ) (event : Event) (reply : NotedReply) → LeavesOpen event → Transition w who event reply z → z.closed ≡ w.closed
stays_open w z who (events.Load spec) reply leaves step = ap (λ (v : World). v.closed) step.1 ∙ load-open w who spec
stays_open w z who (events.Release n) reply leaves step = ap (λ (v : World). v.closed) step.1 ∙ release-open who n (get w.loads (who, n)) w
stays_open w z who (events.NextJob room) reply leaves step = ap (λ (v : World). v.closed) step.1 ∙ next_job-open w who
stays_open w z who (events.Take j width height config) reply leaves step =
    let wanted : Wanted = record { job = j; width = width; height = height; config = config } in
    let picked = pool_pick config (wanted_size wanted) w.pool in
    take-open wanted (record w { pool = picked.groups }) z reply (option_map (λ b. lent_as wanted b picked.size) picked.found) step
stays_open w z who (events.GiveBack j bitmap) reply leaves step = ap (λ (v : World). v.closed) step.1 ∙ take_back-open j (get w.jobs j) bitmap.number w
stays_open w z who (events.Finish j bitmap) reply leaves step = ap (λ (v : World). v.closed) step.1 ∙ finish-open w j (get w.jobs j) bitmap
stays_open w z who (events.Trim level) reply leaves step = ap (λ (v : World). v.closed) step.1 ∙ trim-open level w
stays_open w z who events.Close reply leaves step = absurd leaves
stays_open w z who event reply leaves step = ap (λ (v : World). v.closed) step.1
