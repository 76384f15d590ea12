-- What holds of the engine's state in each moment, whatever its callers do. It is this project's own.
use Rattle.std.specs.Prelude.{◌≡◌, ℕ, ◌*◌, ◌<◌, ◌≤◌, true, false, List, [], ◌∷◌, length, slice_index_or, sum_by, Some, None, ⊤}
use Rattle.std.specs.declared.option.Option.{Option}
use Rattle.std.specs.FinMap.{get, len}
use Rattle.std.specs.FinSet as set
use Rattle.outside.specs.Content.{Contents}
use Rattle.bitmap_kind.specs.declared.bitmaps.Config.{Config}
use Rattle.bitmap_kind.specs.Picture.{stored_size}
use Rattle.load_table.specs.declared.loads.LoadState.TheVariants.{Waiting, Ready, Failed}
use Rattle.load_table.specs.Loads.{waiting, holders, owned}
use Rattle.active_resources.specs.Actives.{Numbers}
use Rattle.bitmap_pool.specs.Pool.{Group, pool_size, pool_count, has_group}
use Rattle.engine_world.specs.declared.events.Lent.{Lent}
use Rattle.engine_world.specs.World.{LoadState, Loads, Job, Jobs, Resource, Resources, World}
use Rattle.engine_world.specs.Places.{occurrences, whereabouts, OnePlace}
use Rattle.engine_world.specs.Moves.{size_of}
use Rattle.engine_world.specs.Knowledge.{OwnLoad, OwnJob, Knowledge}
use Rattle.engine_world.specs.Permits.{IsPicture}

-- ---- loads

-- What a load waits on, or is ready on, is there and has the key that the load was made with. A job
-- besides is not cancelled, and of the load's kind: it asks what is cached alone exactly where the load
-- does.
abbrev pub RefersTo : Jobs → Resources → OwnLoad → LoadState → Type 0
RefersTo jobs resources load (Waiting j) =
    (job : Job) × (get jobs j ≡ Some job) × (job.cancelled ≡ false) × (job.spec.key ≡ load.key)
    × (job.spec.cached ≡ load.cached)
RefersTo jobs resources load (Ready r) =
    (resource : Resource) × (get resources r ≡ Some resource) × (resource.key ≡ load.key)
RefersTo jobs resources load (Failed cause) = ⊤

-- Each job that is not cancelled has a load that waits on it.
abbrev pub AllAwaited : Loads → Jobs → Type 0
AllAwaited loads jobs =
    (j : ℕ) (job : Job) → get jobs j ≡ Some job → job.cancelled ≡ false → 0 < waiting j loads

-- ---- jobs

-- A job has bitmaps only while it runs, and no more than it took: at most two. Its number is below the
-- count of jobs that were started.
pub record IsJob (started j : ℕ) (job : Job) : Type 0 where
  pub below : j < started
  pub queued : job.seat ≡ None → (job.takes ≡ 0) × (job.cancelled ≡ false)
  pub out : length job.out ≤ job.takes
  pub takes : job.takes ≤ 2

pub record JobsAre (started : ℕ) (jobs : Jobs) : Type 0 where
  pub each : (j : ℕ) (job : Job) → get jobs j ≡ Some job → IsJob started j job
  -- of one key and kind at most one that is not cancelled
  pub apart : (i j : ℕ) (a b : Job) → get jobs i ≡ Some a → get jobs j ≡ Some b → a.cancelled ≡ false
      → b.cancelled ≡ false → a.spec.key ≡ b.spec.key → a.spec.cached ≡ b.spec.cached → i ≡ j
  -- a seat runs at most one
  pub seats : (i j who : ℕ) (a b : Job) → get jobs i ≡ Some a → get jobs j ≡ Some b → a.seat ≡ Some who
      → b.seat ≡ Some who → i ≡ j

-- ---- active and cached resources

-- A resource that is there, and may be asked for again.
abbrev pub IsCacheable : Resources → ℕ → Type 0
IsCacheable resources r =
    (resource : Resource) × (get resources r ≡ Some resource) × (resource.cacheable ≡ true)

-- No two of them have one key.
abbrev pub KeysApart : Resources → (ℕ → Type 0) → Type 0
KeysApart resources Among =
    (p q : ℕ) (a b : Resource) → Among p → Among q → get resources p ≡ Some a → get resources q ≡ Some b
    → a.key ≡ b.key → p ≡ q

pub record ActiveAre (loads : Loads) (resources : Resources) (active : Numbers) : Type 0 where
  pub each : (r : ℕ) → set.contains active r ≡ true → IsCacheable resources r × (0 < holders r loads)
  pub apart : KeysApart resources (λ r. set.contains active r ≡ true)

pub record CachedAre (maximum : ℕ) (resources : Resources) (cached : List ℕ) : Type 0 where
  pub each : (r : ℕ) → 0 < occurrences r cached → IsCacheable resources r
      × (size_of resources r < maximum)
  pub apart : KeysApart resources (λ r. 0 < occurrences r cached)
  pub size : sum_by (size_of resources) cached ≤ maximum
  pub few : length cached ≤ 1024

-- ---- the pool

-- The groups have distinct sizes or configs.
abbrev pub GroupsApart : List (Group ℕ) → Type 0
GroupsApart [] = ⊤
GroupsApart (g ∷ gs) = (has_group g.size g.config gs ≡ false) × GroupsApart gs

pub record PoolIs (maximum : ℕ) (pool : List (Group ℕ)) : Type 0 where
  pub apart : GroupsApart pool
  pub size : pool_size pool ≤ maximum
  pub few : pool_count pool ≤ 1024
  pub groups : length pool ≤ 2048

-- ---- allocations

-- An allocation has room for a picture of these sides and this config, and is at most 8 times as large.
pub record Serves (allocation width height : ℕ) (config : Config) : Type 0 where
  pub room : stored_size width height config ≤ allocation
  pub most : allocation ≤ 8 * stored_size width height config

abbrev pub AllServe : List Lent → Type 0
AllServe [] = ⊤
AllServe (lent ∷ out) = Serves lent.allocation lent.width lent.height lent.config × AllServe out

-- ---- resources

-- A resource's allocation serves its picture, which is that of its key where the content is known.
pub record IsResource (content : Option Contents) (resource : Resource) : Type 0 where
  pub serves :
      Serves resource.allocation resource.picture.width resource.picture.height resource.picture.config
  pub picture_is : IsPicture content resource.key resource.picture

-- ---- what seats know

abbrev pub IsReady : LoadState → Type 0
IsReady (Waiting j) = ⊥
IsReady (Ready r) = ⊤
IsReady (Failed cause) = ⊥

-- What a seat knows of a load is so: and where it was answered Ready, the load is ready.
pub record LoadAgrees (jobs : Jobs) (resources : Resources) (load : OwnLoad)
    (state : LoadState) : Type 0 where
  pub refers : RefersTo jobs resources load state
  pub ready : load.ready ≡ true → IsReady state

-- A seat knows just the loads that it has.
abbrev pub LoadsAgree : Jobs → Resources → Option OwnLoad → Option LoadState → Type 0
LoadsAgree jobs resources None None = ⊤
LoadsAgree jobs resources None (Some state) = ⊥
LoadsAgree jobs resources (Some load) None = ⊥
LoadsAgree jobs resources (Some load) (Some state) = LoadAgrees jobs resources load state

-- What a seat knows of its job is so.
pub record JobAgrees (who : ℕ) (own : OwnJob) (job : Job) : Type 0 where
  pub seat : job.seat ≡ Some who
  pub spec : job.spec ≡ own.spec
  pub takes : job.takes ≡ own.takes
  pub out : job.out ≡ own.out
  pub cancelled : own.cancelled ≡ true → job.cancelled ≡ true

-- the parts of a world that seats know of
pub record Facts : Type 0 where
  pub loads : Loads
  pub jobs : Jobs
  pub resources : Resources
  pub begun : List ℕ

abbrev pub facts : World → Facts
facts w = record { loads = w.loads; jobs = w.jobs; resources = w.resources; begun = w.begun }

-- All that a seat knows is so: its count of loads that were not Full, its loads and how many they are,
-- and its job.
pub record KnowledgeAgrees (now : Facts) (who : ℕ) (known : Knowledge) : Type 0 where
  pub count : slice_index_or now.begun who 0 ≡ known.begun
  pub below : (n : ℕ) (load : OwnLoad) → get known.loads n ≡ Some load → n < known.begun
  pub each : (n : ℕ) → LoadsAgree now.jobs now.resources (get known.loads n) (get now.loads (who, n))
  pub live : owned who now.loads ≡ len known.loads
  pub runs : (own : OwnJob) → known.job ≡ Some own → (job : Job) × (get now.jobs own.number ≡ Some job)
      × JobAgrees who own job
  pub knows : (j : ℕ) (job : Job) → get now.jobs j ≡ Some job → job.seat ≡ Some who → (own : OwnJob)
      × (known.job ≡ Some own) × (own.number ≡ j)

-- ---- all of it

pub record Sound (w : World) (known : ℕ → Knowledge) : Type 0 where
  pub places : OnePlace (whereabouts w) w.next
  pub awaited : AllAwaited w.loads w.jobs
  pub jobs : JobsAre w.counts.started w.jobs
  pub active : ActiveAre w.loads w.resources w.active
  pub cached : CachedAre w.limits.memory w.resources w.cached
  pub pool : PoolIs w.limits.pool w.pool
  pub lent : (j : ℕ) (job : Job) → get w.jobs j ≡ Some job → AllServe job.out
  pub resources : (r : ℕ) (resource : Resource) → get w.resources r ≡ Some resource
      → IsResource w.content resource
  -- each seat has a count of its loads
  pub seats : length w.begun ≡ length w.limits.quotas
  pub known_is : (who : ℕ) → KnowledgeAgrees (facts w) who (known who)
