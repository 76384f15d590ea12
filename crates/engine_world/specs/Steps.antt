-- One step of the engine for each event: what it answers, and the state that it leaves. The rules are
-- those of Glide's Engine, ActiveResources and EngineJob; docs/ENGINE.md has them in a table, with what
-- is this project's own.
use Rattle.std.specs.Prelude.{◌≡◌, ℕ, ◌+◌, ◌/◌, Bool, true, false, not, ◌||◌, ◌⊎◌, ◌==◌, nat_le, List, [], length, take, drop, slice_index_or, Some, None, if◌then◌else◌}
use Rattle.std.specs.declared.option.Option.{Option}
use Rattle.std.specs.Option.{option_map}
use Rattle.std.specs.FinMap.{get, insert, remove}
use Rattle.std.specs.FinSet as set
use Rattle.bitmap_kind.specs.declared.bitmaps.Config.{Config}
use Rattle.bitmap_kind.specs.Picture.{Picture, BitmapValue, stored_size}
use Rattle.cache_key.specs.declared.load_spec.LoadSpec.{LoadSpec}
use Rattle.state_machine.specs.declared.entry.Entry.{Entry}
use Rattle.load_table.specs.declared.loads.LoadState.TheVariants.{Waiting, Ready, Failed}
use Rattle.load_table.specs.declared.loads.Settle.TheVariants as settles
use Rattle.load_table.specs.Loads.{holders, owned}
use Rattle.active_resources.specs.Actives.{Numbers}
use Rattle.bitmap_pool.specs.Pool.{pool_put, pool_pick}
use Rattle.engine_world.specs.declared.events.Event.{Event}
use Rattle.engine_world.specs.declared.events.Event.TheVariants as events
use Rattle.engine_world.specs.declared.events.NotedReply.{NotedReply}
use Rattle.engine_world.specs.declared.events.NotedReply.TheVariants as replies
use Rattle.engine_world.specs.declared.events.Note.{Note}
use Rattle.engine_world.specs.declared.events.Lent.{Lent}
use Rattle.engine_world.specs.declared.events.Shape.{Shape}
use Rattle.engine_world.specs.World.{LoadState, Job, Resource, World}
use Rattle.engine_world.specs.Moves.{active_of, cached_of, job_for, next_queued, without, let_go, add_load, end_job, leave_job, lend, take_back, trim_to}
use Rattle.engine_world.specs.Balance.{totals}

-- what an event answers, and what it leaves
abbrev pub Outcome : Type 0
Outcome = NotedReply × World

-- ---- Load

-- how many loads a seat may have at a time
abbrev pub quota_of : World → ℕ → ℕ
quota_of w who = slice_index_or w.limits.quotas who 0

-- a new queued job
abbrev pub queued : LoadSpec → Job
queued spec = record { spec = spec; seat = None; cancelled = false; takes = 0; out = [] }

abbrev pub load_starting : World → ℕ → LoadSpec → Outcome
load_starting w who spec =
    let j = w.counts.started in (
      replies.Started j,
      add_load who (Waiting j) (record w {
        jobs = insert w.jobs j (queued spec);
        counts = record w.counts { started = j + 1 };
      }),
    )

-- a job that the load may join is joined; its priority stays, which is the project's own
abbrev pub load_by_job : World → ℕ → LoadSpec → Option ℕ → Outcome
load_by_job w who spec None = load_starting w who spec
load_by_job w who spec (Some j) = (
  replies.Joined j,
  add_load who (Waiting j)
      (record w { counts = record w.counts { joined = w.counts.joined + 1 } }),
)

abbrev pub load_from_jobs : World → ℕ → LoadSpec → Outcome
load_from_jobs w who spec = load_by_job w who spec (job_for w.jobs spec.key spec.cached)

-- a cached resource leaves the memory cache and becomes active
abbrev pub load_by_cache : World → ℕ → LoadSpec → Option ℕ → Outcome
load_by_cache w who spec None = load_from_jobs w who spec
load_by_cache w who spec (Some r) = (
  replies.Ready,
  add_load who (Ready r) (record w {
    cached = without r w.cached;
    active = set.insert w.active r;
    counts = record w.counts { memory = w.counts.memory + 1 };
  }),
)

-- an active resource gains a load
abbrev pub load_by_active : World → ℕ → LoadSpec → Option ℕ → Outcome
load_by_active w who spec None = load_by_cache w who spec (cached_of w.resources w.cached spec.key)
load_by_active w who spec (Some r) = (
  replies.Ready,
  add_load who (Ready r)
      (record w { counts = record w.counts { active = w.counts.active + 1 } }),
)

-- Full where the seat has as many loads as it may have; else from memory, unless that is passed over, or
-- else by a job
abbrev pub load : World → ℕ → LoadSpec → Outcome
load w who spec =
    if owned who w.loads == quota_of w who then (replies.Full, w)
    else if spec.skip then load_from_jobs w who spec
    else load_by_active w who spec (active_of w.resources w.active spec.key)

-- ---- Collect, Look, Read and Release

-- what a load has come to
abbrev pub collected : Option LoadState → NotedReply
collected None = replies.Done
collected (Some (Waiting j)) = replies.NotYet j
collected (Some (Ready r)) = replies.Ready
collected (Some (Failed cause)) = replies.Failed cause

-- a picture's sides and config, and how many stored bytes it has
abbrev pub shape_of : Picture → Shape
shape_of picture =
    record {
      width = picture.width;
      height = picture.height;
      config = picture.config;
      length = length picture.bytes;
    }

-- its stored bytes from a place on, at most 4,096 of them
abbrev pub piece_from : ℕ → Picture → List ℕ
piece_from at picture = take 4096 (drop at picture.bytes)

abbrev pub shown_by : (Picture → NotedReply) → Option Resource → NotedReply
shown_by reply None = replies.Done
shown_by reply (Some resource) = reply resource.picture

-- what is known of the picture that a load is ready on
abbrev pub shown : World → (Picture → NotedReply) → Option LoadState → NotedReply
shown w reply None = replies.Done
shown w reply (Some (Waiting j)) = replies.Done
shown w reply (Some (Ready r)) = shown_by reply (get w.resources r)
shown w reply (Some (Failed cause)) = replies.Done

-- A load goes. Where it was the last that waited on a job, the job goes or is cancelled; where it was the
-- last that held a resource, the resource is let go.
abbrev pub released : LoadState → World → World
released (Waiting j) w = leave_job j w
released (Ready r) w = if holders r w.loads == 0 then let_go r w else w
released (Failed cause) w = w

abbrev pub release : World → ℕ → ℕ → Option LoadState → World
release w who n None = w
release w who n (Some state) = released state (record w { loads = remove w.loads (who, n) })

-- ---- NextJob

-- a queued job runs on this seat
abbrev pub run_on : ℕ → Job → Job
run_on who job = record job { seat = Some who }

abbrev pub start_job : World → ℕ → ℕ → Option Job → Outcome
start_job w who j None = (replies.Idle, w)
start_job w who j (Some job) =
    (replies.Job j job.spec, record w { jobs = insert w.jobs j (run_on who job) })

abbrev pub start_next : World → ℕ → Option ℕ → Outcome
start_next w who None = (replies.Idle, w)
start_next w who (Some j) = start_job w who j (get w.jobs j)

abbrev pub next_job : World → ℕ → Outcome
next_job w who = if w.closed then (replies.Closed, w) else start_next w who (next_queued w.jobs)

-- ---- Take and GiveBack

-- what a take asks for: the job that it is for, and the sides in pixels and the config of a bitmap
pub record Wanted : Type 0 where
  pub job : ℕ
  pub width : ℕ
  pub height : ℕ
  pub config : Config

abbrev pub wanted_size : Wanted → ℕ
wanted_size wanted = stored_size wanted.width wanted.height wanted.config

-- the bitmap of a number and an allocation, lent as it was asked for
abbrev pub lent_as : Wanted → (number allocation : ℕ) → Lent
lent_as wanted number allocation =
    record {
      number = number;
      allocation = allocation;
      width = wanted.width;
      height = wanted.height;
      config = wanted.config;
    }

-- a bitmap of the pool is lent
abbrev pub take_pooled : ℕ → Lent → World → Outcome
take_pooled j lent w = (
  replies.Taken lent,
  lend j (get w.jobs j) lent
      (record w {
        counts = record w.counts {
          takes = w.counts.takes + 1;
          reused = w.counts.reused + 1;
        };
      }),
)

-- a new one is lent
abbrev pub take_new : ℕ → Lent → World → Outcome
take_new j lent w = (
  replies.Taken lent,
  lend j (get w.jobs j) lent (record w {
    next = w.next + 1;
    counts = record w.counts { takes = w.counts.takes + 1 };
  }),
)

-- This is the reply, and this is left.
abbrev pub IsOutcome : NotedReply → World → Outcome → Type 0
IsOutcome reply z outcome = (reply ≡ outcome.0) × (z ≡ outcome.1)

-- Where the pool gives no bitmap, a new one is lent, or there is no memory for it.
abbrev pub TakeFrom : Wanted → World → Option Lent → NotedReply → World → Type 0
TakeFrom wanted w (Some lent) reply z = IsOutcome reply z (take_pooled wanted.job lent w)
TakeFrom wanted w None reply z =
    IsOutcome reply z (take_new wanted.job (lent_as wanted w.next (wanted_size wanted)) w)
    ⊎ IsOutcome reply z (replies.NoMemory, w)

-- The pool is asked first, and is left as it is after its look-up.
abbrev pub Take : Wanted → World → NotedReply → World → Type 0
Take wanted w reply z =
    let picked = pool_pick wanted.config (wanted_size wanted) w.pool in
    TakeFrom wanted (record w { pool = picked.groups })
    (option_map (λ b. lent_as wanted b picked.size) picked.found) reply z

-- a bitmap goes to the pool, with the config that it has by now
abbrev pub bitmap_to_pool : BitmapValue → World → World
bitmap_to_pool bitmap w =
    record w { pool = pool_put w.limits.pool bitmap.allocation bitmap.picture.config bitmap.number w.pool }

abbrev pub give_back : World → ℕ → BitmapValue → World
give_back w j bitmap = bitmap_to_pool bitmap (take_back j (get w.jobs j) bitmap.number w)

-- ---- Finish and IsCancelled

-- A resource becomes active, in place of another of its key, where it may be asked for again.
abbrev pub replace : Option ℕ → Numbers → Numbers
replace None active = active
replace (Some r) active = set.remove active r

abbrev pub activate : Bool → ℕ → Resource → World → World
activate false r resource w = w
activate true r resource w =
    record w { active = set.insert (replace (active_of w.resources w.active resource.key) w.active) r }

-- the resource of a job's result, which may be asked for again where the job's starter did not pass
-- memory over
abbrev pub resource_of : Job → BitmapValue → Resource
resource_of job bitmap =
    record {
      key = job.spec.key;
      cacheable = not job.spec.skip;
      allocation = bitmap.allocation;
      picture = bitmap.picture;
    }

-- the bitmap becomes a resource, on which the loads are ready that waited
abbrev pub finish_kept : World → ℕ → Job → BitmapValue → Outcome
finish_kept w j job bitmap =
    let r = bitmap.number in
    let resource = resource_of job bitmap in
    let active = activate resource.cacheable r resource w in (
      replies.Done,
      end_job j (settles.Ready r)
          (record active { resources = insert w.resources r resource }),
    )

-- nobody waits any more: the bitmap goes to the pool
abbrev pub finish_cancelled : World → ℕ → BitmapValue → Outcome
finish_cancelled w j bitmap =
    (replies.Discarded, bitmap_to_pool bitmap (record w { jobs = remove w.jobs j }))

abbrev pub finish : World → ℕ → Option Job → BitmapValue → Outcome
finish w j None bitmap = (replies.Done, w)
finish w j (Some job) bitmap =
    if job.cancelled then finish_cancelled w j bitmap else finish_kept w j job bitmap

-- whether a job is cancelled
abbrev pub is_cancelled : Option Job → Bool
is_cancelled None = false
is_cancelled (Some job) = job.cancelled

-- ---- Trim

-- Android's levels of onTrimMemory, with this project's rule: 40 and more clear memory cache and pool; 20
-- to 39, and 15, cut each to half of its greatest size; others change nothing
abbrev pub trim : ℕ → World → World
trim level w =
    if nat_le 40 level then trim_to 0 0 w
    else if nat_le 20 level || level == 15 then trim_to (w.limits.memory / 2) (w.limits.pool / 2) w
    else w

-- ---- the step

-- An event of this seat is answered so, and leaves this.
abbrev pub Transition : World → ℕ → Event → NotedReply → World → Type 0
Transition w who (events.Load spec) reply z = IsOutcome reply z (load w who spec)
Transition w who (events.Collect n) reply z = IsOutcome reply z (collected (get w.loads (who, n)), w)
Transition w who (events.Look n) reply z =
    IsOutcome reply z (shown w (λ picture. replies.Shape (shape_of picture)) (get w.loads (who, n)), w)
Transition w who (events.Read n at) reply z =
    IsOutcome reply z (
      shown w (λ picture. replies.Piece (piece_from at picture))
          (get w.loads (who, n)),
      w,
    )
Transition w who (events.Release n) reply z =
    IsOutcome reply z (replies.Done, release w who n (get w.loads (who, n)))
Transition w who (events.NextJob room) reply z = IsOutcome reply z (next_job w who)
Transition w who (events.Take j width height config) reply z =
    Take (record { job = j; width = width; height = height; config = config }) w reply z
Transition w who (events.GiveBack j bitmap) reply z =
    IsOutcome reply z (replies.Done, give_back w j bitmap)
Transition w who (events.Finish j bitmap) reply z = IsOutcome reply z (finish w j (get w.jobs j) bitmap)
Transition w who (events.Fail j cause) reply z =
    IsOutcome reply z (replies.Done, end_job j (settles.Failed cause) w)
Transition w who (events.Quit j) reply z =
    IsOutcome reply z (replies.Done, record w { jobs = remove w.jobs j })
Transition w who (events.IsCancelled j) reply z =
    IsOutcome reply z (replies.Cancelled (is_cancelled (get w.jobs j)), w)
Transition w who (events.Trim level) reply z = IsOutcome reply z (replies.Done, trim level w)
Transition w who events.Close reply z = IsOutcome reply z (replies.Done, record w { closed = true })
Transition w who events.Totals reply z = IsOutcome reply z (replies.Totals (totals w), w)

-- An entry of a history leads from one world to the other.
abbrev pub Step : World → Entry Note → World → Type 0
Step w e z = Transition w e.by e.note.event e.note.reply z
