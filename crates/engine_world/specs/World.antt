-- The engine's state as plain data. The parts are Glide's: loads are its EngineResource's users and
-- EngineJob's callbacks, jobs its Jobs, active resources its ActiveResources, the memory cache its
-- LruResourceCache and the pool its LruBitmapPool. Numbers in place of objects, and a count of loads for
-- each seat, are this project's own.
use Rattle.std.specs.Prelude.{ℕ, Bool, false, List, [], map}
use Rattle.std.specs.declared.option.Option.{Option}
use Rattle.std.specs.Ordering.{nat_cmp}
use Rattle.std.specs.FinMap.{FinMap, empty}
use Rattle.std.specs.FinSet as set
use Rattle.outside.specs.Content.{Contents}
use Rattle.bitmap_kind.specs.Picture.{Picture}
use Rattle.cache_key.specs.Key.{Key}
use Rattle.cache_key.specs.declared.load_spec.LoadSpec.{LoadSpec}
use Rattle.load_cause.specs.declared.causes.Cause.{Cause}
use Rattle.load_table.specs.declared.loads.LoadState as load_state
use Rattle.load_table.specs.Loads as load_table
use Rattle.active_resources.specs.Actives.{Numbers}
use Rattle.bitmap_pool.specs.Pool.{Group}
use Rattle.engine_world.specs.declared.events.Lent.{Lent}

-- the loads by their owner's seat and their number: each waits on a job, is ready on a resource, or has
-- failed with a cause
abbrev pub LoadState : Type 0
LoadState = load_state.LoadState Cause

abbrev pub Loads : Type 0
Loads = load_table.Loads Cause

-- A job: what the load that started it asked for, the seat that it runs on unless it is queued, whether
-- it is cancelled, how many bitmaps it took, and those that it has.
pub record Job : Type 0 where
  pub spec : LoadSpec
  pub seat : Option ℕ
  pub cancelled : Bool
  pub takes : ℕ
  pub out : List Lent

-- the live jobs by their numbers
abbrev pub Jobs : Type 0
Jobs = FinMap nat_cmp Job

-- A resource: the key that it was loaded for, whether it may be asked for again, its bitmap's allocation
-- in bytes, which is its size, and its picture.
pub record Resource : Type 0 where
  pub key : Key
  pub cacheable : Bool
  pub allocation : ℕ
  pub picture : Picture

-- the resources by their numbers, which are those of their bitmaps
abbrev pub Resources : Type 0
Resources = FinMap nat_cmp Resource

-- how many loads were not Full, of these how many each place answered, and how many takes gave a bitmap,
-- of these how many one of the pool
pub record Counts : Type 0 where
  pub loads : ℕ
  pub active : ℕ
  pub memory : ℕ
  pub joined : ℕ
  pub started : ℕ
  pub takes : ℕ
  pub reused : ℕ

-- the greatest sizes of pool and memory cache in bytes, and for each seat how many loads it may have at a
-- time
pub record Limits : Type 0 where
  pub pool : ℕ
  pub memory : ℕ
  pub quotas : List ℕ

-- The pool's groups stand from the head, and the cached numbers from the most recent. `next` is the
-- number of the next new bitmap, `begun` says of each seat how many loads it made that were not Full, and
-- the content is what the sources have, where they tell it.
pub record World : Type 0 where
  pub loads : Loads
  pub jobs : Jobs
  pub resources : Resources
  pub active : Numbers
  pub cached : List ℕ
  pub pool : List (Group ℕ)
  pub next : ℕ
  pub counts : Counts
  pub begun : List ℕ
  pub limits : Limits
  pub closed : Bool
  pub content : Option Contents

-- no load yet, no job, and no take
abbrev pub no_counts : Counts
no_counts = record { loads = 0; active = 0; memory = 0; joined = 0; started = 0; takes = 0; reused = 0 }

-- no load yet of each seat
abbrev pub none_begun : List ℕ → List ℕ
none_begun quotas = map (λ quota. 0) quotas

-- the state at the beginning
abbrev pub opening : Limits → Option Contents → World
opening limits content = record {
  loads = empty;
  jobs = empty;
  resources = empty;
  active = set.empty;
  cached = [];
  pool = [];
  next = 0;
  counts = no_counts;
  begun = none_begun limits.quotas;
  limits = limits;
  closed = false;
  content = content;
}
