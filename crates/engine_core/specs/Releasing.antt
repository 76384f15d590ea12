-- What the moves of loads that go, and of resources that no load holds, ask of the world. It is this project's own.
use Rattle.std.specs.Prelude.{◌≡◌, ℕ, ◌<◌, ◌≤◌, [], length, sum_by, Some, None, IsSome}
use Rattle.std.specs.FinMap.{get, remove}
use Rattle.load_table.specs.declared.loads.LoadState.TheVariants.{Waiting, Ready, Failed}
use Rattle.load_table.specs.Loads.{holders}
use Rattle.engine_world.specs.World.{LoadState, Job, Resource, World}
use Rattle.engine_world.specs.Places.{occurrences}
use Rattle.engine_world.specs.Moves.{size_of}
use Rattle.engine_core.specs.Conditions.{IsLive}

-- Each cached number stands once, and its resource is there.
pub record AreCached (w : World) : Type 0 where
  pub once : (r : ℕ) → occurrences r w.cached ≤ 1
  pub there : (r : ℕ) → 0 < occurrences r w.cached → IsSome (get w.resources r)

-- The memory cache is within its greatest size, and has no more items than it may.
pub record IsWithin (w : World) : Type 0 where
  pub size : sum_by (size_of w.resources) w.cached ≤ w.limits.memory
  pub few : length w.cached ≤ 1024

-- A resource is there and is not cached, and the memory cache is as ever.
pub record IsIdle (w : World) (r : ℕ) : Type 0 where
  pub resource : Resource
  pub there : get w.resources r ≡ Some resource
  pub uncached : occurrences r w.cached ≡ 0
  pub cached : AreCached w
  pub within : IsWithin w

-- A job that is queued has no bitmap.
abbrev pub QueuedHasNone : World → ℕ → Type 0
QueuedHasNone w j = (job : Job) → get w.jobs j ≡ Some job → job.seat ≡ None → job.out ≡ []

-- A load may go where what it names may: the job that it waits on is live, and the resource that it is
-- ready on is idle once no other load holds it.
abbrev pub MayRelease : ℕ → ℕ → World → LoadState → Type 0
MayRelease who number w (Waiting j) = IsLive w j × QueuedHasNone w j
MayRelease who number w (Ready r) = holders r (remove w.loads (who, number)) ≡ 0 → IsIdle w r
MayRelease who number w (Failed cause) = Unit {0}
