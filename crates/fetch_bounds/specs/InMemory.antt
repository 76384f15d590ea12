-- What the memory cache keeps where all pictures of a script fit into it. That it gives up the eldest where they do not is
-- Glide's LruResourceCache; how many certainly fit is this project's own.
use Rattle.std.specs.Prelude.{◌≡◌, ℕ, ◌*◌, ◌<◌, ◌≤◌, ◌⊎◌, List, [], ◌∷◌, length, Some, ⊤}
use Rattle.std.specs.FinMap.{get}
use Rattle.cache_key.specs.Key.{Key}
use Rattle.script_walk.specs.Marks.{KeyResults}
use Rattle.script_walk.specs.Starts.{total_size}
use Rattle.engine_world.specs.declared.events.Event.{Event}
use Rattle.engine_world.specs.declared.events.Event.TheVariants as events
use Rattle.engine_world.specs.World.{Job, Resource, World}

-- The key is one of these.
abbrev pub IsAmong : Key → List Key → Type 0
IsAmong key [] = ⊥
IsAmong key (other ∷ keys) = (key ≡ other) ⊎ IsAmong key keys

-- The pictures of these keys fit into a memory cache of this size in bytes, also where each stands in a bitmap 8 times as
-- large as it is.
pub record AllFit (results : KeyResults) (memory : ℕ) (keys : List Key) : Type 0 where
  pub few : length keys ≤ 1024
  pub room : 8 * total_size results keys < memory

-- All that is loaded is of these keys.
pub record LoadedAmong (keys : List Key) (w : World) : Type 0 where
  pub jobs : (j : ℕ) (job : Job) → get w.jobs j ≡ Some job → IsAmong job.spec.key keys
  pub resources : (r : ℕ) (resource : Resource) → get w.resources r ≡ Some resource
      → IsAmong resource.key keys

-- If the event is a load, its key is one of these.
abbrev pub LoadsAmong : List Key → Event → Type 0
LoadsAmong keys (events.Load spec) = IsAmong spec.key keys
LoadsAmong keys event = ⊤

-- Memory is not trimmed.
abbrev pub TrimsNothing : Event → Type 0
TrimsNothing (events.Trim level) = ⊥
TrimsNothing event = ⊤

-- The picture of the key is there: held, or in the memory cache.
abbrev pub IsInMemory : Key → World → Type 0
IsInMemory key w =
    (r : ℕ) × (resource : Resource) × (get w.resources r ≡ Some resource) × (resource.key ≡ key)
