-- What holds of a key that each load asks memory and the source for: while a load has its picture, or waits for it, the next
-- load finds it. That joined and active pictures are not loaded again is Glide's Engine; the invariant is this project's own.
use Rattle.std.specs.Prelude.{◌≡◌, ℕ, ◌<◌, true, false, Some, ⊤}
use Rattle.std.specs.FinMap.{get}
use Rattle.std.specs.FinSet as set
use Rattle.cache_key.specs.Key.{Key}
use Rattle.cache_key.specs.declared.load_spec.LoadSpec.{LoadSpec}
use Rattle.load_table.specs.Loads.{holders}
use Rattle.engine_world.specs.declared.events.Event.{Event}
use Rattle.engine_world.specs.declared.events.Event.TheVariants as events
use Rattle.engine_world.specs.World.{Job, Resource, World}

-- What asks for this key passes neither memory nor the source over: it says neither `skip` nor `cached`.
pub record AsksAll (key : Key) (spec : LoadSpec) : Type 0 where
  pub memory : spec.key ≡ key → spec.skip ≡ false
  pub source : spec.key ≡ key → spec.cached ≡ false

-- If the event is a load of this key, it passes neither over.
abbrev pub LoadsAskAll : Key → Event → Type 0
LoadsAskAll key (events.Load spec) = AsksAll key spec
LoadsAskAll key event = ⊤

-- What is loaded of this key is found: a resource among the active ones while a load holds it, and while it is there, held or
-- cached, no job makes another.
pub record IsFindable (key : Key) (w : World) : Type 0 where
  pub jobs : (j : ℕ) (job : Job) → get w.jobs j ≡ Some job → AsksAll key job.spec
  pub active : (r : ℕ) (resource : Resource) → get w.resources r ≡ Some resource → resource.key ≡ key
      → 0 < holders r w.loads → set.contains w.active r ≡ true
  pub alone : (j : ℕ) (job : Job) → get w.jobs j ≡ Some job → job.cancelled ≡ false → job.spec.key ≡ key
      → (r : ℕ) (resource : Resource) → get w.resources r ≡ Some resource → resource.key ≡ key → ⊥
