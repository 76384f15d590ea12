-- What a load asks and changes on its way. It is this project's own.
use Rattle.std.specs.Prelude.{◌≡◌, ℕ, ◌+◌, List, [], ◌∷◌, IsSome, Some, None}
use Rattle.std.specs.FinMap.{get, insert}
use Rattle.std.specs.FinSet as set
use Rattle.cache_key.specs.declared.load_spec.LoadSpec.{LoadSpec}
use Rattle.memory_cache.specs.Cache.{number_in}
use Rattle.resource_table.specs.Resources.{Resources}
use Rattle.engine_world.specs.World.{Resource, World}
use Rattle.engine_world.specs.Moves.{active_of, without}
use Rattle.engine_world.specs.Steps.{queued}

-- Each cached number is that of a resource.
abbrev pub AllThere : Resources → List (ℕ × ℕ) → Type 0
AllThere resources [] = Unit {0}
AllThere resources (item ∷ items) = IsSome (get resources (number_in item)) × AllThere resources items

-- No active resource has the key of this one.
abbrev pub NoneActive : World → ℕ → Type 0
NoneActive w r = (resource : Resource) → get w.resources r ≡ Some resource
    → active_of w.resources w.active resource.key ≡ None

-- a new queued job
abbrev pub queued_more : LoadSpec → World → World
queued_more spec w = record w {
  jobs = insert w.jobs w.counts.started (queued spec);
  counts = record w.counts { started = w.counts.started + 1 };
}

-- one more load that joined a job, or that an active resource gained
abbrev pub joined_more : World → World
joined_more w = record w { counts = record w.counts { joined = w.counts.joined + 1 } }

abbrev pub active_more : World → World
active_more w = record w { counts = record w.counts { active = w.counts.active + 1 } }

-- a cached resource that becomes active
abbrev pub revived : ℕ → World → World
revived r w = record w {
  cached = without r w.cached;
  active = set.insert w.active r;
  counts = record w.counts { memory = w.counts.memory + 1 };
}
