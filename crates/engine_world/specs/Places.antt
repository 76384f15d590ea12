-- Where a bitmap is. The places are those that Glide's EngineJob, ActiveResources, LruResourceCache and
-- LruBitmapPool keep bitmaps in, and no place at all; that each bitmap has one is this project's own.
use Rattle.std.specs.Prelude.{◌≡◌, ℕ, ◌+◌, ◌<◌, ◌≤◌, Bool, true, ◌&&◌, ◌==◌, nat_lt, List, [], ◌∷◌, map, Some, if◌then◌else◌}
use Rattle.std.specs.FinMap.{get, contains_key}
use Rattle.finite_maps.specs.Maps.{total}
use Rattle.load_table.specs.Loads.{holders}
use Rattle.bitmap_pool.specs.Pool.{Group, pooled}
use Rattle.engine_world.specs.World.{Loads, Job, Jobs, Resource, Resources, World}

-- 1 where a test passes
abbrev pub one_if : Bool → ℕ
one_if b = if b then 1 else 0

-- how often a number stands in a list
abbrev pub occurrences : ℕ → List ℕ → ℕ
occurrences b [] = 0
occurrences b (x ∷ xs) = one_if (x == b) + occurrences b xs

-- ---- bitmaps by their places

-- the numbers of the bitmaps that a job has
abbrev pub lent_numbers : Job → List ℕ
lent_numbers job = map (λ lent. lent.number) job.out

-- whether a number is that of a resource on which a load is ready
abbrev pub is_held : Loads → Resources → ℕ → Bool
is_held loads resources r = contains_key resources r && nat_lt 0 (holders r loads)

-- how often a number stands among those that are out on jobs
abbrev pub times_out : Jobs → ℕ → ℕ
times_out jobs b = total (λ j job. occurrences b (lent_numbers job)) jobs

-- the parts of a world that say where bitmaps are
pub record Whereabouts : Type 0 where
  pub loads : Loads
  pub jobs : Jobs
  pub resources : Resources
  pub cached : List ℕ
  pub pool : List (Group ℕ)

abbrev pub whereabouts : World → Whereabouts
whereabouts w =
    record { loads = w.loads; jobs = w.jobs; resources = w.resources; cached = w.cached; pool = w.pool }

-- how often a number stands among those that are out, held, cached and pooled, all of them written in one
-- list
abbrev pub times_kept : Whereabouts → ℕ → ℕ
times_kept at b =
    times_out at.jobs b + one_if (is_held at.loads at.resources b)
    + occurrences b at.cached + occurrences b (pooled at.pool)

-- Each number that is out, held, cached or pooled is so once, and is below the next one. Each resource is
-- held or cached.
pub record OnePlace (at : Whereabouts) (next : ℕ) : Type 0 where
  pub once : (b : ℕ) → times_kept at b ≤ 1
  pub below : (b : ℕ) → 0 < times_kept at b → b < next
  pub kept : (r : ℕ) (resource : Resource) → get at.resources r ≡ Some resource
      → 0 < one_if (is_held at.loads at.resources r) + occurrences r at.cached

-- ---- the place of one bitmap

-- out on a job, in a resource on which a load is ready, in the memory cache, in the pool, or gone
pub data Place : Type 0 where
  Decoding : (job : ℕ) → Place
  Held : Place
  Cached : Place
  Pooled : Place
  Recycled : Place

-- The bitmap of this number is there.
abbrev pub IsAt : World → ℕ → Place → Type 0
IsAt w b (Decoding j) = (job : Job) × (get w.jobs j ≡ Some job) × (0 < occurrences b (lent_numbers job))
IsAt w b Held = is_held w.loads w.resources b ≡ true
IsAt w b Cached = 0 < occurrences b w.cached
IsAt w b Pooled = 0 < occurrences b (pooled w.pool)
IsAt w b Recycled = (b < w.next) × (times_kept (whereabouts w) b ≡ 0)
