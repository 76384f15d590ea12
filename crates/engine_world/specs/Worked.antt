-- Worked examples of whole steps. They are this project's own.
use Rattle.std.specs.Prelude.{ℕ, Bool, true, false, [], ◌∷◌, Some, None}
use Rattle.std.specs.FinMap.{insert, remove, empty}
use Rattle.std.specs.FinSet as set
use Rattle.bitmap_kind.specs.Picture.{Picture, BitmapValue}
use Rattle.bitmap_kind.specs.declared.bitmaps.Config.TheVariants.{Argb8888}
use Rattle.bitmap_kind.specs.declared.bitmaps.Transform.TheVariants as transforms
use Rattle.bitmap_kind.specs.declared.bitmaps.Rule.TheVariants.{AtLeast}
use Rattle.cache_key.specs.Key.{Key}
use Rattle.cache_key.specs.Room.{empty_spec}
use Rattle.cache_key.specs.declared.load_spec.LoadSpec.{LoadSpec}
use Rattle.cache_key.specs.declared.load_spec.Priority.{Priority}
use Rattle.cache_key.specs.declared.load_spec.Priority.TheVariants.{Low, Normal}
use Rattle.load_table.specs.declared.loads.LoadState.TheVariants.{Waiting, Ready}
use Rattle.engine_world.specs.declared.events.Lent.{Lent}
use Rattle.engine_world.specs.World.{Job, Resource, World, no_counts, opening}

-- a url of one byte, wanted at one pixel
abbrev pub key : ℕ → Key
key n =
    record {
      url = n ∷ [];
      sig = [];
      width = 1;
      height = 1;
      transform = transforms.Nothing;
      config = Argb8888;
      rule = AtLeast;
    }

abbrev pub spec : ℕ → Priority → LoadSpec
spec n priority = record empty_spec { key = key n; priority = priority }

-- a queued job, and the same on a seat
abbrev pub queued_for : LoadSpec → Job
queued_for wanted = record { spec = wanted; seat = None; cancelled = false; takes = 0; out = [] }

abbrev pub running_for : LoadSpec → ℕ → Job
running_for wanted who = record (queued_for wanted) { seat = Some who }

-- ---- priorities and quota: a seat with a quota of two loads A with priority low, B with normal, and
-- then C; three seats ask for jobs

abbrev pub start : World
start = opening (record { pool = 1000; memory = 1000; quotas = 2 ∷ 0 ∷ 0 ∷ [] }) None

abbrev pub a_loaded : World
a_loaded = record start {
  loads = insert empty (0, 0) (Waiting 0);
  jobs = insert empty 0 (queued_for (spec 1 Low));
  begun = 1 ∷ 0 ∷ 0 ∷ [];
  counts = record no_counts { loads = 1; started = 1 };
}

abbrev pub b_loaded : World
b_loaded = record start {
  loads = insert (insert empty (0, 0) (Waiting 0)) (0, 1) (Waiting 1);
  jobs = insert (insert empty 0 (queued_for (spec 1 Low))) 1 (queued_for (spec 2 Normal));
  begun = 2 ∷ 0 ∷ 0 ∷ [];
  counts = record no_counts { loads = 2; started = 2 };
}

abbrev pub b_runs : World
b_runs = record b_loaded { jobs = insert b_loaded.jobs 1 (running_for (spec 2 Normal) 1) }

abbrev pub both_run : World
both_run = record b_runs { jobs = insert b_runs.jobs 0 (running_for (spec 1 Low) 2) }

-- ---- a resource that another of its key replaces: a load of K, and one of K that asks what is cached
-- alone; two seats run their jobs

-- the load of K of each kind
abbrev pub of_kind : Bool → LoadSpec
of_kind cached = record (spec 7 Normal) { cached = cached }

-- the picture that a job makes of K, its bitmap, and how that was lent
abbrev pub picture : ℕ → Picture
picture n = record { width = 1; height = 1; config = Argb8888; bytes = n ∷ n ∷ n ∷ n ∷ [] }

abbrev pub bitmap : ℕ → BitmapValue
bitmap n = record { number = n; allocation = 4; picture = picture n; spare = [] }

abbrev pub lent : ℕ → Lent
lent n = record { number = n; allocation = 4; width = 1; height = 1; config = Argb8888 }

abbrev pub resource : ℕ → Resource
resource n = record { key = key 7; cacheable = true; allocation = 4; picture = picture n }

-- a job that has taken a bitmap
abbrev pub decoding : Bool → (who n : ℕ) → Job
decoding cached who n = record (running_for (of_kind cached) who) { takes = 1; out = lent n ∷ [] }

abbrev pub r0 : World
r0 = opening (record { pool = 1000; memory = 1000; quotas = 10 ∷ 0 ∷ 0 ∷ [] }) None

abbrev pub r1 : World
r1 = record r0 {
  loads = insert empty (0, 0) (Waiting 0);
  jobs = insert empty 0 (queued_for (of_kind false));
  begun = 1 ∷ 0 ∷ 0 ∷ [];
  counts = record no_counts { loads = 1; started = 1 };
}

abbrev pub r2 : World
r2 = record r0 {
  loads = insert (insert empty (0, 0) (Waiting 0)) (0, 1) (Waiting 1);
  jobs = insert (insert empty 0 (queued_for (of_kind false))) 1 (queued_for (of_kind true));
  begun = 2 ∷ 0 ∷ 0 ∷ [];
  counts = record no_counts { loads = 2; started = 2 };
}

-- seats 1 and 2 run the jobs
abbrev pub r3 : World
r3 = record r2 { jobs = insert r2.jobs 0 (running_for (of_kind false) 1) }

abbrev pub r4 : World
r4 = record r3 { jobs = insert r3.jobs 1 (running_for (of_kind true) 2) }

-- each takes a bitmap; the pool has none, and keeps the group that was looked for
abbrev pub r5 : World
r5 = record r4 {
  jobs = insert r4.jobs 0 (decoding false 1 0);
  pool = record { size = 4; config = Argb8888; items = [] } ∷ [];
  next = 1;
  counts = record r2.counts { takes = 1 };
}

abbrev pub r6 : World
r6 =
    record r5 {
      jobs = insert r5.jobs 1 (decoding true 2 1);
      next = 2;
      counts = record r2.counts { takes = 2 };
    }

-- the first finishes
abbrev pub r7 : World
r7 = record r6 {
  loads = insert (insert empty (0, 0) (Ready 0)) (0, 1) (Waiting 1);
  jobs = remove r6.jobs 0;
  resources = insert empty 0 (resource 0);
  active = set.insert set.empty 0;
}

-- the second finishes, and is active in place of the first
abbrev pub r8 : World
r8 = record r7 {
  loads = insert (insert empty (0, 0) (Ready 0)) (0, 1) (Ready 1);
  jobs = remove r7.jobs 1;
  resources = insert (insert empty 0 (resource 0)) 1 (resource 1);
  active = set.insert (set.remove r7.active 0) 1;
}

-- the first is released: it is cached, and the second stays active
abbrev pub r9 : World
r9 = record r8 { loads = insert empty (0, 1) (Ready 1); active = set.remove r8.active 0; cached = 0 ∷ [] }

-- a load of the key holds the second
abbrev pub r10 : World
r10 = record r9 {
  loads = insert r9.loads (0, 2) (Ready 1);
  begun = 3 ∷ 0 ∷ 0 ∷ [];
  counts = record r6.counts { loads = 3; active = 1 };
}

-- one of its two loads is released
abbrev pub r11 : World
r11 = record r10 { loads = insert empty (0, 2) (Ready 1) }

-- the other too: it is cached in place of the first, which is pooled
abbrev pub r12 : World
r12 = record r11 {
  loads = empty;
  resources = insert empty 1 (resource 1);
  active = set.remove r11.active 1;
  cached = 1 ∷ [];
  pool = record { size = 4; config = Argb8888; items = 0 ∷ [] } ∷ [];
}
