-- How far the counts of a world rise, and how much room its tables need. Quotas and limits on them are this project's own.
use Rattle.std.specs.Prelude.{◌≡◌, ℕ, ◌+◌, ◌-◌, ◌*◌, ◌<◌, ◌≤◌, List, length, sum_by, Some}
use Rattle.std.specs.FinMap.{get, len}
use Rattle.std.specs.FinSet as set
use Rattle.finite_maps.specs.Maps.{total}
use Rattle.load_table.specs.Loads.{owned}
use Rattle.engine_world.specs.World.{Job, Jobs, World}
use Rattle.engine_world.specs.Moves.{begun_by}
use Rattle.engine_world.specs.Balance.{out_count, held_count, kept_count}
use Rattle.engine_world.specs.Steps.{quota_of}
use Rattle.engine_world.specs.Permits.{load_limit}

-- how many loads the seats may have together
abbrev pub quota_sum : List ℕ → ℕ
quota_sum quotas = sum_by (λ quota. quota) quotas

-- how many bitmaps the live jobs may take yet: two each, less those that they took
abbrev pub takes_left : Jobs → ℕ
takes_left jobs = total (λ j job. 2 - job.takes) jobs

-- What counts, loads and jobs keep to through each event.
pub record WithinLimits (w : World) : Type 0 where
  -- each load that was not Full is some seat's, and a seat makes no more of them than it may
  pub begun : w.counts.loads ≡ sum_by (λ n. n) w.begun
  pub each_begun : (who : ℕ) → begun_by w who ≤ load_limit
  -- each was answered from one place, and each take that gave a bitmap by a used one or a new one
  pub answered : w.counts.loads ≡ w.counts.active + w.counts.memory + w.counts.joined + w.counts.started
  pub given : w.counts.takes ≡ w.counts.reused + w.next
  -- a job takes at most two bitmaps
  pub takes : w.counts.takes + takes_left w.jobs ≤ 2 * w.counts.started
  -- a seat has no more loads than its quota
  pub quotas : (who : ℕ) → owned who w.loads ≤ quota_of w who
  -- a job runs on a seat that there is
  pub seats : (j who : ℕ) (job : Job) → get w.jobs j ≡ Some job → job.seat ≡ Some who
      → who < length w.limits.quotas

-- How much room a world needs, by the quotas of its seats, and how far its counts may rise.
pub record FitsRooms (w : World) : Type 0 where
  -- loads, and that a seat below its quota may have one more
  pub loads : len w.loads ≤ quota_sum w.limits.quotas
  pub another_load : (who : ℕ) → owned who w.loads < quota_of w who
      → len w.loads < quota_sum w.limits.quotas
  pub jobs : len w.jobs ≤ quota_sum w.limits.quotas + length w.limits.quotas
  pub resources : len w.resources ≤ quota_sum w.limits.quotas + 1024
  pub active : set.len w.active ≤ quota_sum w.limits.quotas
  -- a resource is either held or cached
  pub held : held_count w + length w.cached ≡ len w.resources
  pub out : out_count w ≤ 2 * len w.jobs
  -- the bitmaps that are anywhere were made
  pub kept : kept_count w ≤ w.next
  -- the counts of loads, and of takes that gave a bitmap
  pub loads_count : w.counts.loads ≤ length w.limits.quotas * load_limit
  pub takes_count : w.counts.takes ≤ 2 * w.counts.loads
