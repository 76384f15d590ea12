-- The thirteen numbers that Totals tells, and the sums that hold of them. They are this project's own.
use Rattle.std.specs.Prelude.{◌≡◌, ℕ, ◌+◌, ◌-◌, nat_lt, length}
use Rattle.finite_maps.specs.Maps.{total}
use Rattle.load_table.specs.Loads.{holders}
use Rattle.bitmap_pool.specs.Pool.{pool_count}
use Rattle.engine_world.specs.declared.events.Totals.{Totals}
use Rattle.engine_world.specs.World.{World}
use Rattle.engine_world.specs.Places.{one_if}

-- how many bitmaps are out on jobs
abbrev pub out_count : World → ℕ
out_count w = total (λ j job. length job.out) w.jobs

-- how many resources are held
abbrev pub held_count : World → ℕ
held_count w = total (λ r resource. one_if (nat_lt 0 (holders r w.loads))) w.resources

-- how many bitmaps are anywhere
abbrev pub kept_count : World → ℕ
kept_count w = out_count w + held_count w + length w.cached + pool_count w.pool

-- the counts, how many bitmaps were made, and how many of them are where by now
abbrev pub totals : World → Totals
totals w = record {
  loads = w.counts.loads;
  active = w.counts.active;
  memory = w.counts.memory;
  joined = w.counts.joined;
  started = w.counts.started;
  takes = w.counts.takes;
  reused = w.counts.reused;
  made = w.next;
  decoding = out_count w;
  held = held_count w;
  cached = length w.cached;
  pooled = pool_count w.pool;
  recycled = w.next - kept_count w;
}

-- Each load that was not Full was answered from one place, each take that gave a bitmap by a used one or
-- a new one, and each bitmap that was made is in one place.
pub record Balance (sums : Totals) : Type 0 where
  pub loads : sums.loads ≡ sums.active + sums.memory + sums.joined + sums.started
  pub takes : sums.takes ≡ sums.reused + sums.made
  pub made : sums.made ≡ sums.decoding + sums.held + sums.cached + sums.pooled + sums.recycled
