-- How often numbers stand in places, when jobs change.
use Rattle.std.proofs.Common.{◌≡◌, ℕ, ◌+◌, ◌≤◌, List, Some, None, arith}
use Rattle.std.specs.Cmp.{nat_cmp_total}
use Rattle.std.specs.FinMap.{get, insert, remove, nat_cmp-IsAntisymmetric}
use Rattle.bitmap_pool.specs.Pool.{Group, pooled}
use Rattle.engine_world.specs.World.{Loads, Job, Jobs, Resources}
use Rattle.engine_world.specs.Places.{occurrences, lent_numbers, times_out, OnePlace}
use Rattle.engine_world.proofs.Parts.{whereabouts_of}
use Rattle.finite_maps.specs.MapLaws.{total-remove, total-insert_new, total-insert_over, le-total}

pub out_changed : (jobs : Jobs) (j : ℕ) (job now : Job) (b : ℕ) → get jobs j ≡ Some job
    → times_out (insert jobs j now) b + occurrences b (lent_numbers job) ≡ times_out jobs b + occurrences b (lent_numbers now)
out_changed jobs j job now b is = total-insert_over nat_cmp_total nat_cmp-IsAntisymmetric (λ i (a : Job). occurrences b (lent_numbers a)) jobs j job now is

pub out_gone : (jobs : Jobs) (j : ℕ) (job : Job) (b : ℕ) → get jobs j ≡ Some job → times_out jobs b ≡ occurrences b (lent_numbers job) + times_out (remove jobs j) b
out_gone jobs j job b is = total-remove nat_cmp_total nat_cmp-IsAntisymmetric (λ i (a : Job). occurrences b (lent_numbers a)) jobs j job is

pub out_new : (jobs : Jobs) (j : ℕ) (now : Job) (b : ℕ) → get jobs j ≡ None → times_out (insert jobs j now) b ≡ occurrences b (lent_numbers now) + times_out jobs b
out_new jobs j now b none = total-insert_new nat_cmp_total nat_cmp-IsAntisymmetric (λ i (a : Job). occurrences b (lent_numbers a)) jobs j now none

pub out_at : (jobs : Jobs) (j : ℕ) (job : Job) (b : ℕ) → get jobs j ≡ Some job → occurrences b (lent_numbers job) ≤ times_out jobs b
out_at jobs j job b is = le-total nat_cmp_total nat_cmp-IsAntisymmetric (λ i (a : Job). occurrences b (lent_numbers a)) jobs j job is

-- Jobs and pool change, and no number stands more often than it did.
pub places_less : (loads : Loads) (jobs jobs' : Jobs) (resources : Resources) (cached : List ℕ) (pool pool' : List (Group ℕ)) (next : ℕ)
    → ((b : ℕ) → times_out jobs' b + occurrences b (pooled pool') ≤ times_out jobs b + occurrences b (pooled pool))
    → OnePlace (whereabouts_of loads jobs resources cached pool) next → OnePlace (whereabouts_of loads jobs' resources cached pool') next
places_less loads jobs jobs' resources cached pool pool' next less one = record {
  once = λ b. omega (arith, less b, one.once b);
  below = λ b h. one.below b (omega (arith, less b, h));
  kept = one.kept;
}
