-- The table's answers on jobs that are listed in the order of their numbers, and what its calls leave of them.
use Rattle.std.proofs.Common.{◌≡◌, ℕ, suc, Bool, true, false, cond, List, ◌++◌, take, drop, Some, ap, sym, ◌∙◌}
use Rattle.std.specs.Prelude.{T, slice_get, slice_set}
use Rattle.std.specs.Ordering.{nat_cmp}
use Rattle.std.specs.FinMap.{get, insert, remove, from_sorted, is_sorted, nat_cmp-IsAntisymmetric}
use Rattle.std.proofs.lemmas.Cmp.{nat_cmp_total}
use Rattle.cache_key.specs.Key.{Key}
use Rattle.finite_maps.specs.Maps.{first_in, modify, passes}
use Rattle.finite_maps.specs.MapLaws.{modify_there}
use Rattle.finite_maps.specs.SortedEntries.{is_map, first_key-sorted, get-sorted_at, entries-set, entries-removed}
use Rattle.job_table.specs.declared.jobs.Job.{Job}
use Rattle.job_table.specs.Jobs.{Jobs, serves, marked, is_queued, queued_in, job_for, after_cancel}

pub joins-sorted : (key : Key) (cached : Bool) (es : List (ℕ × Job)) → T (is_sorted nat_cmp es)
    → job_for key cached (from_sorted es) ≡ first_in (λ number job. serves key cached job) es
joins-sorted key cached es h = first_key-sorted nat_cmp_total nat_cmp-IsAntisymmetric es h (λ number job. serves key cached job)

module _ (es : List (ℕ × Job)) (place number : ℕ) (job : Job) (h : T (is_sorted nat_cmp es)) (at : slice_get es place ≡ Some (number, job)) where
  abbrev pub jobs : Jobs
  jobs = from_sorted es

  live : get jobs number ≡ Some job
  live = get-sorted_at nat_cmp_total nat_cmp-IsAntisymmetric es h place number job at

  waits_there : queued_in jobs number ≡ is_queued job
  waits_there = ap (passes (λ n j. is_queued j) number) live

  pub queued-cancelled : is_queued job ≡ true → after_cancel jobs number ≡ from_sorted (take place es ++ drop (suc place) es)
  queued-cancelled queued =
      ap (λ b. cond b (remove jobs number) (modify jobs number marked)) (waits_there ∙ queued)
      ∙ sym (is_map nat_cmp_total nat_cmp-IsAntisymmetric (remove jobs number) (take place es ++ drop (suc place) es) (entries-removed nat_cmp_total nat_cmp-IsAntisymmetric es h place number job at))

  pub running-cancelled : is_queued job ≡ false → after_cancel jobs number ≡ from_sorted (slice_set es place (number, marked job))
  running-cancelled running =
      ap (λ b. cond b (remove jobs number) (modify jobs number marked)) (waits_there ∙ running)
      ∙ modify_there nat_cmp_total nat_cmp-IsAntisymmetric jobs number marked job live
      ∙ sym (is_map nat_cmp_total nat_cmp-IsAntisymmetric (insert jobs number (marked job)) (slice_set es place (number, marked job)) (entries-set nat_cmp_total nat_cmp-IsAntisymmetric es h place number job (marked job) at))
