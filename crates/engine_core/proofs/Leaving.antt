-- A job on which no load waits any more, in the table and in the world.
use Rattle.std.proofs.Common.{◌≡◌, ℕ, true, false, cond, [], length, Some, None, refl, ap, sym, ◌∙◌, arith}
use Rattle.std.specs.Option.{is_none}
use Rattle.std.specs.FinMap.{get, insert, remove, nat_cmp-IsAntisymmetric}
use Rattle.std.proofs.lemmas.Cmp.{nat_cmp_total}
use Rattle.finite_maps.specs.Maps.{total, modify, passes}
use Rattle.finite_maps.specs.MapLaws.{modify_there}
use Rattle.job_table.specs.Jobs.{queued_in, after_cancel, marked, is_queued}
use Rattle.engine_world.specs.World.{Job, Jobs, World}
use Rattle.engine_world.specs.Moves.{table_job, table_jobs, cancel_job}
use Rattle.engine_core.specs.LiveJobs.{left, left_by}
use Rattle.engine_core.proofs.MovedMaps.{moved_there, moved_modify}
use Rattle.engine_core.proofs.Joins.{jobs_ended, out_ended, out_changed}

-- a cancelled job
abbrev pub cancelled : Job → Job
cancelled job = record job { cancelled = true }

module _ (m : Jobs) (j : ℕ) (job : Job) (is : get m j ≡ Some job) where
  left_at : left m j ≡ cond (is_none job.seat) (remove m j) (insert m j (cancelled job))
  left_at = ap (λ o. left_by o j m) is

  queued_at : queued_in (table_jobs m) j ≡ is_none job.seat
  queued_at = ap (passes (λ n job. is_queued job) j) (moved_there nat_cmp_total nat_cmp-IsAntisymmetric table_job m j job is)

  -- the table does the same
  pub left_in_table : after_cancel (table_jobs m) j ≡ table_jobs (left m j)
  left_in_table =
      ap (λ b. cond b (remove (table_jobs m) j) (modify (table_jobs m) j marked)) queued_at
      ∙ elim (is_none job.seat) as (λ b. cond b (remove (table_jobs m) j) (modify (table_jobs m) j marked) ≡ table_jobs (cond b (remove m j) (insert m j (cancelled job)))) [
        | true ↦ jobs_ended m j
        | false ↦ sym (ap table_jobs (sym (modify_there nat_cmp_total nat_cmp-IsAntisymmetric m j cancelled job is))
            ∙ moved_modify nat_cmp_total nat_cmp-IsAntisymmetric table_job m j job cancelled marked is refl)
      ]
      ∙ ap table_jobs (sym left_at)

  -- and as many bitmaps are out
  pub left_out : (job.seat ≡ None → job.out ≡ []) → total (λ j job. length job.out) m ≡ total (λ j job. length job.out) (left m j)
  left_out none =
      elim job.seat as (λ seat. job.seat ≡ seat → total (λ j job. length job.out) m ≡ total (λ j job. length job.out) (cond (is_none seat) (remove m j) (insert m j (cancelled job)))) [
        | None ↦ λ at. out_ended m j job is (none at)
        | Some who ↦ λ at.
            let changed = out_changed m j job cancelled is in
            let same : total (λ (j : ℕ) (job : Job). length job.out) m ≡ total (λ (j : ℕ) (job : Job). length job.out) (modify m j cancelled) = omega (arith, changed) in
            same ∙ ap (λ (n : Jobs). total (λ j job. length job.out) n) (modify_there nat_cmp_total nat_cmp-IsAntisymmetric m j cancelled job is)
      ] refl
      ∙ ap (λ (n : Jobs). total (λ j job. length job.out) n) (sym left_at)

-- in the world
pub left_is : (w : World) (j : ℕ) (job : Job) → get w.jobs j ≡ Some job → record w { jobs = left w.jobs j } ≡ cancel_job j (get w.jobs j) w
left_is w j job is =
    ap (λ (v : Jobs). record w { jobs = v }) (left_at w.jobs j job is)
    ∙ elim (is_none job.seat) as (λ b. record w { jobs = cond b (remove w.jobs j) (insert w.jobs j (cancelled job)) } ≡ cond b (record w { jobs = remove w.jobs j }) (record w { jobs = insert w.jobs j (cancelled job) })) [
      | true ↦ refl
      | false ↦ refl
    ]
    ∙ sym (ap (λ o. cancel_job j o w) is)
