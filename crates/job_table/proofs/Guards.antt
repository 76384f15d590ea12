-- What the table of a test keeps after each of its calls, and that these may be made.
use Rattle.std.proofs.Common.{◌≡◌, ℕ, ◌+◌, ◌-◌, ◌<◌, ◌≤◌, Bool, true, false, cond, Some, None, refl, ap, sym, subst, ◌∙◌, arith}
use Rattle.std.specs.Prelude.{IsSome, is_some}
use Rattle.std.specs.declared.option.Option.{Option}
use Rattle.std.specs.Option.{option_map}
use Rattle.std.specs.Ordering.{nat_cmp}
use Rattle.std.specs.FinMap.{get, len, empty, insert, remove, len-empty, len-insert, len-remove, nat_cmp-IsAntisymmetric}
use Rattle.std.proofs.lemmas.Cmp.{nat_cmp_total}
use Rattle.cache_key.specs.Key.{Key}
use Rattle.finite_maps.specs.Maps.{modify, passes}
use Rattle.finite_maps.specs.MapLaws.{key_itself, get-modify, modify_there, modify_absent}
use Rattle.job_table.specs.declared.jobs.Job.{Job}
use Rattle.job_table.specs.Jobs.{Jobs, JobTableValue, marked, is_queued, queued_in, IsJobFor, IsNext, after_cancel}
use Rattle.job_table.specs.inside.Guarded.{HasRoom}

one_more : (b : Bool) (n : ℕ) → cond b n (n + 1) ≤ n + 1
one_more true n = omega arith
one_more false n = omega arith

no_more : (b : Bool) (n : ℕ) → cond b (n - 1) n ≤ n
no_more true n = omega arith
no_more false n = omega arith

few_added : (jobs : Jobs) (number : ℕ) (job : Job) → len (insert jobs number job) ≤ len jobs + 1
few_added jobs number job = subst (λ n. n ≤ len jobs + 1) (sym (len-insert nat_cmp_total jobs number job)) (one_more _ (len jobs))

few_removed : (jobs : Jobs) (number : ℕ) → len (remove jobs number) ≤ len jobs
few_removed jobs number = subst (λ n. n ≤ len jobs) (sym (len-remove nat_cmp_total jobs number)) (no_more _ (len jobs))

few_changed : (jobs : Jobs) (number : ℕ) (f : Job → Job) → len (modify jobs number f) ≤ len jobs
few_changed jobs number f = elim (get jobs number) as (λ x. get jobs number ≡ x → len (modify jobs number f) ≤ len jobs) [
  | None ↦ λ none.
      let same : len (modify jobs number f) ≡ len jobs = ap len (modify_absent nat_cmp_total nat_cmp-IsAntisymmetric jobs number f none) in omega (arith, same)
  | Some job ↦ λ live.
      let same : len (modify jobs number f) ≡ len jobs =
      ap len (modify_there nat_cmp_total nat_cmp-IsAntisymmetric jobs number f job live)
      ∙ len-insert nat_cmp_total jobs number (f job) ∙ ap (λ (x : Option Job). cond (is_some x) (len jobs) (len jobs + 1)) live in
      omega (arith, same)
] refl

few_cancelled : (jobs : Jobs) (number : ℕ) → len (after_cancel jobs number) ≤ len jobs
few_cancelled jobs number = elim (queued_in jobs number) as (λ b. len (cond b (remove jobs number) (modify jobs number marked)) ≤ len jobs) [
  | true ↦ few_removed jobs number
  | false ↦ few_changed jobs number marked
]

-- ---- after each call

pub room_new : (table : JobTableValue) → table ≡ record { room = 100; added = 0; jobs = empty } → HasRoom table 0
room_new table is = subst (λ (t : JobTableValue). HasRoom t 0) (sym is) (record {
  room = refl;
  few = let none : len (empty {K = ℕ} {X = Job} {R = nat_cmp}) ≡ 0 = len-empty nat_cmp Job in omega (arith, none);
  counted = refl;
  limit = omega arith;
})

module _ (table : JobTableValue) (added : ℕ) (old : HasRoom table added) where
  -- where the jobs are no more than they were
  no_more_jobs : (jobs : Jobs) (new : JobTableValue) → new ≡ record table { jobs = jobs } → len jobs ≤ len table.jobs → HasRoom new added
  no_more_jobs jobs new is fewer = subst (λ (t : JobTableValue). HasRoom t added) (sym is)
      (record { room = old.room; few = omega (arith, fewer, old.few); counted = old.counted; limit = old.limit })

  pub room_added : (job : Job) (new : JobTableValue) → added < 100
      → new ≡ record table { added = table.added + 1; jobs = insert table.jobs table.added job } → HasRoom new (added + 1)
  room_added job new fits is = subst (λ (t : JobTableValue). HasRoom t (added + 1)) (sym is)
      (record {
        room = old.room;
        few = omega (arith, few_added table.jobs table.added job, old.few);
        counted = omega (arith, old.counted);
        limit = omega (arith, fits);
      })

  pub room_changed : (number : ℕ) (f : Job → Job) (new : JobTableValue) → new ≡ record table { jobs = modify table.jobs number f } → HasRoom new added
  room_changed number f new is = no_more_jobs (modify table.jobs number f) new is (few_changed table.jobs number f)

  pub room_cancelled : (number : ℕ) (new : JobTableValue) → new ≡ record table { jobs = after_cancel table.jobs number } → HasRoom new added
  room_cancelled number new is = no_more_jobs (after_cancel table.jobs number) new is (few_cancelled table.jobs number)

  pub room_ended : (number : ℕ) (new : JobTableValue) → new ≡ record table { jobs = remove table.jobs number } → HasRoom new added
  room_ended number new is = no_more_jobs (remove table.jobs number) new is (few_removed table.jobs number)

-- ---- what may be called

pub next_is_queued : (jobs : Jobs) (number : ℕ) → IsNext jobs number → queued_in jobs number ≡ true
next_is_queued jobs number next = ap (passes (λ n job. is_queued job) number) next.live ∙ next.queued

pub found_is_live : (key : Key) (cached : Bool) (jobs : Jobs) (number : ℕ) → IsJobFor key cached jobs number → IsSome (get jobs number)
found_is_live key cached jobs number found = ap is_some found.live

some_mapped : (f : Job → Job) (x : Option Job) → is_some (option_map f x) ≡ is_some x
some_mapped f None = refl
some_mapped f (Some job) = refl

-- a running job is live after it was cancelled
pub marked_is_live : (table new : JobTableValue) (number : ℕ) → new ≡ record table { jobs = after_cancel table.jobs number }
    → queued_in table.jobs number ≡ false → IsSome (get table.jobs number) → IsSome (get new.jobs number)
marked_is_live table new number is running live =
    ap (λ (t : JobTableValue). is_some (get t.jobs number)) is
    ∙ ap (λ b. is_some (get (cond b (remove table.jobs number) (modify table.jobs number marked)) number)) running
    ∙ ap is_some (get-modify nat_cmp_total nat_cmp-IsAntisymmetric table.jobs number number marked
    ∙ ap (λ b. cond b (option_map marked (get table.jobs number)) (get table.jobs number)) (key_itself nat_cmp_total nat_cmp-IsAntisymmetric number))
    ∙ some_mapped marked (get table.jobs number) ∙ live
