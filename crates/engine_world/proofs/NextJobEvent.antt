-- The event NextJob.
use Rattle.std.proofs.Common.{◌≡◌, ℕ, ◌≤◌, true, false, cond, List, [], ◌∷◌, length, Some, None, Option, refl, ap, sym, subst, ◌∙◌, inl, inr, arith}
use Rattle.std.specs.Prelude.{◌⊎◌}
use Rattle.std.specs.Cmp.{nat_cmp_total}
use Rattle.std.specs.FinMap.{get, insert, nat_cmp-IsAntisymmetric}
use Rattle.std.specs.Option.{is_none}
use Rattle.std.proofs.lemmas.Bool.{and_parts}
use Rattle.cache_key.specs.declared.load_spec.LoadSpec.{LoadSpec}
use Rattle.cache_key.specs.declared.load_spec.Priority.{Priority}
use Rattle.cache_key.specs.declared.load_spec.Priority.TheVariants.{Immediate, High, Normal, Low}
use Rattle.job_table.specs.declared.jobs.Job as table
use Rattle.job_table.specs.Jobs as job_table
use Rattle.engine_world.specs.declared.events.Event.TheVariants as events
use Rattle.engine_world.specs.declared.events.NotedReply.{NotedReply}
use Rattle.engine_world.specs.declared.events.NotedReply.TheVariants as replies
use Rattle.engine_world.specs.World.{Job, Jobs, World}
use Rattle.engine_world.specs.Moves.{table_jobs, next_queued}
use Rattle.engine_world.specs.Steps.{Outcome, run_on, start_job, start_next, next_job}
use Rattle.engine_world.specs.Knowledge.{OwnJob, Knowledge, updated, knowledge_with}
use Rattle.engine_world.specs.Sound.{IsJob, facts, KnowledgeAgrees, Sound}
use Rattle.engine_world.specs.Laws.{KeepsSound}
use Rattle.engine_world.proofs.Parts.{facts_of}
use Rattle.finite_maps.specs.MapLaws.{not_Some, first_key-found}
use Rattle.engine_world.proofs.Orders.{at_each_seat}
use Rattle.engine_world.proofs.Tabled.{table_job-found}
use Rattle.engine_world.proofs.Jobs.{awaited_changed, jobs_changed, lent_changed, knows_other, knows_mine}
use Rattle.engine_world.proofs.Placing.{out_changed, places_less}
use Rattle.engine_world.proofs.QuietEvents.{from_outcome, now_known}

none_is : {A : Type 0} (o : Option A) → is_none o ≡ true → o ≡ None
none_is None e = refl
none_is (Some a) e = cc

or_else-found : (a b : Option ℕ) (n : ℕ) → job_table.or_else a b ≡ Some n → (a ≡ Some n) ⊎ (b ≡ Some n)
or_else-found None b n e = inr e
or_else-found (Some m) b n e = inl e

nil_of : {A : Type 0} (xs : List A) → length xs ≤ 0 → xs ≡ []
nil_of [] h = refl
nil_of (x ∷ xs) h = absurd (omega arith)

-- what is queued is there, on no seat
queued_at-found : (jobs : Jobs) (p : Priority) (j : ℕ) → job_table.queued_at p (table_jobs jobs) ≡ Some j → (job : Job) × (get jobs j ≡ Some job) × (job.seat ≡ None)
queued_at-found jobs p j is =
    let found = first_key-found nat_cmp_total nat_cmp-IsAntisymmetric (λ i (job : table.Job). job_table.is_queued_at p job) (table_jobs jobs) j is in
    let real = table_job-found jobs j found.0 found.1 in
    (real.0, real.1, ap (λ (job : table.Job). job.seat) real.2 ∙ none_is _ (and_parts _ _ found.2).0)

next_queued-found : (jobs : Jobs) (j : ℕ) → next_queued jobs ≡ Some j → (job : Job) × (get jobs j ≡ Some job) × (job.seat ≡ None)
next_queued-found jobs j is = elim (or_else-found (job_table.queued_at Immediate (table_jobs jobs)) _ j is) [
  | inl e ↦ queued_at-found jobs Immediate j e
  | inr is ↦ elim (or_else-found (job_table.queued_at High (table_jobs jobs)) _ j is) [
    | inl e ↦ queued_at-found jobs High j e
    | inr is ↦ elim (or_else-found (job_table.queued_at Normal (table_jobs jobs)) (job_table.queued_at Low (table_jobs jobs)) j is) [
      | inl e ↦ queued_at-found jobs Normal j e
      | inr e ↦ queued_at-found jobs Low j e
    ]
  ]
]

module _ (w : World) (known : ℕ → Knowledge) (who : ℕ) (room : LoadSpec) (s : Sound w known) (idle : (known who).job ≡ None) where
  -- what comes of it is sound
  abbrev IsKept : Outcome → Type 0
  IsKept outcome = Sound outcome.1 (knowledge_with known who (events.NextJob room) outcome.0)

  start_job_keeps : (j : ℕ) (job : Job) → get w.jobs j ≡ Some job → job.seat ≡ None → IsKept (start_job w who j (Some job))
  start_job_keeps j job at free =
      let now : Job = run_on who job in
      let is_job : IsJob w.counts.started j job = s.jobs.each j job at in
      let fresh = is_job.queued free in
      let own : OwnJob = record { number = j; spec = job.spec; takes = 0; out = []; cancelled = false } in
      let out_is : job.out ≡ [] = nil_of job.out (omega (arith, is_job.out, fresh.0)) in
      record {
        places = places_less w.loads w.jobs (insert w.jobs j now) w.resources w.cached w.pool w.pool w.next (λ b. omega (arith, out_changed w.jobs j job now b at)) s.places;
        awaited = awaited_changed w.jobs j job now at refl w.loads (λ e. e) s.awaited;
        jobs = jobs_changed w.jobs j job now at refl w.counts.started (λ e. e)
            (record { below = is_job.below; queued = λ e. absurd (not_Some (sym e)); out = is_job.out; takes = is_job.takes })
            (λ i k a is sits mine. let found = (s.known_is who).knows i a is (sits ∙ sym mine) in absurd (not_Some (sym idle ∙ found.1))) s.jobs;
        active = s.active;
        cached = s.cached;
        pool = s.pool;
        lent = lent_changed w.jobs j job now at refl (s.lent j job at) s.lent;
        resources = s.resources;
        seats = s.seats;
        known_is = at_each_seat (KnowledgeAgrees (facts_of w.loads (insert w.jobs j now) w.resources w.begun)) known who (events.NextJob room) (replies.Job j job.spec)
            (λ k ne. knows_other w.loads w.jobs w.resources w.begun j who job now at refl refl refl k (known k) ne (λ e. not_Some (sym free ∙ e)) (s.known_is k))
            (knows_mine w.loads w.jobs w.resources w.begun j who job now at refl refl refl (known who) own refl
            (record { seat = refl; spec = refl; takes = fresh.0; out = out_is; cancelled = λ e. cc })
            (λ old is. absurd (not_Some (sym idle ∙ is))) (s.known_is who));
      }

  -- nothing changes, and nothing is learned
  unchanged : (reply : NotedReply) → updated (events.NextJob room) reply (known who) ≡ known who → IsKept (reply, w)
  unchanged reply stays = now_known w known who (events.NextJob room) reply s (subst (KnowledgeAgrees (facts w) who) (sym stays) (s.known_is who))

  start_next_keeps : (next : Option ℕ) → next_queued w.jobs ≡ next → IsKept (start_next w who next)
  start_next_keeps None e = unchanged replies.Idle refl
  start_next_keeps (Some j) e =
      let found = next_queued-found w.jobs j e in
      subst (λ o. IsKept (start_job w who j o)) (sym found.1) (start_job_keeps j found.0 found.1 found.2)

  next_job_keeps : IsKept (next_job w who)
  next_job_keeps = elim w.closed as (λ closed. IsKept (cond closed (replies.Closed, w) (start_next w who (next_queued w.jobs)))) [
    | true ↦ unchanged replies.Closed refl
    | false ↦ start_next_keeps (next_queued w.jobs) refl
  ]

pub next_job_law : (room : LoadSpec) → KeepsSound (events.NextJob room)
next_job_law room w z known who reply in_range s permits step =
    from_outcome known who (events.NextJob room) reply z (next_job w who) step (next_job_keeps w known who room s permits)
