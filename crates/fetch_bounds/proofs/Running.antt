-- Each job is given to a seat to run once at most: the jobs that were run, and those that are queued, were queued or started.
use Rattle.std.proofs.Common.{Bool, List, None, Option, Some, [], ap, arith, cond, eqb, false, inl, inr, refl, subst, sym, true, true≢false, ℕ, ◌++◌, ◌+◌, ◌∙◌, ◌∷◌, ◌≡◌, ◌≤◌}
use Rattle.std.proofs.lemmas.Bool.{and_parts}
use Rattle.std.specs.Cmp.{nat_cmp_total}
use Rattle.std.specs.FinMap.{get, insert, nat_cmp-IsAntisymmetric, remove}
use Rattle.std.specs.Option.{is_none, option_map}
use Rattle.std.specs.Ordering.{nat_cmp}
use Rattle.std.specs.Prelude.{not, ◌&&◌, ◌⊎◌}
use Rattle.bitmap_kind.specs.Picture.{BitmapValue}
use Rattle.bitmap_pool.specs.Pool.{pool_pick}
use Rattle.cache_key.specs.declared.load_spec.LoadSpec.{LoadSpec}
use Rattle.cache_key.specs.declared.load_spec.Priority.{Priority}
use Rattle.cache_key.specs.declared.load_spec.Priority.TheVariants.{High, Immediate, Low, Normal}
use Rattle.engine_world.specs.Knowledge.{Knowledge}
use Rattle.engine_world.specs.Moves.{active_of, cached_of, cancel_job, end_job, job_for, lend, let_go, next_queued, table_job, table_jobs, take_back, without_lent}
use Rattle.engine_world.specs.Places.{one_if}
use Rattle.engine_world.specs.Sound.{IsJob, Sound}
use Rattle.engine_world.specs.Steps.{Outcome, TakeFrom, Transition, Wanted, activate, finish, finish_cancelled, finish_kept, lent_as, load, load_by_active, load_by_cache, load_by_job, load_from_jobs, next_job, queued, quota_of, release, released, resource_of, run_on, start_job, start_next, wanted_size}
use Rattle.engine_world.specs.Worked.{lent}
use Rattle.engine_world.specs.World.{Job, Jobs, LoadState, Resource, World}
use Rattle.engine_world.specs.declared.events.Event.{Event}
use Rattle.engine_world.specs.declared.events.Lent.{Lent}
use Rattle.engine_world.specs.declared.events.Note.{Note}
use Rattle.engine_world.specs.declared.events.NotedReply.{NotedReply}
use Rattle.finite_maps.specs.MapLaws.{first_key-found, get-map_values, not_Some, remove_absent, same_Some, total-insert_new, total-insert_over, total-remove}
use Rattle.finite_maps.specs.Maps.{total}
use Rattle.load_table.specs.Loads.{holders, owned, waiting}
use Rattle.load_table.specs.declared.loads.LoadState.TheVariants.{Failed, Ready, Waiting}
use Rattle.state_machine.specs.declared.entry.Entry.{Entry}
use Rattle.fetch_bounds.proofs.Histories.{Goes, Grounds, Said}
use Rattle.engine_world.specs.KeptByMoves.{OutlastsEvictions, let_go-evicts, trim-evicts}
use Rattle.fetch_bounds.specs.Costs.{asks_source, is_started, source_run, source_runs, source_start, source_starts}
use Rattle.engine_world.specs.declared.events.Event.TheVariants as events
use Rattle.job_table.specs.Jobs as job_table
use Rattle.engine_world.specs.declared.events.NotedReply.TheVariants as replies
use Rattle.load_table.specs.declared.loads.Settle.TheVariants as settles
use Rattle.job_table.specs.declared.jobs.Job as table

-- a queued job that may ask its source
abbrev pub waits_for_source : Job → ℕ
waits_for_source job = one_if (is_none job.seat && not job.spec.cached)

-- how many there are
abbrev pub queue : Jobs → ℕ
queue jobs = total (λ j job. waits_for_source job) jobs

-- ---- maps of jobs

queue_gone : (jobs : Jobs) (j : ℕ) → queue (remove jobs j) ≤ queue jobs
queue_gone jobs j = elim (get jobs j) as (λ o. get jobs j ≡ o → queue (remove jobs j) ≤ queue jobs) [
  | None ↦ λ e. omega (arith, ap queue (remove_absent nat_cmp_total nat_cmp-IsAntisymmetric jobs j e))
  | Some job ↦ λ e. let all : queue jobs ≡ waits_for_source job + queue (remove jobs j) = total-remove nat_cmp_total nat_cmp-IsAntisymmetric (λ i (a : Job). waits_for_source a) jobs j job e in omega (arith, all)
] refl

queue_changed : (jobs : Jobs) (j : ℕ) (job now : Job) → get jobs j ≡ Some job → queue (insert jobs j now) + waits_for_source job ≡ queue jobs + waits_for_source now
queue_changed jobs j job now e = total-insert_over nat_cmp_total nat_cmp-IsAntisymmetric (λ i (a : Job). waits_for_source a) jobs j job now e

queue_new : (jobs : Jobs) (j : ℕ) (now : Job) → get jobs j ≡ None → queue (insert jobs j now) ≡ waits_for_source now + queue jobs
queue_new jobs j now e = total-insert_new nat_cmp_total nat_cmp-IsAntisymmetric (λ i (a : Job). waits_for_source a) jobs j now e

none_is : {A : Type 0} (o : Option A) → is_none o ≡ true → o ≡ None
none_is None e = refl
none_is (Some a) e = absurd (true≢false (sym e))

-- what is next is queued
or_else-found : (a b : Option ℕ) (n : ℕ) → job_table.or_else a b ≡ Some n → (a ≡ Some n) ⊎ (b ≡ Some n)
or_else-found None b n e = inr e
or_else-found (Some m) b n e = inl e

table_seat : (o : Option Job) (found : table.Job) → option_map table_job o ≡ Some found → is_none found.seat ≡ true → (job : Job) × (o ≡ Some job) × (job.seat ≡ None)
table_seat None found e none = absurd (not_Some e)
table_seat (Some job) found e none = (job, refl, none_is _ (ap (λ (f : table.Job). is_none f.seat) (same_Some _ _ e) ∙ none))

queued_at-found : (jobs : Jobs) (priority : Priority) (j : ℕ) → job_table.queued_at priority (table_jobs jobs) ≡ Some j → (job : Job) × (get jobs j ≡ Some job) × (job.seat ≡ None)
queued_at-found jobs priority j is =
    let found = first_key-found nat_cmp_total nat_cmp-IsAntisymmetric (λ i (job : table.Job). job_table.is_queued_at priority job) (table_jobs jobs) j is in
    table_seat (get jobs j) found.0 (sym (get-map_values nat_cmp table_job jobs j) ∙ found.1) (and_parts _ _ found.2).0

next_queued-found : (jobs : Jobs) (j : ℕ) → next_queued jobs ≡ Some j → (job : Job) × (get jobs j ≡ Some job) × (job.seat ≡ None)
next_queued-found jobs j is =
    let at_priority : Priority → Option ℕ = λ priority. job_table.queued_at priority (table_jobs jobs) in
    elim (or_else-found (at_priority Immediate) (job_table.or_else (at_priority High) (job_table.or_else (at_priority Normal) (at_priority Low))) j is) [
      | inl e ↦ queued_at-found jobs Immediate j e
      | inr is ↦ elim (or_else-found (at_priority High) (job_table.or_else (at_priority Normal) (at_priority Low)) j is) [
        | inl e ↦ queued_at-found jobs High j e
        | inr is ↦ elim (or_else-found (at_priority Normal) (at_priority Low) j is) [
          | inl e ↦ queued_at-found jobs Normal j e
          | inr e ↦ queued_at-found jobs Low j e
        ]
      ]
    ]

module _ (w : World) where
  -- A state queues no more.
  abbrev Fewer : World → Type 0
  Fewer v = queue v.jobs ≤ queue w.jobs

  evictions : OutlastsEvictions Fewer
  evictions = record { resources = λ v r h. h; active = λ v a h. h; cached = λ v c h. h; pool = λ v p h. h }

  cancel_job-fewer : (j : ℕ) (o : Option Job) (v : World) → get v.jobs j ≡ o → Fewer v → Fewer (cancel_job j o v)
  cancel_job-fewer j None v e h = h
  cancel_job-fewer j (Some job) v e h = elim (is_none job.seat) as (λ t. Fewer (cond t (record v { jobs = remove v.jobs j }) (record v { jobs = insert v.jobs j (record job { cancelled = true }) }))) [
    | true ↦ omega (arith, h, queue_gone v.jobs j)
    | false ↦ omega (arith, h, queue_changed v.jobs j job (record job { cancelled = true }) e)
  ]

  released-fewer : (state : LoadState) (v : World) → Fewer v → Fewer (released state v)
  released-fewer (Waiting j) v h = elim (eqb (waiting j v.loads) 0) as (λ t. Fewer (cond t (cancel_job j (get v.jobs j) v) v)) [ true ↦ cancel_job-fewer j (get v.jobs j) v refl h | false ↦ h ]
  released-fewer (Ready r) v h = elim (eqb (holders r v.loads) 0) as (λ t. Fewer (cond t (let_go r v) v)) [ true ↦ let_go-evicts Fewer evictions r v h | false ↦ h ]
  released-fewer (Failed cause) v h = h

  release-fewer : (who n : ℕ) (o : Option LoadState) → Fewer (release w who n o)
  release-fewer who n None = omega arith
  release-fewer who n (Some state) = released-fewer state (record w { loads = remove w.loads (who, n) }) (omega arith)

  lend-fewer : (j : ℕ) (o : Option Job) (lent : Lent) (v : World) → get v.jobs j ≡ o → Fewer v → Fewer (lend j o lent v)
  lend-fewer j None lent v e h = h
  lend-fewer j (Some job) lent v e h = omega (arith, h, queue_changed v.jobs j job (record job { takes = job.takes + 1; out = job.out ++ lent ∷ [] }) e)

  take_back-fewer : (j : ℕ) (o : Option Job) (b : ℕ) → get w.jobs j ≡ o → Fewer (take_back j o b w)
  take_back-fewer j None b e = omega arith
  take_back-fewer j (Some job) b e = omega (arith, queue_changed w.jobs j job (record job { out = without_lent b job.out }) e)

  kept-fewer : (j : ℕ) (cacheable : Bool) (r : ℕ) (made : Resource) → Fewer (end_job j (settles.Ready r) (record (activate cacheable r made w) { resources = insert w.resources r made }))
  kept-fewer j true r made = queue_gone w.jobs j
  kept-fewer j false r made = queue_gone w.jobs j

  finish-fewer : (j : ℕ) (bitmap : BitmapValue) (o : Option Job) → Fewer (finish w j o bitmap).1
  finish-fewer j bitmap None = omega arith
  finish-fewer j bitmap (Some job) = elim job.cancelled as (λ t. Fewer (cond t (finish_cancelled w j bitmap) (finish_kept w j job bitmap)).1) [
    | true ↦ queue_gone w.jobs j
    | false ↦ kept-fewer j (not job.spec.skip) bitmap.number (resource_of job bitmap)
  ]

  take_from-fewer : (wanted : Wanted) (v z : World) → Fewer v → (reply : NotedReply) (found : Option Lent) → TakeFrom wanted v found reply z → Fewer z
  take_from-fewer wanted v z h reply (Some lent) step = subst Fewer (sym step.1) (lend-fewer wanted.job (get v.jobs wanted.job) lent _ refl h)
  take_from-fewer wanted v z h reply None step = elim step [
    | inl step ↦ subst Fewer (sym step.1) (lend-fewer wanted.job (get v.jobs wanted.job) _ _ refl h)
    | inr step ↦ subst Fewer (sym step.1) h
  ]

  -- ---- Load

  -- What a load queues, it has started.
  abbrev Queues : LoadSpec → Outcome → Type 0
  Queues spec o = queue o.1.jobs ≤ queue w.jobs + one_if (not spec.cached && is_started o.0)

  module _ (fresh : get w.jobs w.counts.started ≡ None) (who : ℕ) (spec : LoadSpec) where
    by_job : (o : Option ℕ) → Queues spec (load_by_job w who spec o)
    by_job None =
        let jobs : Jobs = insert w.jobs w.counts.started (queued spec) in
        let new : queue jobs ≡ one_if (not spec.cached) + queue w.jobs = queue_new w.jobs w.counts.started (queued spec) fresh in
        elim (not spec.cached) as (λ t. queue jobs ≡ one_if t + queue w.jobs → queue jobs ≤ queue w.jobs + one_if (t && true)) [
          | true ↦ λ h. omega (arith, h)
          | false ↦ λ h. omega (arith, h)
        ] new
    by_job (Some j) = omega arith

    by_cache : (o : Option ℕ) → Queues spec (load_by_cache w who spec o)
    by_cache None = by_job (job_for w.jobs spec.key spec.cached)
    by_cache (Some r) = omega arith

    by_active : (o : Option ℕ) → Queues spec (load_by_active w who spec o)
    by_active None = by_cache (cached_of w.resources w.cached spec.key)
    by_active (Some r) = omega arith

    load_queues : Queues spec (load w who spec)
    load_queues =
        let rest : Bool → Outcome = λ t. cond t (load_from_jobs w who spec) (load_by_active w who spec (active_of w.resources w.active spec.key)) in
        elim (eqb (owned who w.loads) (quota_of w who)) as (λ t. Queues spec (cond t (replies.Full, w) (rest spec.skip))) [
          | true ↦ omega arith
          | false ↦ elim spec.skip as (λ t. Queues spec (rest t)) [
            | true ↦ by_job (job_for w.jobs spec.key spec.cached)
            | false ↦ by_active (active_of w.resources w.active spec.key)
          ]
        ]

  -- ---- NextJob

  -- A job that is given to a seat was queued.
  abbrev Gives : Outcome → Type 0
  Gives o = asks_source o.0 + queue o.1.jobs ≤ queue w.jobs

  start_job-gives : (who j : ℕ) (o : Option Job) → get w.jobs j ≡ o → ((job : Job) → o ≡ Some job → job.seat ≡ None) → Gives (start_job w who j o)
  start_job-gives who j None e is_queued = omega arith
  start_job-gives who j (Some job) e is_queued =
      let changed : queue (insert w.jobs j (run_on who job)) + waits_for_source job ≡ queue w.jobs + waits_for_source (run_on who job) = queue_changed w.jobs j job (run_on who job) e in
      let was : waits_for_source job ≡ one_if (not job.spec.cached) = ap (λ s. one_if (is_none s && not job.spec.cached)) (is_queued job refl) in
      omega (arith, changed, was)

  start_next-gives : (who : ℕ) (o : Option ℕ) → next_queued w.jobs ≡ o → Gives (start_next w who o)
  start_next-gives who None e = omega arith
  start_next-gives who (Some j) e =
      let found = next_queued-found w.jobs j e in
      start_job-gives who j (get w.jobs j) refl (λ job at. ap (λ (a : Job). a.seat) (same_Some _ _ (sym at ∙ found.1)) ∙ found.2)

  next_job-gives : (who : ℕ) → Gives (next_job w who)
  next_job-gives who = elim w.closed as (λ t. Gives (cond t (replies.Closed, w) (start_next w who (next_queued w.jobs)))) [
    | true ↦ omega arith
    | false ↦ start_next-gives who (next_queued w.jobs) refl
  ]

  -- ---- all events

  same : (z v : World) → z ≡ v → Fewer v → Fewer z
  same z v e h = subst Fewer (sym e) h

  run_law : (z : World) (who : ℕ) (event : Event) (reply : NotedReply) → get w.jobs w.counts.started ≡ None → Transition w who event reply z
      → source_run event reply + queue z.jobs ≤ queue w.jobs + source_start event reply
  run_law z who (events.Load spec) reply fresh step =
      let all : Queues spec (load w who spec) = load_queues fresh who spec in
      omega (arith, all, ap (λ (v : World). queue v.jobs) step.1, ap (λ r. one_if (not spec.cached && is_started r)) step.0)
  run_law z who (events.NextJob room) reply fresh step =
      let all : Gives (next_job w who) = next_job-gives who in
      omega (arith, all, ap (λ (v : World). queue v.jobs) step.1, ap asks_source step.0)
  run_law z who (events.Release n) reply fresh step = omega (arith, same z _ step.1 (release-fewer who n (get w.loads (who, n))))
  run_law z who (events.Take j width height config) reply fresh step =
      let wanted : Wanted = record { job = j; width = width; height = height; config = config } in
      let picked = pool_pick config (wanted_size wanted) w.pool in
      omega (arith, take_from-fewer wanted (record w { pool = picked.groups }) z (omega arith) reply (option_map (λ b. lent_as wanted b picked.size) picked.found) step)
  run_law z who (events.GiveBack j bitmap) reply fresh step = omega (arith, same z _ step.1 (take_back-fewer j (get w.jobs j) bitmap.number refl))
  run_law z who (events.Finish j bitmap) reply fresh step = omega (arith, same z _ step.1 (finish-fewer j bitmap (get w.jobs j)))
  run_law z who (events.Fail j cause) reply fresh step = omega (arith, same z _ step.1 (queue_gone w.jobs j))
  run_law z who (events.Quit j) reply fresh step = omega (arith, same z _ step.1 (queue_gone w.jobs j))
  run_law z who (events.Trim level) reply fresh step = omega (arith, same z _ step.1 (trim-evicts Fewer evictions level w (omega arith)))
  run_law z who event reply fresh step = omega (arith, same z _ step.1 (omega arith))

-- sound states have given no job the next number
unused : (w : World) (known : ℕ → Knowledge) → Sound w known → get w.jobs w.counts.started ≡ None
unused w known s = elim (get w.jobs w.counts.started) as (λ o. get w.jobs w.counts.started ≡ o → o ≡ None) [
  | None ↦ λ e. refl
  | Some old ↦ λ e. let is : IsJob w.counts.started w.counts.started old = s.jobs.each w.counts.started old e in absurd (omega (arith, is.below))
] refl

pub runs_are_started : (g : Grounds) (P : Said) (es : List (Entry Note)) (w z : World) (known : ℕ → Knowledge) → Sound w known → Goes P w known es z → source_runs es ≤ queue w.jobs + source_starts es
runs_are_started g P [] w z known s goes = omega arith
runs_are_started g P (e ∷ es) w z known s goes =
    let next = g.keeps_sound e.note.event w goes.0 known e.by e.note.reply goes.2 s goes.3 goes.1 in
    omega (arith, run_law w goes.0 e.by e.note.event e.note.reply (unused w known s) goes.1, runs_are_started g P es goes.0 z _ next goes.5)
