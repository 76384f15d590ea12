-- Counts, loads and jobs keep to their limits through each event.
use Rattle.std.proofs.Common.{◌≡◌, ◌≢◌, ℕ, ◌+◌, ◌-◌, ◌*◌, ◌<◌, ◌≤◌, Bool, true, false, cond, eqb, List, [], ◌∷◌, length, Some, None, Option, refl, ap, sym, subst, ◌∙◌, inl, inr, arith}
use Rattle.std.specs.Prelude.{zero, suc, ◌++◌, not, slice_set, slice_index_or, sum_by}
use Rattle.std.specs.Option.{option_map, is_none}
use Rattle.std.specs.Ordering.{nat_cmp}
use Rattle.std.specs.Cmp.{nat_cmp_total}
use Rattle.std.specs.FinMap.{get, insert, remove, empty, entries, get-empty, len-empty, len-entries, nat_cmp-IsAntisymmetric}
use Rattle.std.specs.FinSet as set
use Rattle.std.proofs.lemmas.Bool.{eqb-false}
use Rattle.std.proofs.lemmas.List.{get_or-set_same, get_or-set_other, nil_from_length}
use Rattle.std.proofs.lemmas.List.Sums.{sum_by-set}
use Rattle.bitmap_kind.specs.Picture.{BitmapValue, stored_size}
use Rattle.cache_key.specs.declared.load_spec.LoadSpec.{LoadSpec}
use Rattle.finite_maps.specs.Maps.{sum_over, total, map_values}
use Rattle.finite_maps.specs.MapLaws.{not_Some, same_Some, total-remove, total-insert_new, total-insert_over, remove_absent, total-map_values}
use Rattle.load_cause.specs.declared.causes.Cause.{Cause}
use Rattle.load_table.specs.declared.loads.LoadState.TheVariants.{Waiting, Ready, Failed}
use Rattle.load_table.specs.declared.loads.Settle.{Settle}
use Rattle.load_table.specs.declared.loads.Settle.TheVariants as settles
use Rattle.load_table.specs.Loads.{LoadName, load_cmp, settled, waiting, holders, owned}
use Rattle.load_table.specs.LoadOrder.{load_total, load_same}
use Rattle.active_resources.specs.Actives.{Numbers}
use Rattle.bitmap_pool.specs.Pool.{Group, pool_pick}
use Rattle.engine_world.specs.declared.events.Event.{Event}
use Rattle.engine_world.specs.declared.events.Event.TheVariants as events
use Rattle.engine_world.specs.declared.events.NotedReply.{NotedReply}
use Rattle.engine_world.specs.declared.events.NotedReply.TheVariants as replies
use Rattle.engine_world.specs.declared.events.Lent.{Lent}
use Rattle.engine_world.specs.World.{LoadState, Job, Jobs, Resource, Counts, Limits, World, none_begun}
use Rattle.engine_world.specs.Places.{one_if}
use Rattle.engine_world.specs.Moves.{active_of, cached_of, job_for, next_queued, without, let_go, begun_by, add_load, end_job, cancel_job, lend, take_back, without_lent}
use Rattle.engine_world.specs.Steps.{Outcome, quota_of, queued, load_starting, load_by_job, load_from_jobs, load_by_cache, load_by_active, load, released, release, run_on, start_job, start_next, next_job, Wanted, wanted_size, lent_as, TakeFrom, activate, resource_of, finish_kept, finish_cancelled, finish, trim}
use Rattle.engine_world.specs.Knowledge.{Knowledge}
use Rattle.engine_world.specs.Permits.{load_limit}
use Rattle.engine_world.specs.Sound.{IsJob, Sound}
use Rattle.engine_world.specs.Rooms.{takes_left, WithinLimits}
use Rattle.engine_world.specs.RoomLaws.{KeepsLimits, OpensWithinLimits}
use Rattle.engine_world.proofs.Loads.{next_is_new, live_added}
use Rattle.engine_world.proofs.TakeEvent.{Runs, runs}
use Rattle.engine_world.specs.KeptByMoves.{OutlastsEvictions, let_go-evicts, trim-evicts}
use Rattle.engine_world.specs.OccurrenceLaws.{one_if_same, one_if_other}
use Rattle.engine_world.specs.NumberLaws.{number_cases, put_cases, gone_found}

-- ---- jobs

-- Each job that runs does so on a seat that there is.
abbrev SeatsAre : ℕ → Jobs → Type 0
SeatsAre n jobs = (j who : ℕ) (job : Job) → get jobs j ≡ Some job → job.seat ≡ Some who → who < n

-- Jobs take no more than they might before, and sit on seats that there are.
record JobsStay (n : ℕ) (jobs jobs' : Jobs) : Type 0 where
  left : takes_left jobs' ≤ takes_left jobs
  seats : SeatsAre n jobs'

jobs_same : (n : ℕ) (jobs : Jobs) → SeatsAre n jobs → JobsStay n jobs jobs
jobs_same n jobs sit = record { left = omega arith; seats = sit }

jobs_gone : (n : ℕ) (jobs : Jobs) (j : ℕ) → SeatsAre n jobs → JobsStay n jobs (remove jobs j)
jobs_gone n jobs j sit = record {
  left = elim (get jobs j) as (λ o. get jobs j ≡ o → takes_left (remove jobs j) ≤ takes_left jobs) [
    | None ↦ λ e. omega (arith, ap takes_left (remove_absent nat_cmp_total nat_cmp-IsAntisymmetric jobs j e))
    | Some job ↦ λ e. omega (arith, total-remove nat_cmp_total nat_cmp-IsAntisymmetric (λ i (a : Job). 2 - a.takes) jobs j job e)
  ] refl;
  seats = λ i who a at. sit i who a (gone_found jobs j i a at).1;
}

jobs_put : (n : ℕ) (jobs : Jobs) (j : ℕ) (job now : Job) → get jobs j ≡ Some job → job.takes ≤ now.takes → ((who : ℕ) → now.seat ≡ Some who → who < n) → SeatsAre n jobs → JobsStay n jobs (insert jobs j now)
jobs_put n jobs j job now is takes mine sit = record {
  left = let changed : takes_left (insert jobs j now) + (2 - job.takes) ≡ takes_left jobs + (2 - now.takes) = total-insert_over nat_cmp_total nat_cmp-IsAntisymmetric (λ i (a : Job). 2 - a.takes) jobs j job now is in omega (arith, changed, takes);
  seats = λ i who a at sits. elim (put_cases jobs j now i a at) [
    | inl h ↦ mine who (ap (λ (b : Job). b.seat) h.1 ∙ sits)
    | inr h ↦ sit i who a h.1 sits
  ];
}

module _ (w : World) (l : WithinLimits w) where
  abbrev seats : ℕ
  seats = length w.limits.quotas

  -- A state has what is counted of this one, and no loads or takes more.
  record Stays (v : World) : Type 0 where
    counts : v.counts ≡ w.counts
    next : v.next ≡ w.next
    begun : v.begun ≡ w.begun
    limits : v.limits ≡ w.limits
    owned : (who : ℕ) → owned who v.loads ≤ owned who w.loads
    jobs : JobsStay seats w.jobs v.jobs

  stays_within : (v : World) → Stays v → WithinLimits v
  stays_within v h = record {
    begun = ap (λ (c : Counts). c.loads) h.counts ∙ l.begun ∙ ap (λ b. sum_by (λ n. n) b) (sym h.begun);
    each_begun = λ who. omega (arith, ap (λ b. slice_index_or b who 0) h.begun, l.each_begun who);
    answered = subst (λ (c : Counts). c.loads ≡ c.active + c.memory + c.joined + c.started) (sym h.counts) l.answered;
    given = omega (arith, l.given, ap (λ (c : Counts). c.takes) h.counts, ap (λ (c : Counts). c.reused) h.counts, h.next);
    takes = omega (arith, l.takes, ap (λ (c : Counts). c.takes) h.counts, ap (λ (c : Counts). c.started) h.counts, h.jobs.left);
    quotas = λ who. omega (arith, h.owned who, l.quotas who, ap (λ (m : Limits). slice_index_or m.quotas who 0) h.limits);
    seats = λ j who job at sits. omega (arith, h.jobs.seats j who job at sits, ap (λ (m : Limits). length m.quotas) h.limits);
  }

  unchanged : Stays w
  unchanged = record { counts = refl; next = refl; begun = refl; limits = refl; owned = λ who. omega arith; jobs = jobs_same seats w.jobs l.seats }

  at_state : (z v : World) → z ≡ v → WithinLimits v → WithinLimits z
  at_state z v e h = subst WithinLimits (sym e) h

  -- ---- loads that go

  owned_left : (name : LoadName) (state : LoadState) → get w.loads name ≡ Some state → (who : ℕ) → owned who (remove w.loads name) ≤ owned who w.loads
  owned_left name state at who = omega (arith, total-remove load_total load_same (λ (n : LoadName) (s : LoadState). one_if (eqb n.0 who)) w.loads name state at)

  owned_settled : (j : ℕ) (to : Settle Cause) (who : ℕ) → owned who (map_values (settled j to) w.loads) ≡ owned who w.loads
  owned_settled j to who = total-map_values load_cmp (settled j to) (λ (n : LoadName) (s : LoadState). one_if (eqb n.0 who)) w.loads

  -- ---- what evictions leave as it is

  abbrev Evicted : World → World → Type 0
  Evicted u v = (v.counts ≡ u.counts) × (v.next ≡ u.next) × (v.begun ≡ u.begun) × (v.limits ≡ u.limits) × (v.loads ≡ u.loads) × (v.jobs ≡ u.jobs)

  evicted : (u : World) → OutlastsEvictions (Evicted u)
  evicted u = record { resources = λ v r h. h; active = λ v a h. h; cached = λ v c h. h; pool = λ v p h. h }

  evicted_stays : (u v : World) → Evicted u v → Stays u → Stays v
  evicted_stays u v h s = record {
    counts = h.0 ∙ s.counts;
    next = h.1 ∙ s.next;
    begun = h.2 ∙ s.begun;
    limits = h.3 ∙ s.limits;
    owned = λ who. omega (arith, ap (owned who) h.4, s.owned who);
    jobs = subst (JobsStay seats w.jobs) (sym h.5) s.jobs;
  }

  -- ---- release

  cancel_stays : (j : ℕ) (found : Option Job) (v : World) → v.jobs ≡ w.jobs → get w.jobs j ≡ found → Stays v → Stays (cancel_job j found v)
  cancel_stays j None v same is s = s
  cancel_stays j (Some job) v same is s = elim (is_none job.seat) as (λ t. Stays (cond t (record v { jobs = remove v.jobs j }) (record v { jobs = insert v.jobs j (record job { cancelled = true }) }))) [
    | true ↦ record {
      counts = s.counts;
      next = s.next;
      begun = s.begun;
      limits = s.limits;
      owned = s.owned;
      jobs = subst (λ m. JobsStay seats w.jobs (remove m j)) (sym same) (jobs_gone seats w.jobs j l.seats);
    }
    | false ↦ record {
      counts = s.counts;
      next = s.next;
      begun = s.begun;
      limits = s.limits;
      owned = s.owned;
      jobs = subst (λ m. JobsStay seats w.jobs (insert m j (record job { cancelled = true }))) (sym same) (jobs_put seats w.jobs j job (record job { cancelled = true }) is (omega arith) (λ who sits. l.seats j who job is sits) l.seats);
    }
  ]

  released_stays : (state : LoadState) (v : World) → v.jobs ≡ w.jobs → Stays v → Stays (released state v)
  released_stays (Waiting j) v same s = elim (eqb (waiting j v.loads) 0) as (λ t. Stays (cond t (cancel_job j (get v.jobs j) v) v)) [
    | true ↦ cancel_stays j (get v.jobs j) v same (ap (λ m. get m j) (sym same)) s
    | false ↦ s
  ]
  released_stays (Ready r) v same s = elim (eqb (holders r v.loads) 0) as (λ t. Stays (cond t (let_go r v) v)) [
    | true ↦ evicted_stays v (let_go r v) (let_go-evicts (Evicted v) (evicted v) r v (refl, refl, refl, refl, refl, refl)) s
    | false ↦ s
  ]
  released_stays (Failed cause) v same s = s

  release_stays : (who n : ℕ) (found : Option LoadState) → get w.loads (who, n) ≡ found → Stays (release w who n found)
  release_stays who n None at = unchanged
  release_stays who n (Some state) at = released_stays state (record w { loads = remove w.loads (who, n) }) refl
      (record { counts = refl; next = refl; begun = refl; limits = refl; owned = owned_left (who, n) state at; jobs = jobs_same seats w.jobs l.seats })

  -- ---- jobs that run, give back and end

  start_stays : (who j : ℕ) (found : Option Job) → who < seats → get w.jobs j ≡ found → Stays (start_job w who j found).1
  start_stays who j None in_range is = unchanged
  start_stays who j (Some job) in_range is = record {
    counts = refl;
    next = refl;
    begun = refl;
    limits = refl;
    owned = λ k. omega arith;
    jobs = jobs_put seats w.jobs j job (run_on who job) is (omega arith) (λ k sits. omega (arith, in_range, same_Some _ _ sits)) l.seats;
  }

  start_next_stays : (who : ℕ) (found : Option ℕ) → who < seats → Stays (start_next w who found).1
  start_next_stays who None in_range = unchanged
  start_next_stays who (Some j) in_range = start_stays who j (get w.jobs j) in_range refl

  next_job_stays : (who : ℕ) → who < seats → Stays (next_job w who).1
  next_job_stays who in_range = elim w.closed as (λ t. Stays (cond t (replies.Closed, w) (start_next w who (next_queued w.jobs))).1) [
    | true ↦ unchanged
    | false ↦ start_next_stays who (next_queued w.jobs) in_range
  ]

  take_back_stays : (j b : ℕ) (found : Option Job) → get w.jobs j ≡ found → Stays (take_back j found b w)
  take_back_stays j b None is = unchanged
  take_back_stays j b (Some job) is = record {
    counts = refl;
    next = refl;
    begun = refl;
    limits = refl;
    owned = λ k. omega arith;
    jobs = jobs_put seats w.jobs j job (record job { out = without_lent b job.out }) is (omega arith) (λ k sits. l.seats j k job is sits) l.seats;
  }

  ended_stays : (j : ℕ) (v : World) → v.counts ≡ w.counts → v.next ≡ w.next → v.begun ≡ w.begun → v.limits ≡ w.limits → ((who : ℕ) → owned who v.loads ≡ owned who w.loads) → v.jobs ≡ remove w.jobs j → Stays v
  ended_stays j v counts next begun limits own jobs = record {
    counts = counts;
    next = next;
    begun = begun;
    limits = limits;
    owned = λ k. omega (arith, own k);
    jobs = subst (JobsStay seats w.jobs) (sym jobs) (jobs_gone seats w.jobs j l.seats);
  }

  kept_stays : (t : Bool) (j : ℕ) (r : ℕ) (resource a : Resource) → Stays (end_job j (settles.Ready r) (record (activate t r a w) { resources = insert w.resources r resource }))
  kept_stays true j r resource a = ended_stays j _ refl refl refl refl (owned_settled j (settles.Ready r)) refl
  kept_stays false j r resource a = ended_stays j _ refl refl refl refl (owned_settled j (settles.Ready r)) refl

  finish_stays : (j : ℕ) (found : Option Job) (bitmap : BitmapValue) → Stays (finish w j found bitmap).1
  finish_stays j None bitmap = unchanged
  finish_stays j (Some job) bitmap = elim job.cancelled as (λ t. Stays (cond t (finish_cancelled w j bitmap) (finish_kept w j job bitmap)).1) [
    | true ↦ ended_stays j (finish_cancelled w j bitmap).1 refl refl refl refl (λ who. refl) refl
    | false ↦ kept_stays (not job.spec.skip) j bitmap.number (resource_of job bitmap) (resource_of job bitmap)
  ]

  -- ---- load

  module _ (who : ℕ) (in_range : who < length w.begun) (permitted : begun_by w who < load_limit) (new : get w.loads (who, begun_by w who) ≡ None) (room : owned who w.loads < quota_of w who) where
    -- a load more, with jobs, active and cached resources, and counts as given
    added_within : (state : LoadState) (jobs : Jobs) (active : Numbers) (cached : List ℕ) (counts : Counts)
        → counts.loads ≡ w.counts.loads → counts.loads + 1 ≡ counts.active + counts.memory + counts.joined + counts.started → counts.takes ≡ w.counts.takes → counts.reused ≡ w.counts.reused
        → counts.takes + takes_left jobs ≤ 2 * counts.started → SeatsAre seats jobs
        → WithinLimits (add_load who state (record w { jobs = jobs; active = active; cached = cached; counts = counts }))
    added_within state jobs active cached counts loads sums takes reused left sit = record {
      begun = let set_is : sum_by (λ n. n) (slice_set w.begun who (begun_by w who + 1)) + begun_by w who ≡ sum_by (λ n. n) w.begun + (begun_by w who + 1) = sum_by-set (λ n. n) w.begun who (begun_by w who + 1) 0 in_range in
          omega (arith, set_is, l.begun, loads);
      each_begun = λ k. elim (number_cases k who) [
        | inl same ↦ let is : slice_index_or (slice_set w.begun who (begun_by w who + 1)) k 0 ≡ begun_by w who + 1 = ap (λ i. slice_index_or (slice_set w.begun who (begun_by w who + 1)) i 0) same ∙ get_or-set_same w.begun who (begun_by w who + 1) 0 in_range in
            omega (arith, is, permitted)
        | inr ne ↦ let is : slice_index_or (slice_set w.begun who (begun_by w who + 1)) k 0 ≡ slice_index_or w.begun k 0 = get_or-set_other w.begun who k (begun_by w who + 1) 0 ne in
            omega (arith, is, l.each_begun k)
      ];
      answered = sums;
      given = omega (arith, l.given, takes, reused);
      takes = left;
      quotas = λ k. elim (number_cases who k) [
        | inl same ↦
            let one : one_if (eqb who k) ≡ 1 = ap (λ i. one_if (eqb who i)) (sym same) ∙ one_if_same who in
            let mine : owned k w.loads < quota_of w k = subst (λ i. owned i w.loads < quota_of w i) same room in
            omega (arith, live_added w.loads (who, begun_by w who) state new k, one, mine)
        | inr ne ↦ omega (arith, live_added w.loads (who, begun_by w who) state new k, one_if_other who k ne, l.quotas k)
      ];
      seats = sit;
    }

    same_jobs : (counts : Counts) → counts.takes ≡ w.counts.takes → counts.started ≡ w.counts.started → counts.takes + takes_left w.jobs ≤ 2 * counts.started
    same_jobs counts takes started = omega (arith, l.takes, takes, started)

    starting_within : (spec : LoadSpec) → get w.jobs w.counts.started ≡ None → WithinLimits (load_starting w who spec).1
    starting_within spec unused =
        let j = w.counts.started in
        let more : takes_left (insert w.jobs j (queued spec)) ≡ 2 + takes_left w.jobs = total-insert_new nat_cmp_total nat_cmp-IsAntisymmetric (λ i (a : Job). 2 - a.takes) w.jobs j (queued spec) unused in
        added_within (Waiting j) (insert w.jobs j (queued spec)) w.active w.cached (record w.counts { started = j + 1 }) refl (omega (arith, l.answered)) refl refl
        (omega (arith, l.takes, more))
        (λ i k a at sits. elim (put_cases w.jobs j (queued spec) i a at) [
          | inl h ↦ absurd (not_Some (ap (λ (b : Job). b.seat) h.1 ∙ sits))
          | inr h ↦ l.seats i k a h.1 sits
        ])

    by_job_within : (spec : LoadSpec) → get w.jobs w.counts.started ≡ None → (found : Option ℕ) → WithinLimits (load_by_job w who spec found).1
    by_job_within spec unused None = starting_within spec unused
    by_job_within spec unused (Some j) = added_within (Waiting j) w.jobs w.active w.cached (record w.counts { joined = w.counts.joined + 1 }) refl (omega (arith, l.answered)) refl refl
        (same_jobs (record w.counts { joined = w.counts.joined + 1 }) refl refl) l.seats

    by_cache_within : (spec : LoadSpec) → get w.jobs w.counts.started ≡ None → (found : Option ℕ) → WithinLimits (load_by_cache w who spec found).1
    by_cache_within spec unused None = by_job_within spec unused (job_for w.jobs spec.key spec.cached)
    by_cache_within spec unused (Some r) = added_within (Ready r) w.jobs (set.insert w.active r) (without r w.cached) (record w.counts { memory = w.counts.memory + 1 }) refl (omega (arith, l.answered)) refl refl
        (same_jobs (record w.counts { memory = w.counts.memory + 1 }) refl refl) l.seats

    by_active_within : (spec : LoadSpec) → get w.jobs w.counts.started ≡ None → (found : Option ℕ) → WithinLimits (load_by_active w who spec found).1
    by_active_within spec unused None = by_cache_within spec unused (cached_of w.resources w.cached spec.key)
    by_active_within spec unused (Some r) = added_within (Ready r) w.jobs w.active w.cached (record w.counts { active = w.counts.active + 1 }) refl (omega (arith, l.answered)) refl refl
        (same_jobs (record w.counts { active = w.counts.active + 1 }) refl refl) l.seats

  load_within : (who : ℕ) (spec : LoadSpec) → who < length w.begun → begun_by w who < load_limit → get w.loads (who, begun_by w who) ≡ None → get w.jobs w.counts.started ≡ None → WithinLimits (load w who spec).1
  load_within who spec in_range permitted new unused =
      let rest : Outcome = cond spec.skip (load_from_jobs w who spec) (load_by_active w who spec (active_of w.resources w.active spec.key)) in
      elim (eqb (owned who w.loads) (quota_of w who)) as (λ t. eqb (owned who w.loads) (quota_of w who) ≡ t → WithinLimits (cond t (replies.Full, w) rest).1) [
        | true ↦ λ full. l
        | false ↦ λ full.
            let ne : owned who w.loads ≢ quota_of w who = eqb-false _ _ full in
            let room : owned who w.loads < quota_of w who = omega (arith, ne, l.quotas who) in
            elim spec.skip as (λ t. WithinLimits (cond t (load_from_jobs w who spec) (load_by_active w who spec (active_of w.resources w.active spec.key))).1) [
              | true ↦ by_job_within who in_range permitted new room spec unused (job_for w.jobs spec.key spec.cached)
              | false ↦ by_active_within who in_range permitted new room spec unused (active_of w.resources w.active spec.key)
            ]
      ] refl

  -- ---- take

  -- a bitmap more, of the pool or new
  lent_within : (j : ℕ) (job : Job) (lent : Lent) (pool : List (Group ℕ)) (next : ℕ) (counts : Counts) → get w.jobs j ≡ Some job → job.takes < 2
      → counts.loads ≡ w.counts.loads → counts.loads ≡ counts.active + counts.memory + counts.joined + counts.started → counts.started ≡ w.counts.started
      → counts.takes ≡ w.counts.takes + 1 → counts.takes ≡ counts.reused + next
      → WithinLimits (lend j (Some job) lent (record w { pool = pool; next = next; counts = counts }))
  lent_within j job lent pool next counts is few loads sums started takes given =
      let now : Job = record job { takes = job.takes + 1; out = job.out ++ lent ∷ [] } in
      let changed : takes_left (insert w.jobs j now) + (2 - job.takes) ≡ takes_left w.jobs + (2 - (job.takes + 1)) = total-insert_over nat_cmp_total nat_cmp-IsAntisymmetric (λ i (a : Job). 2 - a.takes) w.jobs j job now is in
      record {
        begun = loads ∙ l.begun;
        each_begun = l.each_begun;
        answered = sums;
        given = given;
        takes = omega (arith, l.takes, started, takes, changed, few);
        quotas = l.quotas;
        seats = (jobs_put seats w.jobs j job now is (omega arith) (λ k sits. l.seats j k job is sits) l.seats).seats;
      }

  take_within : (j : ℕ) (job : Job) (wanted : Wanted) (pool : List (Group ℕ)) (z : World) (reply : NotedReply) (found : Option Lent) → wanted.job ≡ j → get w.jobs j ≡ Some job → job.takes < 2
      → TakeFrom wanted (record w { pool = pool }) found reply z → WithinLimits z
  take_within j job wanted pool z reply (Some lent) same is few step =
      let counts : Counts = record w.counts { takes = w.counts.takes + 1; reused = w.counts.reused + 1 } in
      at_state z _ step.1 (subst (λ i. WithinLimits (lend i (get w.jobs i) lent (record w { pool = pool; counts = counts }))) (sym same)
      (subst (λ o. WithinLimits (lend j o lent (record w { pool = pool; counts = counts }))) (sym is)
      (lent_within j job lent pool w.next counts is few refl l.answered refl refl (omega (arith, l.given)))))
  take_within j job wanted pool z reply None same is few step = elim step [
    | inl step ↦
        let counts : Counts = record w.counts { takes = w.counts.takes + 1 } in
        let lent : Lent = lent_as wanted w.next (wanted_size wanted) in
        at_state z _ step.1 (subst (λ i. WithinLimits (lend i (get w.jobs i) lent (record w { pool = pool; next = w.next + 1; counts = counts }))) (sym same)
        (subst (λ o. WithinLimits (lend j o lent (record w { pool = pool; next = w.next + 1; counts = counts }))) (sym is)
        (lent_within j job lent pool (w.next + 1) counts is few refl l.answered refl refl (omega (arith, l.given)))))
    | inr step ↦ at_state z (record w { pool = pool }) step.1 (stays_within _ (record { counts = refl; next = refl; begun = refl; limits = refl; owned = λ who. omega arith; jobs = jobs_same seats w.jobs l.seats }))
  ]

-- ---- each event

-- no job has the next number
unused : (w : World) (known : ℕ → Knowledge) → Sound w known → get w.jobs w.counts.started ≡ None
unused w known s = elim (get w.jobs w.counts.started) as (λ o. get w.jobs w.counts.started ≡ o → o ≡ None) [
  | None ↦ λ e. refl
  | Some old ↦ λ e. let is : IsJob w.counts.started w.counts.started old = s.jobs.each w.counts.started old e in absurd (omega (arith, is.below))
] refl

pub limits_law : (event : Event) → KeepsLimits event
limits_law (events.Load spec) w z known who reply in_range s permits l step =
    let count = (s.known_is who).count in
    at_state w l z _ step.1 (load_within w l who spec (omega (arith, in_range, s.seats)) (omega (arith, count, permits))
    (ap (λ n. get w.loads (who, n)) count ∙ (next_is_new w.loads w.jobs w.resources w.begun who (known who) (s.known_is who)).1) (unused w known s))
limits_law (events.Collect n) w z known who reply in_range s permits l step = at_state w l z w step.1 l
limits_law (events.Look n) w z known who reply in_range s permits l step = at_state w l z w step.1 l
limits_law (events.Read n at) w z known who reply in_range s permits l step = at_state w l z w step.1 l
limits_law (events.Release n) w z known who reply in_range s permits l step = at_state w l z _ step.1 (stays_within w l _ (release_stays w l who n (get w.loads (who, n)) refl))
limits_law (events.NextJob room) w z known who reply in_range s permits l step = at_state w l z _ step.1 (stays_within w l _ (next_job_stays w l who in_range))
limits_law (events.Take j width height config) w z known who reply in_range s permits l step =
    let wanted : Wanted = record { job = j; width = width; height = height; config = config } in
    let picked = pool_pick config (stored_size width height config) w.pool in
    let r : Runs w who j permits.0.job = runs w known who j s permits.0 in
    take_within w l j r.job wanted picked.groups z reply (option_map (λ b. lent_as wanted b picked.size) picked.found) refl r.at (omega (arith, permits.1, r.is.takes)) step
limits_law (events.GiveBack j bitmap) w z known who reply in_range s permits l step =
    at_state w l z _ step.1 (stays_within w l _ (evicted_stays w l (take_back j (get w.jobs j) bitmap.number w) _ (refl, refl, refl, refl, refl, refl) (take_back_stays w l j bitmap.number (get w.jobs j) refl)))
limits_law (events.Finish j bitmap) w z known who reply in_range s permits l step = at_state w l z _ step.1 (stays_within w l _ (finish_stays w l j (get w.jobs j) bitmap))
limits_law (events.Fail j cause) w z known who reply in_range s permits l step =
    at_state w l z _ step.1 (stays_within w l _ (ended_stays w l j (end_job j (settles.Failed cause) w) refl refl refl refl (owned_settled w l j (settles.Failed cause)) refl))
limits_law (events.Quit j) w z known who reply in_range s permits l step =
    at_state w l z _ step.1 (stays_within w l _ (ended_stays w l j (record w { jobs = remove w.jobs j }) refl refl refl refl (λ k. refl) refl))
limits_law (events.IsCancelled j) w z known who reply in_range s permits l step = at_state w l z w step.1 l
limits_law (events.Trim level) w z known who reply in_range s permits l step =
    at_state w l z _ step.1 (stays_within w l _ (evicted_stays w l w (trim level w) (trim-evicts (Evicted w l w) (evicted w l w) level w (refl, refl, refl, refl, refl, refl)) (unchanged w l)))
limits_law events.Close w z known who reply in_range s permits l step =
    at_state w l z _ step.1 (stays_within w l _ (record { counts = refl; next = refl; begun = refl; limits = refl; owned = λ k. omega arith; jobs = jobs_same (seats w l) w.jobs l.seats }))
limits_law events.Totals w z known who reply in_range s permits l step = at_state w l z w step.1 l

-- ---- the beginning

none_begun_sum : (quotas : List ℕ) → sum_by (λ n. n) (none_begun quotas) ≡ 0
none_begun_sum [] = refl
none_begun_sum (q ∷ quotas) = none_begun_sum quotas

none_begun_at : (quotas : List ℕ) (who : ℕ) → slice_index_or (none_begun quotas) who 0 ≡ 0
none_begun_at [] who = refl
none_begun_at (q ∷ quotas) zero = refl
none_begun_at (q ∷ quotas) (suc who) = none_begun_at quotas who

no_jobs_left : takes_left empty ≡ 0
unfolding total
no_jobs_left = ap (λ es. sum_over (λ j (job : Job). 2 - job.takes) es) (nil_from_length (entries empty) (sym (len-entries empty) ∙ len-empty nat_cmp Job))

none_owned : (who : ℕ) → owned who (empty {X = LoadState} {R = load_cmp}) ≡ 0
unfolding total
none_owned who = ap (λ es. sum_over (λ (n : LoadName) (s : LoadState). one_if (eqb n.0 who)) es) (nil_from_length (entries empty) (sym (len-entries empty) ∙ len-empty load_cmp LoadState))

pub opens_within : OpensWithinLimits
opens_within limits content = record {
  begun = sym (none_begun_sum limits.quotas);
  each_begun = λ who. omega (arith, none_begun_at limits.quotas who);
  answered = refl;
  given = refl;
  takes = omega (arith, no_jobs_left);
  quotas = λ who. omega (arith, none_owned who);
  seats = λ j who job at sits. absurd (not_Some (sym (get-empty nat_cmp j) ∙ at));
}
