-- The events Release and Trim.
use Rattle.std.proofs.Common.{◌≡◌, ◌≢◌, ℕ, ◌+◌, ◌-◌, ◌/◌, ◌<◌, ◌≤◌, true, false, cond, eqb, ltb, leb, [], ◌∷◌, Some, None, Option, refl, ap, sym, subst, ◌∙◌, inl, inr, arith, true≢false}
use Rattle.std.specs.Prelude.{◌&&◌, ◌||◌}
use Rattle.std.specs.Option.{is_some, is_none}
use Rattle.std.specs.Cmp.{nat_cmp_total}
use Rattle.std.specs.FinMap.{get, insert, remove, len, len-remove, nat_cmp-IsAntisymmetric}
use Rattle.std.specs.FinSet as set
use Rattle.std.proofs.lemmas.Bool.{lt-ltb, eqb-true, eqb-false, and_from}
use Rattle.engine_world.specs.declared.events.Event.TheVariants as events
use Rattle.engine_world.specs.declared.events.NotedReply.TheVariants as replies
use Rattle.load_cause.specs.declared.causes.Cause.{Cause}
use Rattle.bitmap_pool.specs.Pool.{pool_trim}
use Rattle.load_table.specs.declared.loads.LoadState.TheVariants.{Waiting, Ready, Failed}
use Rattle.load_table.specs.Loads.{LoadName, waits_on, ready_on, waiting, holders, owned}
use Rattle.load_table.specs.LoadOrder.{load_total, load_same}
use Rattle.engine_world.specs.World.{LoadState, Loads, Job, Jobs, World}
use Rattle.engine_world.specs.Places.{one_if, is_held, times_out}
use Rattle.engine_world.specs.Moves.{shrink_cache, retire, let_go, cancel_job, leave_job, trim_to}
use Rattle.engine_world.specs.Steps.{release, released, trim}
use Rattle.engine_world.specs.Knowledge.{OwnLoad, OwnJob, Knowledge, knowledge_with}
use Rattle.engine_world.specs.Sound.{RefersTo, AllAwaited, IsJob, JobsAre, AllServe, LoadsAgree, JobAgrees, facts, KnowledgeAgrees, Sound}
use Rattle.engine_world.specs.Laws.{KeepsSound}
use Rattle.engine_world.specs.OccurrenceLaws.{one_if_same, one_if_other}
use Rattle.engine_world.specs.NumberLaws.{number_cases, put_same, put_other, put_cases, gone_other, gone_found}
use Rattle.engine_world.proofs.Parts.{facts_of}
use Rattle.finite_maps.specs.MapLaws.{not_Some, same_Some, get-remove_same, get-remove_other, total-remove, le-total}
use Rattle.engine_world.proofs.Orders.{at_each_seat}
use Rattle.engine_world.proofs.PoolLaws.{pool_trim_is, pool_trim_number}
use Rattle.engine_world.proofs.Knowing.{there_known, known_there}
use Rattle.engine_world.proofs.Jobs.{job_same, resource_same, JobStays, agree_stays, stays_gone, jobs_gone, lent_gone, jobs_changed, lent_changed}
use Rattle.engine_world.proofs.Placing.{out_changed, out_gone, places_less}
use Rattle.engine_world.proofs.QuietEvents.{from_outcome, now_known}
use Rattle.engine_world.proofs.EndEvents.{places_from, held_same, set_remove_found}
use Rattle.engine_world.proofs.Transit.{InTransit, set_off, shrink_cache-in_transit, shrunk-sound, retire-sound}

-- ---- jobs on seats are as they were, or cancelled

pub record RunsOn (a b : Job) : Type 0 where
  pub seat : b.seat ≡ a.seat
  pub spec : b.spec ≡ a.spec
  pub takes : b.takes ≡ a.takes
  pub out : b.out ≡ a.out
  pub cancelled : a.cancelled ≡ true → b.cancelled ≡ true

pub record AllRunOn (jobs jobs' : Jobs) : Type 0 where
  pub to : (i k : ℕ) (a : Job) → get jobs i ≡ Some a → a.seat ≡ Some k → (b : Job) × (get jobs' i ≡ Some b) × RunsOn a b
  pub from : (i k : ℕ) (b : Job) → get jobs' i ≡ Some b → b.seat ≡ Some k → (a : Job) × (get jobs i ≡ Some a) × (a.seat ≡ Some k)

all_run_on_same : (jobs : Jobs) → AllRunOn jobs jobs
all_run_on_same jobs = record { to = λ i k a at sits. (a, at, record { seat = refl; spec = refl; takes = refl; out = refl; cancelled = λ e. e }); from = λ i k b at sits. (b, at, sits) }

-- ---- a load less

module _ (w : World) (known : ℕ → Knowledge) (who n : ℕ) (state : LoadState) (at : get w.loads (who, n) ≡ Some state) (s : Sound w known) where
  abbrev left : Loads
  left = remove w.loads (who, n)

  holders_left : (q : ℕ) → holders q w.loads ≡ one_if (ready_on q state) + holders q left
  holders_left q = total-remove load_total load_same (λ l st. one_if (ready_on q st)) w.loads (who, n) state at

  waiting_left : (i : ℕ) → waiting i w.loads ≡ one_if (waits_on i state) + waiting i left
  waiting_left i = total-remove load_total load_same (λ l st. one_if (waits_on i st)) w.loads (who, n) state at

  live_left : (k : ℕ) → owned k w.loads ≡ one_if (eqb who k) + owned k left
  live_left k = total-remove load_total load_same (λ (l : LoadName) (st : LoadState). one_if (eqb l.0 k)) w.loads (who, n) state at

  -- what all seats know, where the jobs on which loads still wait stay
  knows_left : (jobs : Jobs) → ((k m i : ℕ) → get left (k, m) ≡ Some (Waiting i) → JobStays w.jobs jobs i) → AllRunOn w.jobs jobs
      → (k : ℕ) → KnowledgeAgrees (facts_of left jobs w.resources w.begun) k (knowledge_with known who (events.Release n) replies.Done k)
  knows_left jobs stays run_on = at_each_seat (KnowledgeAgrees (facts_of left jobs w.resources w.begun)) known who (events.Release n) replies.Done
      (λ k ne. let knows = s.known_is k in record {
        count = knows.count;
        below = knows.below;
        each = λ m. agree_stays w.jobs jobs w.resources w.resources (get (known k).loads m) (get left (k, m)) (λ st i e is. stays k m i (e ∙ ap Some is)) (λ st r e is. resource_same w.resources r)
            (subst (LoadsAgree w.jobs w.resources (get (known k).loads m)) (sym (get-remove_other load_total load_same w.loads (who, n) (k, m) (λ e. ne (ap (λ (l : LoadName). l.0) e)))) (knows.each m));
        live = omega (arith, live_left k, one_if_other who k (λ e. ne (sym e)), knows.live);
        runs = λ own e. runs_on jobs run_on k (known k) knows own e;
        knows = λ i b e sits. let a = run_on.from i k b e sits in knows.knows i a.0 a.1 a.2;
      })
      (let knows = s.known_is who in
      let old = (known who).loads in
      record {
        count = knows.count;
        below = λ m load e. knows.below m load (gone_found old n m load e).1;
        each = λ m. elim (number_cases m n) [
          | inl same ↦ subst (λ o. LoadsAgree jobs w.resources o (get left (who, m))) (sym (ap (get (remove old n)) same ∙ get-remove_same nat_cmp_total nat_cmp-IsAntisymmetric old n))
              (subst (λ o. LoadsAgree jobs w.resources None o) (sym (ap (λ i. get left (who, i)) same ∙ get-remove_same load_total load_same w.loads (who, n))) tt)
          | inr ne ↦ agree_stays w.jobs jobs w.resources w.resources (get (remove old n) m) (get left (who, m)) (λ st i e is. stays who m i (e ∙ ap Some is)) (λ st r e is. resource_same w.resources r)
              (subst (λ o. LoadsAgree w.jobs w.resources o (get left (who, m))) (sym (gone_other old n m ne))
              (subst (LoadsAgree w.jobs w.resources (get old m)) (sym (get-remove_other load_total load_same w.loads (who, n) (who, m) (λ e. ne (ap (λ (l : LoadName). l.1) e)))) (knows.each m)))
        ];
        live =
            let there : (load : OwnLoad) × (get old n ≡ Some load) = own_load in
            let fewer : len (remove old n) ≡ len old - 1 = len-remove nat_cmp_total old n ∙ ap (λ o. cond (is_some o) (len old - 1) (len old)) there.1 in
            omega (arith, live_left who, one_if_same who, knows.live, fewer);
        runs = λ own e. runs_on jobs run_on who (known who) knows own e;
        knows = λ i b e sits. let a = run_on.from i who b e sits in knows.knows i a.0 a.1 a.2;
      })
    where
      runs_on : (jobs : Jobs) → AllRunOn w.jobs jobs → (k : ℕ) (now : Knowledge) → KnowledgeAgrees (facts w) k now → (own : OwnJob) → now.job ≡ Some own → (job : Job) × (get jobs own.number ≡ Some job) × JobAgrees k own job
      runs_on jobs run_on k now knows own e =
          let old = knows.runs own e in
          let new = run_on.to own.number k old.0 old.1 old.2.seat in
          (new.0, new.1, record { seat = new.2.seat ∙ old.2.seat; spec = new.2.spec ∙ old.2.spec; takes = new.2.takes ∙ old.2.takes; out = new.2.out ∙ old.2.out; cancelled = λ told. new.2.cancelled (old.2.cancelled told) })

      own_load : (load : OwnLoad) × (get (known who).loads n ≡ Some load)
      own_load = let found = there_known w.loads w.jobs w.resources (get (known who).loads n) (get w.loads (who, n)) state at ((s.known_is who).each n) in (found.0, found.1)

  abbrev now_known_of : ℕ → Knowledge
  now_known_of = knowledge_with known who (events.Release n) replies.Done

  -- what waits, waits on what it did
  stays_same : (k m i : ℕ) → get left (k, m) ≡ Some (Waiting i) → JobStays w.jobs w.jobs i
  stays_same k m i e = job_same w.jobs i

  -- the load held nothing: these are the jobs then
  no_holder_left : (jobs : Jobs) → ((q : ℕ) → one_if (ready_on q state) ≡ 0) → ((b : ℕ) → times_out jobs b ≤ times_out w.jobs b) → AllAwaited left jobs → JobsAre w.counts.started jobs → ((i : ℕ) (a : Job) → get jobs i ≡ Some a → AllServe a.out)
      → ((k m i : ℕ) → get left (k, m) ≡ Some (Waiting i) → JobStays w.jobs jobs i) → AllRunOn w.jobs jobs → Sound (record w { loads = left; jobs = jobs }) now_known_of
  no_holder_left jobs none less awaited jobs_are lent stays run_on =
      let same : (q : ℕ) → holders q left ≡ holders q w.loads = λ q. omega (arith, holders_left q, none q) in
      let held : (q : ℕ) → is_held left w.resources q ≡ is_held w.loads w.resources q = λ q. held_same w.loads left w.resources w.resources q (same q) refl in
      record {
        places = places_from w.loads left w.jobs jobs w.resources w.resources w.cached w.cached w.pool w.pool w.next (λ b. omega (arith, less b, ap one_if (held b))) (λ r resource is. omega (arith, s.places.kept r resource is, ap one_if (held r))) s.places;
        awaited = awaited;
        jobs = jobs_are;
        active = record { each = λ q is. let old = s.active.each q is in (old.0, omega (arith, same q, old.1)); apart = s.active.apart };
        cached = s.cached;
        pool = s.pool;
        lent = lent;
        resources = s.resources;
        seats = s.seats;
        known_is = knows_left jobs stays run_on;
      }

  -- the last load of a job has gone
  unwanted : (j : ℕ) → state ≡ Waiting j → waiting j left ≡ 0 → (found : Option Job) → get w.jobs j ≡ found → Sound (cancel_job j found (record w { loads = left })) now_known_of
  unwanted j is none None e =
      let named = there_known w.loads w.jobs w.resources (get (known who).loads n) (get w.loads (who, n)) state at ((s.known_is who).each n) in
      let refers : RefersTo w.jobs w.resources named.0 (Waiting j) = subst (RefersTo w.jobs w.resources named.0) is named.2.refers in
      absurd (not_Some (sym e ∙ refers.1))
  unwanted j is none (Some job) e =
      let holds_none : (q : ℕ) → one_if (ready_on q state) ≡ 0 = λ q. ap (λ st. one_if (ready_on q st)) is in
      let waits_other : (k m i : ℕ) → get left (k, m) ≡ Some (Waiting i) → i ≢ j = λ k m i w_at same.
      let one : one_if (waits_on {C = Cause} j (Waiting i)) ≤ waiting j left = le-total load_total load_same (λ l st. one_if (waits_on j st)) left (k, m) (Waiting i) w_at in
      absurd (omega (arith, one, none, ap (λ c. one_if (eqb c j)) same, one_if_same j)) in
      let wanted_other : (i : ℕ) (a : Job) → i ≢ j → get w.jobs i ≡ Some a → a.cancelled ≡ false → 0 < waiting i left = λ i a ne a_at live.
      omega (arith, waiting_left i, ap (λ st. one_if (waits_on i st)) is, one_if_other j i (λ h. ne (sym h)), s.awaited i a a_at live) in
      elim job.seat as (λ seat. job.seat ≡ seat → Sound (cond (is_none seat) (record w { loads = left; jobs = remove w.jobs j }) (record w { loads = left; jobs = insert w.jobs j (record job { cancelled = true }) })) now_known_of) [
        | None ↦ λ free. no_holder_left (remove w.jobs j) holds_none (λ b. omega (arith, out_gone w.jobs j job b e))
            (λ i a a_at live. let found = gone_found w.jobs j i a a_at in wanted_other i a found.0 found.1 live)
            (jobs_gone w.jobs j w.counts.started s.jobs) (lent_gone w.jobs j s.lent)
            (λ k m i w_at. stays_gone w.jobs j i (waits_other k m i w_at))
            (record {
              to = λ i k a a_at sits.
                  let ne : i ≢ j = λ same. not_Some (sym free ∙ ap (λ (b : Job). b.seat) (same_Some _ _ (sym e ∙ ap (get w.jobs) (sym same) ∙ a_at)) ∙ sits) in
                  (a, gone_other w.jobs j i ne ∙ a_at, record { seat = refl; spec = refl; takes = refl; out = refl; cancelled = λ h. h });
              from = λ i k b b_at sits. (b, (gone_found w.jobs j i b b_at).1, sits);
            })
        | Some seat ↦ λ runs.
            let dead : Job = record job { cancelled = true } in
            let is_job : IsJob w.counts.started j job = s.jobs.each j job e in
            no_holder_left (insert w.jobs j dead) holds_none (λ b. omega (arith, out_changed w.jobs j job dead b e))
            (λ i a a_at live. elim (put_cases w.jobs j dead i a a_at) [
              | inl h ↦ absurd (true≢false (ap (λ (b : Job). b.cancelled) h.1 ∙ live))
              | inr h ↦ wanted_other i a h.0 h.1 live
            ])
            (jobs_changed w.jobs j job dead e refl w.counts.started (λ h. cc)
            (record { below = is_job.below; queued = λ h. absurd (not_Some (sym h ∙ runs)); out = is_job.out; takes = is_job.takes })
            (λ i k a a_at sits mine. s.jobs.seats i j k a job a_at e sits mine) s.jobs)
            (lent_changed w.jobs j job dead e refl (s.lent j job e) s.lent)
            (λ k m i w_at a a_at live. let ne = waits_other k m i w_at in (a, put_other w.jobs j dead i ne ∙ a_at, live, refl, refl))
            (record {
              to = λ i k a a_at sits. elim (number_cases i j) [
                | inl same ↦
                    let job_is : job ≡ a = same_Some _ _ (sym e ∙ ap (get w.jobs) (sym same) ∙ a_at) in
                    (dead, ap (get (insert w.jobs j dead)) same ∙ put_same w.jobs j dead, record { seat = ap (λ (b : Job). b.seat) job_is; spec = ap (λ (b : Job). b.spec) job_is; takes = ap (λ (b : Job). b.takes) job_is; out = ap (λ (b : Job). b.out) job_is; cancelled = λ h. refl })
                | inr ne ↦ (a, put_other w.jobs j dead i ne ∙ a_at, record { seat = refl; spec = refl; takes = refl; out = refl; cancelled = λ h. h })
              ];
              from = λ i k b b_at sits. elim (put_cases w.jobs j dead i b b_at) [
                | inl h ↦ (job, ap (get w.jobs) h.0 ∙ e, ap (λ (c : Job). c.seat) h.1 ∙ sits)
                | inr h ↦ (b, h.1, sits)
              ];
            })
      ] refl

  released_waiting : (j : ℕ) → state ≡ Waiting j → Sound (leave_job j (record w { loads = left })) now_known_of
  released_waiting j is = elim (eqb (waiting j left) 0) as (λ t. eqb (waiting j left) 0 ≡ t → Sound (cond t (cancel_job j (get w.jobs j) (record w { loads = left })) (record w { loads = left })) now_known_of) [
    | true ↦ λ e. unwanted j is (eqb-true _ _ e) (get w.jobs j) refl
    | false ↦ λ e.
        let some : waiting j left ≢ 0 = eqb-false _ _ e in
        no_holder_left w.jobs (λ q. ap (λ st. one_if (ready_on q st)) is) (λ b. omega arith)
        (λ i a a_at live. elim (number_cases i j) [
          | inl same ↦ omega (arith, some, ap (λ c. waiting c left) same)
          | inr ne ↦ omega (arith, waiting_left i, ap (λ st. one_if (waits_on i st)) is, one_if_other j i (λ h. ne (sym h)), s.awaited i a a_at live)
        ])
        s.jobs s.lent stays_same (all_run_on_same w.jobs)
  ] refl

  released_failed : (cause : Cause) → state ≡ Failed cause → Sound (record w { loads = left }) now_known_of
  released_failed cause is = no_holder_left w.jobs (λ q. ap (λ st. one_if (ready_on q st)) is) (λ b. omega arith)
      (λ i a a_at live. omega (arith, waiting_left i, ap (λ st. one_if (waits_on i st)) is, s.awaited i a a_at live)) s.jobs s.lent stays_same (all_run_on_same w.jobs)

  -- ---- the last load of a resource, or one of many

  released_ready : (r : ℕ) → state ≡ Ready r → Sound (released (Ready r) (record w { loads = left })) now_known_of
  released_ready r is =
      let named = there_known w.loads w.jobs w.resources (get (known who).loads n) (get w.loads (who, n)) state at ((s.known_is who).each n) in
      let resource : RefersTo w.jobs w.resources named.0 (Ready r) = subst (RefersTo w.jobs w.resources named.0) is named.2.refers in
      let count : (q : ℕ) → holders q w.loads ≡ one_if (eqb r q) + holders q left = λ q. holders_left q ∙ ap (λ st. one_if (ready_on q st) + holders q left) is in
      let other : (q : ℕ) → q ≢ r → holders q left ≡ holders q w.loads = λ q ne. omega (arith, count q, one_if_other r q (λ h. ne (sym h))) in
      let was : is_held w.loads w.resources r ≡ true = and_from _ _ (ap is_some resource.1) (lt-ltb 0 _ (omega (arith, count r, one_if_same r))) in
      let held_other : (q : ℕ) → q ≢ r → is_held left w.resources q ≡ is_held w.loads w.resources q = λ q ne. held_same w.loads left w.resources w.resources q (other q ne) refl in
      let awaited : AllAwaited left w.jobs = λ i a a_at live. omega (arith, waiting_left i, ap (λ st. one_if (waits_on i st)) is, s.awaited i a a_at live) in
      elim (eqb (holders r left) 0) as (λ t. eqb (holders r left) 0 ≡ t → Sound (cond t (let_go r (record w { loads = left })) (record w { loads = left })) now_known_of) [
        | true ↦ λ e.
            let none : holders r left ≡ 0 = eqb-true _ _ e in
            let free : is_held left w.resources r ≡ false = ap (λ o. is_some o && ltb 0 (holders r left)) resource.1 ∙ ap (λ c. ltb 0 c) none in
            let v : World = record w { loads = left; active = set.remove w.active r } in
            let idle : InTransit v now_known_of (r ∷ []) = record {
              once = λ b. elim (number_cases b r) [
                | inl same ↦ omega (arith, s.places.once b, ap one_if (ap (is_held left w.resources) same ∙ free), ap one_if (ap (is_held w.loads w.resources) same ∙ was), ap (λ c. one_if (eqb r c)) same, one_if_same r)
                | inr ne ↦ omega (arith, s.places.once b, ap one_if (held_other b ne), one_if_other r b (λ h. ne (sym h)))
              ];
              below = λ b some. elim (number_cases b r) [
                | inl same ↦ s.places.below b (omega (arith, ap one_if (ap (is_held w.loads w.resources) same ∙ was)))
                | inr ne ↦ s.places.below b (omega (arith, some, ap one_if (held_other b ne), one_if_other r b (λ h. ne (sym h))))
              ];
              kept = λ q a a_at. elim (number_cases q r) [
                | inl same ↦ omega (arith, ap (λ c. one_if (eqb r c)) same, one_if_same r)
                | inr ne ↦ omega (arith, s.places.kept q a a_at, ap one_if (held_other q ne))
              ];
              there = λ q some. elim (number_cases q r) [
                | inl same ↦ (resource.0, ap (get w.resources) same ∙ resource.1)
                | inr ne ↦ absurd (omega (arith, some, one_if_other r q (λ h. ne (sym h))))
              ];
              awaited = awaited;
              jobs = s.jobs;
              active = record {
                each = λ q q_in. let found = set_remove_found w.active r q q_in in let old = s.active.each q found.1 in (old.0, omega (arith, other q found.0, old.1));
                apart = λ p q a b p_in q_in. s.active.apart p q a b (set_remove_found w.active r p p_in).1 (set_remove_found w.active r q q_in).1;
              };
              cached_each = s.cached.each;
              cached_apart = s.cached.apart;
              pool = s.pool;
              lent = s.lent;
              resources = s.resources;
              seats = s.seats;
              known_is = knows_left w.jobs stays_same (all_run_on_same w.jobs);
            } in
            subst (λ o. Sound (retire r o v) now_known_of) (sym resource.1) (retire-sound v now_known_of r resource.0 resource.1 s.cached idle)
        | false ↦ λ e.
            let some : holders r left ≢ 0 = eqb-false _ _ e in
            let still : (q : ℕ) → is_held left w.resources q ≡ is_held w.loads w.resources q = λ q. elim (number_cases q r) [
              | inl same ↦
                  let now : is_held left w.resources r ≡ true = and_from _ _ (ap is_some resource.1) (lt-ltb 0 _ (omega (arith, some))) in
                  ap (is_held left w.resources) same ∙ now ∙ sym (ap (is_held w.loads w.resources) same ∙ was)
              | inr ne ↦ held_other q ne
            ] in
            record {
              places = places_from w.loads left w.jobs w.jobs w.resources w.resources w.cached w.cached w.pool w.pool w.next (λ b. omega (arith, ap one_if (still b))) (λ q a a_at. omega (arith, s.places.kept q a a_at, ap one_if (still q))) s.places;
              awaited = awaited;
              jobs = s.jobs;
              active = record {
                each = λ q q_in. let old = s.active.each q q_in in (old.0, elim (number_cases q r) [ inl same ↦ omega (arith, some, ap (λ c. holders c left) same) | inr ne ↦ omega (arith, other q ne, old.1) ]);
                apart = s.active.apart;
              };
              cached = s.cached;
              pool = s.pool;
              lent = s.lent;
              resources = s.resources;
              seats = s.seats;
              known_is = knows_left w.jobs stays_same (all_run_on_same w.jobs);
            }
      ] refl

  pub released_keeps : Sound (released state (record w { loads = left })) now_known_of
  released_keeps = elim state as (λ st. state ≡ st → Sound (released st (record w { loads = left })) now_known_of) [
    | Waiting j ↦ λ e. released_waiting j e
    | Ready r ↦ λ e. released_ready r e
    | Failed cause ↦ λ e. released_failed cause e
  ] refl

pub release_law : (n : ℕ) → KeepsSound (events.Release n)
release_law n w z known who reply in_range s permits step =
    let there = known_there w.loads w.jobs w.resources (get (known who).loads n) (get w.loads (who, n)) permits.0 permits.1 ((s.known_is who).each n) in
    from_outcome known who (events.Release n) reply z (replies.Done, release w who n (get w.loads (who, n))) step
    (subst (λ o. Sound (release w who n o) (knowledge_with known who (events.Release n) replies.Done)) (sym there.1) (released_keeps w known who n there.0 there.1 s))

-- ---- Trim

trim_to-sound : (w : World) (known : ℕ → Knowledge) (memory pool : ℕ) → memory ≤ w.limits.memory → Sound w known → Sound (trim_to memory pool w) known
trim_to-sound w known memory pool within s =
    let cut : World = shrink_cache memory w in
    let c : Sound cut known = shrunk-sound w cut known memory within (shrink_cache-in_transit w known memory (set_off w known s)) in
    record {
      places = places_less cut.loads cut.jobs cut.jobs cut.resources cut.cached cut.pool (pool_trim pool cut.pool) cut.next (λ b. omega (arith, pool_trim_number pool b cut.pool)) c.places;
      awaited = c.awaited;
      jobs = c.jobs;
      active = c.active;
      cached = c.cached;
      pool = pool_trim_is cut.limits.pool pool cut.pool c.pool;
      lent = c.lent;
      resources = c.resources;
      seats = c.seats;
      known_is = c.known_is;
    }

trim-sound : (w : World) (known : ℕ → Knowledge) (level : ℕ) → Sound w known → Sound (trim level w) known
trim-sound w known level s = elim (leb 40 level) as (λ t. Sound (cond t (trim_to 0 0 w) (cond (leb 20 level || eqb level 15) (trim_to (w.limits.memory / 2) (w.limits.pool / 2) w) w)) known) [
  | true ↦ trim_to-sound w known 0 0 (omega arith) s
  | false ↦ elim (leb 20 level || eqb level 15) as (λ t. Sound (cond t (trim_to (w.limits.memory / 2) (w.limits.pool / 2) w) w) known) [
    | true ↦ trim_to-sound w known (w.limits.memory / 2) (w.limits.pool / 2) (omega arith) s
    | false ↦ s
  ]
]

pub trim_law : (level : ℕ) → KeepsSound (events.Trim level)
trim_law level w z known who reply in_range s permits step =
    from_outcome known who (events.Trim level) reply z (replies.Done, trim level w) step
    (trim-sound w (knowledge_with known who (events.Trim level) replies.Done) level (now_known w known who (events.Trim level) replies.Done s (s.known_is who)))
