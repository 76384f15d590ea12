-- The event Load.
use Rattle.std.proofs.Common.{◌≡◌, ◌≢◌, ℕ, ◌+◌, ◌<◌, ◌≤◌, Bool, true, false, cond, eqb, List, [], ◌∷◌, length, Some, None, Option, refl, ap, sym, subst, ◌∙◌, inl, inr, arith, true≢false}
use Rattle.std.specs.Prelude.{not, sum_by, slice_set}
use Rattle.std.specs.Option.{is_some}
use Rattle.std.specs.Cmp.{nat_cmp_total}
use Rattle.std.specs.FinMap.{get, insert, nat_cmp-IsAntisymmetric}
use Rattle.std.specs.FinSet as set
use Rattle.std.proofs.lemmas.List.{length-set}
use Rattle.std.proofs.lemmas.List.Sums.{sum_by-cons}
use Rattle.std.proofs.lemmas.Bool.{lt-ltb, and_parts, and_from}
use Rattle.engine_world.specs.declared.events.Event.TheVariants as events
use Rattle.engine_world.specs.declared.events.NotedReply.{NotedReply}
use Rattle.engine_world.specs.declared.events.NotedReply.TheVariants as replies
use Rattle.cache_key.specs.declared.load_spec.LoadSpec.{LoadSpec}
use Rattle.load_table.specs.declared.loads.LoadState.TheVariants.{Waiting, Ready}
use Rattle.load_table.specs.Loads.{ready_on, holders, owned}
use Rattle.active_resources.specs.Actives.{Numbers}
use Rattle.job_table.specs.declared.jobs.Job as table
use Rattle.job_table.specs.Jobs as job_table
use Rattle.engine_world.specs.World.{LoadState, Loads, Job, Jobs, Resource, Resources, Counts, World}
use Rattle.engine_world.specs.Places.{one_if, occurrences, is_held, OnePlace}
use Rattle.engine_world.specs.Moves.{table_job, table_jobs, has_key, active_of, cached_of, job_for, size_of, without, begun_by, add_load}
use Rattle.engine_world.specs.Steps.{queued, Outcome, quota_of, load_starting, load_by_job, load_from_jobs, load_by_cache, load_by_active, load}
use Rattle.engine_world.specs.Knowledge.{Knowledge, own_load, with_load, after_load, knowledge_with}
use Rattle.engine_world.specs.Sound.{RefersTo, AllAwaited, IsJob, JobsAre, IsCacheable, ActiveAre, CachedAre, AllServe, IsReady, KnowledgeAgrees, Sound}
use Rattle.engine_world.specs.Laws.{KeepsSound}
use Rattle.engine_world.specs.OccurrenceLaws.{one_if_same, one_if_other, without_same, without_other, without-le, find-passes, find-none, item_stands, stands_item}
use Rattle.engine_world.specs.KeyedLaws.{same_kind-is, same_kind-itself, has_key-found, has_key-there}
use Rattle.engine_world.specs.NumberLaws.{number_cases, put_same, put_other, put_cases}
use Rattle.engine_world.proofs.Parts.{whereabouts_of, facts_of}
use Rattle.finite_maps.specs.MapLaws.{not_Some, same_Some, first_key-found, first_key-none}
use Rattle.engine_world.proofs.Orders.{at_each_seat}
use Rattle.cache_key.specs.KeyLaws.{same_key-is, same_key-of}
use Rattle.engine_world.proofs.Tabled.{table_job-found, table_job-there}
use Rattle.engine_world.proofs.Jobs.{job_same, JobStays}
use Rattle.engine_world.proofs.Placing.{out_new}
use Rattle.engine_world.proofs.QuietEvents.{from_outcome, now_known}
use Rattle.engine_world.proofs.EndEvents.{places_from, held_same, set_insert_cases}
use Rattle.engine_world.proofs.Loads.{SeatsStay, seats_same, next_is_new, waiting_added, holders_added, knows_beside, knows_added}

-- ---- a list without a number

pub sum-without : (f : ℕ → ℕ) (r : ℕ) (xs : List ℕ) → sum_by f (without r xs) ≤ sum_by f xs
sum-without f r [] = omega arith
sum-without f r (x ∷ xs) =
    let rest : sum_by f (without r xs) ≤ sum_by f xs = sum-without f r xs in
    let all : sum_by f (x ∷ xs) ≡ f x + sum_by f xs = sum_by-cons f x xs in
    elim (eqb x r) as (λ t. sum_by f (cond (not t) (x ∷ without r xs) (without r xs)) ≤ sum_by f (x ∷ xs)) [
      | true ↦ omega (arith, rest, all)
      | false ↦ let left : sum_by f (x ∷ without r xs) ≡ f x + sum_by f (without r xs) = sum_by-cons f x (without r xs) in omega (arith, rest, all, left)
    ]

pub length-without : (r : ℕ) (xs : List ℕ) → length (without r xs) ≤ length xs
length-without r [] = omega arith
length-without r (x ∷ xs) = elim (eqb x r) as (λ t. length (cond (not t) (x ∷ without r xs) (without r xs)) ≤ length (x ∷ xs)) [
  | true ↦ let rest : length (without r xs) ≤ length xs = length-without r xs in omega (arith, rest)
  | false ↦ let rest : length (without r xs) ≤ length xs = length-without r xs in omega (arith, rest)
]

pub cached_without : (maximum : ℕ) (resources : Resources) (r : ℕ) (cached : List ℕ) → CachedAre maximum resources cached → CachedAre maximum resources (without r cached)
cached_without maximum resources r cached are = record {
  each = λ q is. are.each q (omega (arith, is, without-le q r cached));
  apart = λ p q a b p_in q_in. are.apart p q a b (omega (arith, p_in, without-le p r cached)) (omega (arith, q_in, without-le q r cached));
  size = omega (arith, are.size, sum-without (size_of resources) r cached);
  few = omega (arith, are.few, length-without r cached);
}

-- ---- a load more

module _ (w : World) (known : ℕ → Knowledge) (who : ℕ) (spec : LoadSpec) (in_range : who < length w.limits.quotas) (s : Sound w known) where
  abbrev mine : ℕ
  mine = begun_by w who

  new : get w.loads (who, mine) ≡ None
  new = ap (λ n. get w.loads (who, n)) (s.known_is who).count ∙ (next_is_new w.loads w.jobs w.resources w.begun who (known who) (s.known_is who)).1

  abbrev loads_with : LoadState → Loads
  loads_with state = insert w.loads (who, mine) state

  -- what a load more leaves, with jobs, active and cached resources, and counts as given
  added : (state : LoadState) (reply : NotedReply) (ready : Bool) (jobs : Jobs) (active : Numbers) (cached : List ℕ) (counts : Counts)
      → after_load spec reply (known who) ≡ with_load spec ready (known who) → RefersTo jobs w.resources (own_load spec ready) state → (ready ≡ true → IsReady state)
      → ((i : ℕ) → JobStays w.jobs jobs i) → SeatsStay w.jobs jobs
      → OnePlace (whereabouts_of (loads_with state) jobs w.resources cached w.pool) w.next → AllAwaited (loads_with state) jobs → JobsAre counts.started jobs
      → ActiveAre (loads_with state) w.resources active → CachedAre w.limits.memory w.resources cached → ((j : ℕ) (job : Job) → get jobs j ≡ Some job → AllServe job.out)
      → Sound (add_load who state (record w { jobs = jobs; active = active; cached = cached; counts = counts })) (knowledge_with known who (events.Load spec) reply)
  added state reply ready jobs active cached counts is refers is_ready stays seats places awaited jobs_are active_are cached_are lent = record {
    places = places;
    awaited = awaited;
    jobs = jobs_are;
    active = active_are;
    cached = cached_are;
    pool = s.pool;
    lent = lent;
    resources = s.resources;
    seats = length-set w.begun who (mine + 1) ∙ s.seats;
    known_is = at_each_seat (KnowledgeAgrees (facts_of (loads_with state) jobs w.resources (slice_set w.begun who (mine + 1)))) known who (events.Load spec) reply
        (λ k ne. knows_beside w.loads w.jobs jobs w.resources w.begun who state stays seats mine k (known k) ne new (s.known_is k))
        (subst (KnowledgeAgrees (facts_of (loads_with state) jobs w.resources (slice_set w.begun who (mine + 1))) who) (sym is)
        (knows_added w.loads w.jobs jobs w.resources w.begun who state stays seats mine (known who) spec ready (s.known_is who).count (omega (arith, in_range, s.seats)) refers is_ready (s.known_is who)));
  }

  -- where no resource gains a load
  none_held : (state : LoadState) → ((q : ℕ) → one_if (ready_on q state) ≡ 0) → (q : ℕ) → holders q (loads_with state) ≡ holders q w.loads
  none_held state none q = omega (arith, holders_added w.loads (who, mine) state new q, none q)

  held_as_before : (state : LoadState) → ((q : ℕ) → one_if (ready_on q state) ≡ 0) → (q : ℕ) → is_held (loads_with state) w.resources q ≡ is_held w.loads w.resources q
  held_as_before state none q = held_same w.loads (loads_with state) w.resources w.resources q (none_held state none q) refl

  active_as_before : (state : LoadState) → ActiveAre (loads_with state) w.resources w.active
  active_as_before state = record {
    each = λ q is. let old = s.active.each q is in (old.0, omega (arith, holders_added w.loads (who, mine) state new q, old.1));
    apart = s.active.apart;
  }

  more_waiting : (state : LoadState) → AllAwaited (loads_with state) w.jobs
  more_waiting state i job at live = omega (arith, waiting_added w.loads (who, mine) state new i, s.awaited i job at live)

  -- ---- by jobs

  started_keeps : job_for w.jobs spec.key spec.cached ≡ None → Sound (load_starting w who spec).1 (knowledge_with known who (events.Load spec) (replies.Started w.counts.started))
  started_keeps none =
      let j = w.counts.started in
      let job : Job = queued spec in
      let jobs : Jobs = insert w.jobs j job in
      let unused : get w.jobs j ≡ None = elim (get w.jobs j) as (λ o. get w.jobs j ≡ o → o ≡ None) [
        | None ↦ λ e. refl
        | Some old ↦ λ e. let is : IsJob w.counts.started j old = s.jobs.each j old e in absurd (omega (arith, is.below))
      ] refl in
      let other : (i : ℕ) (a : Job) → get w.jobs i ≡ Some a → i ≢ j = λ i a at same. not_Some (sym unused ∙ ap (get w.jobs) (sym same) ∙ at) in
      let apart : (i : ℕ) (a : Job) → get w.jobs i ≡ Some a → a.cancelled ≡ false → a.spec.key ≡ spec.key → a.spec.cached ≡ spec.cached → ⊥ = λ i a at live keys kinds.
      let passes : job_table.serves spec.key spec.cached (table_job a) ≡ true = and_from _ _ (and_from _ _ (same_key-of _ _ keys) (ap (job_table.same_kind a.spec.cached) (sym kinds) ∙ same_kind-itself a.spec.cached)) (ap not live) in
      true≢false (sym passes ∙ first_key-none nat_cmp_total nat_cmp-IsAntisymmetric (λ k (b : table.Job). job_table.serves spec.key spec.cached b) (table_jobs w.jobs) i (table_job a) none (table_job-there w.jobs i a at)) in
      added (Waiting j) (replies.Started j) false jobs w.active w.cached (record w.counts { started = j + 1 }) refl
      (job, put_same w.jobs j job, refl, refl, refl) (λ e. cc)
      (λ i a at live. (a, put_other w.jobs j job i (other i a at) ∙ at, live, refl, refl))
      (record {
        to = λ i k a at sits. put_other w.jobs j job i (other i a at) ∙ at;
        from = λ i k a at sits. elim (put_cases w.jobs j job i a at) [
          | inl h ↦ absurd (not_Some (ap (λ (b : Job). b.seat) h.1 ∙ sits))
          | inr h ↦ h.1
        ];
      })
      (places_from w.loads (loads_with (Waiting j)) w.jobs jobs w.resources w.resources w.cached w.cached w.pool w.pool w.next
      (λ b. omega (arith, out_new w.jobs j job b unused, ap one_if (held_as_before (Waiting j) (λ q. refl) b)))
      (λ r resource at. omega (arith, s.places.kept r resource at, ap one_if (held_as_before (Waiting j) (λ q. refl) r))) s.places)
      (λ i a at live. elim (put_cases w.jobs j job i a at) [
        | inl h ↦ omega (arith, waiting_added w.loads (who, mine) (Waiting j) new i, ap (λ n. one_if (eqb j n)) h.0, one_if_same j)
        | inr h ↦ more_waiting (Waiting j) i a h.1 live
      ])
      (record {
        each = λ i a at. elim (put_cases w.jobs j job i a at) [
          | inl h ↦ subst (λ (b : Job). IsJob (j + 1) i b) h.1 (record { below = omega (arith, h.0); queued = λ e. (refl, refl); out = omega arith; takes = omega arith })
          | inr h ↦ let is : IsJob j i a = s.jobs.each i a h.1 in record { below = omega (arith, is.below); queued = is.queued; out = is.out; takes = is.takes }
        ];
        apart = λ i k a b at bt live alive keys kinds. elim (put_cases w.jobs j job i a at) [
          | inl g ↦ elim (put_cases w.jobs j job k b bt) [
            | inl h ↦ g.0 ∙ sym h.0
            | inr h ↦ absurd (apart k b h.1 alive (sym keys ∙ ap (λ (c : Job). c.spec.key) (sym g.1)) (sym kinds ∙ ap (λ (c : Job). c.spec.cached) (sym g.1)))
          ]
          | inr g ↦ elim (put_cases w.jobs j job k b bt) [
            | inl h ↦ absurd (apart i a g.1 live (keys ∙ ap (λ (c : Job). c.spec.key) (sym h.1)) (kinds ∙ ap (λ (c : Job). c.spec.cached) (sym h.1)))
            | inr h ↦ s.jobs.apart i k a b g.1 h.1 live alive keys kinds
          ]
        ];
        seats = λ i k n a b at bt sa sb. elim (put_cases w.jobs j job i a at) [
          | inl g ↦ absurd (not_Some (ap (λ (c : Job). c.seat) g.1 ∙ sa))
          | inr g ↦ elim (put_cases w.jobs j job k b bt) [
            | inl h ↦ absurd (not_Some (ap (λ (c : Job). c.seat) h.1 ∙ sb))
            | inr h ↦ s.jobs.seats i k n a b g.1 h.1 sa sb
          ]
        ];
      })
      (active_as_before (Waiting j)) s.cached
      (λ i a at. elim (put_cases w.jobs j job i a at) [
        | inl h ↦ subst (λ (b : Job). AllServe b.out) h.1 tt
        | inr h ↦ s.lent i a h.1
      ])

  by_job_keeps : (found : Option ℕ) → job_for w.jobs spec.key spec.cached ≡ found
      → Sound (load_by_job w who spec found).1 (knowledge_with known who (events.Load spec) (load_by_job w who spec found).0)
  by_job_keeps None e = started_keeps e
  by_job_keeps (Some j) e =
      let found = first_key-found nat_cmp_total nat_cmp-IsAntisymmetric (λ k (b : table.Job). job_table.serves spec.key spec.cached b) (table_jobs w.jobs) j e in
      let real = table_job-found w.jobs j found.0 found.1 in
      let live : found.0.cancelled ≡ false = elim found.0.cancelled as (λ b. not b ≡ true → b ≡ false) [ true ↦ λ h. cc | false ↦ λ h. refl ] (and_parts _ _ found.2).1 in
      added (Waiting j) (replies.Joined j) false w.jobs w.active w.cached (record w.counts { joined = w.counts.joined + 1 }) refl
      (real.0, real.1, ap (λ (b : table.Job). b.cancelled) real.2 ∙ live, ap (λ (b : table.Job). b.spec.key) real.2 ∙ same_key-is _ _ (and_parts _ _ (and_parts _ _ found.2).0).0, ap (λ (b : table.Job). b.spec.cached) real.2 ∙ same_kind-is _ _ (and_parts _ _ (and_parts _ _ found.2).0).1) (λ h. cc) (job_same w.jobs) (seats_same w.jobs)
      (places_from w.loads (loads_with (Waiting j)) w.jobs w.jobs w.resources w.resources w.cached w.cached w.pool w.pool w.next
      (λ b. omega (arith, ap one_if (held_as_before (Waiting j) (λ q. refl) b)))
      (λ r resource at. omega (arith, s.places.kept r resource at, ap one_if (held_as_before (Waiting j) (λ q. refl) r))) s.places)
      (more_waiting (Waiting j)) s.jobs (active_as_before (Waiting j)) s.cached s.lent

  from_jobs_keeps : Sound (load_from_jobs w who spec).1 (knowledge_with known who (events.Load spec) (load_from_jobs w who spec).0)
  from_jobs_keeps = by_job_keeps (job_for w.jobs spec.key spec.cached) refl

  -- ---- by resources

  -- a resource that gains a load is held then, and the others as before
  gains : (r : ℕ) (resource : Resource) → get w.resources r ≡ Some resource → (q : ℕ) → is_held (loads_with (Ready r)) w.resources q ≡ cond (eqb r q) true (is_held w.loads w.resources q)
  gains r resource at q = elim (number_cases q r) [
    | inl same ↦
        let one : one_if (eqb r q) ≡ 1 = ap (λ n. one_if (eqb r n)) same ∙ one_if_same r in
        let some : 0 < holders q (loads_with (Ready r)) = omega (arith, holders_added w.loads (who, mine) (Ready r) new q, one) in
        let held : is_held (loads_with (Ready r)) w.resources q ≡ true = and_from _ _ (ap is_some (ap (get w.resources) same ∙ at)) (lt-ltb 0 _ some) in
        elim (eqb r q) as (λ t. one_if t ≡ 1 → is_held (loads_with (Ready r)) w.resources q ≡ cond t true (is_held w.loads w.resources q)) [ true ↦ λ h. held | false ↦ λ h. absurd (omega (arith, h)) ] one
    | inr ne ↦
        let none : one_if (eqb r q) ≡ 0 = one_if_other r q (λ e. ne (sym e)) in
        let same : is_held (loads_with (Ready r)) w.resources q ≡ is_held w.loads w.resources q = held_same w.loads (loads_with (Ready r)) w.resources w.resources q (omega (arith, holders_added w.loads (who, mine) (Ready r) new q, none)) refl in
        elim (eqb r q) as (λ t. one_if t ≡ 0 → is_held (loads_with (Ready r)) w.resources q ≡ cond t true (is_held w.loads w.resources q)) [ true ↦ λ h. absurd (omega (arith, h)) | false ↦ λ h. same ] none
  ]

  by_cache_keeps : (found : Option ℕ) → active_of w.resources w.active spec.key ≡ None → cached_of w.resources w.cached spec.key ≡ found
      → Sound (load_by_cache w who spec found).1 (knowledge_with known who (events.Load spec) (load_by_cache w who spec found).0)
  by_cache_keeps None inactive e = from_jobs_keeps
  by_cache_keeps (Some r) inactive e =
      let key = spec.key in
      let found = find-passes (has_key w.resources key) w.cached r e in
      let there = has_key-found w.resources key r found.0 in
      let cacheable = (s.cached.each r found.1).0 in
      let held : (q : ℕ) → is_held (loads_with (Ready r)) w.resources q ≡ cond (eqb r q) true (is_held w.loads w.resources q) = gains r there.0 there.1 in
      let left : List ℕ = without r w.cached in
      let no_other : (q : ℕ) (b : Resource) → set.contains w.active q ≡ true → get w.resources q ≡ Some b → b.key ≢ key = λ q b is at same.
      true≢false (sym (has_key-there w.resources key q b at same) ∙ find-none (has_key w.resources key) (set.items w.active) q inactive (item_stands w.active q is)) in
      added (Ready r) replies.Ready true w.jobs (set.insert w.active r) left (record w.counts { memory = w.counts.memory + 1 }) refl there (λ h. tt) (job_same w.jobs) (seats_same w.jobs)
      (places_from w.loads (loads_with (Ready r)) w.jobs w.jobs w.resources w.resources w.cached left w.pool w.pool w.next
      (λ b. elim (number_cases b r) [
        | inl same ↦
            let none : occurrences b left ≡ 0 = ap (λ c. occurrences c left) same ∙ without_same r w.cached in
            let some : 0 < occurrences b w.cached = subst (λ c. 0 < occurrences c w.cached) (sym same) found.1 in
            let most : one_if (is_held (loads_with (Ready r)) w.resources b) ≤ 1 = elim (is_held (loads_with (Ready r)) w.resources b) as (λ t. one_if t ≤ 1) [ true ↦ omega arith | false ↦ omega arith ] in
            omega (arith, none, some, most)
        | inr ne ↦
            let stays : occurrences b left ≡ occurrences b w.cached = without_other b r w.cached ne in
            let same : is_held (loads_with (Ready r)) w.resources b ≡ is_held w.loads w.resources b = held b ∙ elim (eqb r b) as (λ t. one_if t ≡ 0 → cond t true (is_held w.loads w.resources b) ≡ is_held w.loads w.resources b) [ true ↦ λ h. absurd (omega (arith, h)) | false ↦ λ h. refl ] (one_if_other r b (λ h. ne (sym h))) in
            omega (arith, stays, ap one_if same)
      ])
      (λ q resource at. elim (number_cases q r) [
        | inl same ↦
            let one : one_if (eqb r q) ≡ 1 = ap (λ n. one_if (eqb r n)) same ∙ one_if_same r in
            let yes : is_held (loads_with (Ready r)) w.resources q ≡ true = held q ∙ elim (eqb r q) as (λ t. one_if t ≡ 1 → cond t true (is_held w.loads w.resources q) ≡ true) [ true ↦ λ h. refl | false ↦ λ h. absurd (omega (arith, h)) ] one in
            omega (arith, ap one_if yes)
        | inr ne ↦
            let stays : occurrences q left ≡ occurrences q w.cached = without_other q r w.cached ne in
            let same : is_held (loads_with (Ready r)) w.resources q ≡ is_held w.loads w.resources q = held q ∙ elim (eqb r q) as (λ t. one_if t ≡ 0 → cond t true (is_held w.loads w.resources q) ≡ is_held w.loads w.resources q) [ true ↦ λ h. absurd (omega (arith, h)) | false ↦ λ h. refl ] (one_if_other r q (λ h. ne (sym h))) in
            omega (arith, stays, ap one_if same, s.places.kept q resource at)
      ]) s.places)
      (more_waiting (Ready r)) s.jobs
      (record {
        each = λ q is. elim (set_insert_cases w.active r q is) [
          | inl same ↦ (subst (IsCacheable w.resources) (sym same) cacheable, omega (arith, holders_added w.loads (who, mine) (Ready r) new q, ap (λ n. one_if (eqb r n)) same, one_if_same r))
          | inr is ↦ (active_as_before (Ready r)).each q is
        ];
        apart = λ p q a b p_in q_in at bt keys. elim (set_insert_cases w.active r p p_in) [
          | inl p_is ↦ elim (set_insert_cases w.active r q q_in) [
            | inl q_is ↦ p_is ∙ sym q_is
            | inr q_is ↦ absurd (no_other q b q_is bt (sym keys ∙ ap (λ (c : Resource). c.key) (same_Some _ _ (sym at ∙ ap (get w.resources) p_is ∙ there.1)) ∙ there.2))
          ]
          | inr p_is ↦ elim (set_insert_cases w.active r q q_in) [
            | inl q_is ↦ absurd (no_other p a p_is at (keys ∙ ap (λ (c : Resource). c.key) (same_Some _ _ (sym bt ∙ ap (get w.resources) q_is ∙ there.1)) ∙ there.2))
            | inr q_is ↦ s.active.apart p q a b p_is q_is at bt keys
          ]
        ];
      })
      (cached_without w.limits.memory w.resources r w.cached s.cached) s.lent

  by_active_keeps : (found : Option ℕ) → active_of w.resources w.active spec.key ≡ found
      → Sound (load_by_active w who spec found).1 (knowledge_with known who (events.Load spec) (load_by_active w who spec found).0)
  by_active_keeps None e = by_cache_keeps (cached_of w.resources w.cached spec.key) e refl
  by_active_keeps (Some r) e =
      let key = spec.key in
      let found = find-passes (has_key w.resources key) (set.items w.active) r e in
      let there = has_key-found w.resources key r found.0 in
      let old = s.active.each r (stands_item w.active r found.1) in
      let was : is_held w.loads w.resources r ≡ true = and_from _ _ (ap is_some there.1) (lt-ltb 0 _ old.1) in
      let held : (q : ℕ) → is_held (loads_with (Ready r)) w.resources q ≡ is_held w.loads w.resources q = λ q. gains r there.0 there.1 q ∙ elim (number_cases q r) [
        | inl same ↦ elim (eqb r q) as (λ t. cond t true (is_held w.loads w.resources q) ≡ is_held w.loads w.resources q) [ true ↦ sym (ap (is_held w.loads w.resources) same ∙ was) | false ↦ refl ]
        | inr ne ↦ elim (eqb r q) as (λ t. one_if t ≡ 0 → cond t true (is_held w.loads w.resources q) ≡ is_held w.loads w.resources q) [ true ↦ λ h. absurd (omega (arith, h)) | false ↦ λ h. refl ] (one_if_other r q (λ h. ne (sym h)))
      ] in
      added (Ready r) replies.Ready true w.jobs w.active w.cached (record w.counts { active = w.counts.active + 1 }) refl there (λ h. tt) (job_same w.jobs) (seats_same w.jobs)
      (places_from w.loads (loads_with (Ready r)) w.jobs w.jobs w.resources w.resources w.cached w.cached w.pool w.pool w.next
      (λ b. omega (arith, ap one_if (held b))) (λ q resource at. omega (arith, s.places.kept q resource at, ap one_if (held q))) s.places)
      (more_waiting (Ready r)) s.jobs (active_as_before (Ready r)) s.cached s.lent

  pub load_keeps : Sound (load w who spec).1 (knowledge_with known who (events.Load spec) (load w who spec).0)
  load_keeps =
      let rest : Outcome = cond spec.skip (load_from_jobs w who spec) (load_by_active w who spec (active_of w.resources w.active spec.key)) in
      elim (eqb (owned who w.loads) (quota_of w who)) as (λ t. Sound (cond t (replies.Full, w) rest).1 (knowledge_with known who (events.Load spec) (cond t (replies.Full, w) rest).0)) [
        | true ↦ now_known w known who (events.Load spec) replies.Full s (s.known_is who)
        | false ↦ elim spec.skip as (λ t. Sound (cond t (load_from_jobs w who spec) (load_by_active w who spec (active_of w.resources w.active spec.key))).1
            (knowledge_with known who (events.Load spec) (cond t (load_from_jobs w who spec) (load_by_active w who spec (active_of w.resources w.active spec.key))).0)) [
              | true ↦ from_jobs_keeps
              | false ↦ by_active_keeps (active_of w.resources w.active spec.key) refl
            ]
      ]

pub load_law : (spec : LoadSpec) → KeepsSound (events.Load spec)
load_law spec w z known who reply in_range s permits step =
    from_outcome known who (events.Load spec) reply z (load w who spec) step (load_keeps w known who spec in_range s)
