-- The events that end a job: Quit, Fail and Finish.
use Rattle.std.proofs.Common.{◌≡◌, ◌≢◌, ℕ, ◌+◌, ◌<◌, ◌≤◌, Bool, true, false, eqb, ltb, List, [], ◌∷◌, map, Some, None, Option, refl, ap, sym, subst, ◌∙◌, inl, inr, arith, true≢false}
use Rattle.std.specs.Prelude.{◌⊎◌, ◌&&◌, not, sum_by}
use Rattle.std.specs.Ordering.{nat_cmp, eq_by_cmp}
use Rattle.std.specs.Cmp.{nat_cmp_total}
use Rattle.std.specs.FinMap.{get, insert, remove, contains_key, nat_cmp-IsAntisymmetric}
use Rattle.std.specs.FinSet as set
use Rattle.std.specs.Option.{is_some}
use Rattle.std.proofs.lemmas.List.Sums.{sum_by-cons}
use Rattle.bitmap_kind.specs.Picture.{BitmapValue}
use Rattle.cache_key.specs.Key.{Key}
use Rattle.engine_world.specs.declared.events.Event.TheVariants as events
use Rattle.engine_world.specs.declared.events.NotedReply.TheVariants as replies
use Rattle.load_cause.specs.declared.causes.Cause.{Cause}
use Rattle.engine_world.specs.declared.events.Lent.{Lent}
use Rattle.finite_maps.specs.Maps.{map_values}
use Rattle.bitmap_pool.specs.Pool.{Group}
use Rattle.load_table.specs.declared.loads.Settle.TheVariants as settles
use Rattle.load_table.specs.Loads.{settled, holders}
use Rattle.active_resources.specs.Actives.{Numbers}
use Rattle.engine_world.specs.World.{Loads, Job, Jobs, Resource, Resources, World}
use Rattle.engine_world.specs.Places.{one_if, occurrences, lent_numbers, is_held, times_out, whereabouts, times_kept, OnePlace}
use Rattle.engine_world.specs.Moves.{has_key, active_of, size_of, end_job}
use Rattle.engine_world.specs.Steps.{replace}
use Rattle.engine_world.specs.Knowledge.{Knowledge, knowledge_with}
use Rattle.engine_world.specs.Permits.{IsRunning, IsLent, IsResult, IsPicture}
use Rattle.engine_world.specs.Sound.{IsCacheable, KeysApart, ActiveAre, Serves, AllServe, IsResource, KnowledgeAgrees, Sound}
use Rattle.engine_world.specs.Laws.{KeepsSound}
use Rattle.engine_world.specs.KeyedLaws.{has_key-found, has_key-there}
use Rattle.engine_world.specs.OccurrenceLaws.{find-passes, find-none, item_stands, stands_item, one_if_same, one_if_other}
use Rattle.engine_world.specs.NumberLaws.{number_cases, put_same, put_other, put_cases, gone_other, gone_found}
use Rattle.engine_world.proofs.Parts.{whereabouts_of, facts_of}
use Rattle.finite_maps.specs.MapLaws.{not_Some, same_Some, key_same, key_itself}
use Rattle.std.proofs.lemmas.Bool.{lt-ltb, and_parts, and_from, or_cases}
use Rattle.engine_world.proofs.Orders.{at_each_seat}
use Rattle.engine_world.proofs.Jobs.{jobs_gone, lent_gone, ResourceStays, resource_same, agree_stays}
use Rattle.engine_world.proofs.Placing.{out_gone, out_at, places_less}
use Rattle.engine_world.proofs.QuietEvents.{from_outcome}
use Rattle.engine_world.proofs.TakeEvent.{Runs, runs, not_theirs, no_other}
use Rattle.engine_world.proofs.Ends.{holders_settled, held_settled, awaited_settled, knows_settled, knows_ended, stays_cancelled}

-- No number stands more often than it did, and what is a resource is held or cached.
pub places_from : (loads loads' : Loads) (jobs jobs' : Jobs) (resources resources' : Resources) (cached cached' : List ℕ) (pool pool' : List (Group ℕ)) (next : ℕ)
    → ((b : ℕ) → times_kept (whereabouts_of loads' jobs' resources' cached' pool') b ≤ times_kept (whereabouts_of loads jobs resources cached pool) b)
    → ((r : ℕ) (resource : Resource) → get resources' r ≡ Some resource → 0 < one_if (is_held loads' resources' r) + occurrences r cached')
    → OnePlace (whereabouts_of loads jobs resources cached pool) next → OnePlace (whereabouts_of loads' jobs' resources' cached' pool') next
places_from loads loads' jobs jobs' resources resources' cached cached' pool pool' next less kept one = record {
  once = λ b. omega (arith, less b, one.once b);
  below = λ b h. one.below b (omega (arith, less b, h));
  kept = kept;
}

one_if_le : (t : Bool) → one_if t ≤ 1
one_if_le true = omega arith
one_if_le false = omega arith

pub held_same : (loads loads' : Loads) (resources resources' : Resources) (q : ℕ) → holders q loads' ≡ holders q loads → get resources' q ≡ get resources q → is_held loads' resources' q ≡ is_held loads resources q
held_same loads loads' resources resources' q count at = ap (λ n. contains_key resources' q && ltb 0 n) count ∙ ap (λ o. is_some o && ltb 0 (holders q loads)) at

-- the sizes of what is cached are as they were
pub sizes_same : (f g : ℕ → ℕ) (xs : List ℕ) → ((q : ℕ) → 0 < occurrences q xs → f q ≡ g q) → sum_by f xs ≡ sum_by g xs
sizes_same f g [] h = refl
sizes_same f g (x ∷ xs) h =
    let here : one_if (eqb x x) ≡ 1 = one_if_same x in
    let first : f x ≡ g x = h x (omega (arith, here)) in
    let rest : sum_by f xs ≡ sum_by g xs = sizes_same f g xs (λ q some. h q (omega (arith, some))) in
    sum_by-cons f x xs ∙ ap (λ n. n + sum_by f xs) first ∙ ap (λ n. g x + n) rest ∙ sym (sum_by-cons g x xs)

-- ---- Quit

-- a cancelled job goes: what the others know
pub gone_other_knows : (w : World) (known : ℕ → Knowledge) (who j k : ℕ) → Sound w known → (run : IsRunning (known who) j) → (r : Runs w who j run.job) → r.job.cancelled ≡ true → k ≢ who
    → KnowledgeAgrees (facts_of w.loads (remove w.jobs j) w.resources w.begun) k (known k)
gone_other_knows w known who j k s run r dead ne =
    let knows = s.known_is k in
    record {
      count = knows.count;
      below = knows.below;
      each = λ n. agree_stays w.jobs (remove w.jobs j) w.resources w.resources (get (known k).loads n) (get w.loads (k, n))
          (λ st i e f. stays_cancelled w.loads w.jobs w.resources w.begun j r.job r.at dead i) (λ st q e f. resource_same w.resources q) (knows.each n);
      live = knows.live;
      runs = λ own at.
          let old = knows.runs own at in
          let apart : own.number ≢ j = λ same. not_theirs w known who j k run.job r ne (ap (λ (a : Job). a.seat) (same_Some _ _ (sym r.at ∙ ap (get w.jobs) (sym same) ∙ old.1)) ∙ old.2.seat) in
          (old.0, gone_other w.jobs j own.number apart ∙ old.1, old.2);
      knows = λ i b at sits. knows.knows i b (gone_found w.jobs j i b at).1 sits;
    }

-- and its seat
pub gone_mine_knows : (w : World) (known : ℕ → Knowledge) (who j : ℕ) → Sound w known → (run : IsRunning (known who) j) → (r : Runs w who j run.job) → r.job.cancelled ≡ true
    → KnowledgeAgrees (facts_of w.loads (remove w.jobs j) w.resources w.begun) who (record (known who) { job = None })
gone_mine_knows w known who j s run r dead =
    let knows = s.known_is who in
    record {
      count = knows.count;
      below = knows.below;
      each = λ n. agree_stays w.jobs (remove w.jobs j) w.resources w.resources (get (known who).loads n) (get w.loads (who, n))
          (λ st i e f. stays_cancelled w.loads w.jobs w.resources w.begun j r.job r.at dead i) (λ st q e f. resource_same w.resources q) (knows.each n);
      live = knows.live;
      runs = λ own at. absurd (not_Some at);
      knows = λ i b at sits. let found = gone_found w.jobs j i b at in absurd (found.0 (no_other w known who j s run i who b found.1 sits refl));
    }

quit_keeps : (w : World) (known : ℕ → Knowledge) (who j : ℕ) → Sound w known → (run : IsRunning (known who) j) → run.job.out ≡ [] → run.job.cancelled ≡ true → (r : Runs w who j run.job)
    → Sound (record w { jobs = remove w.jobs j }) (knowledge_with known who (events.Quit j) replies.Done)
quit_keeps w known who j s run empty told r = record {
  places = places_less w.loads w.jobs (remove w.jobs j) w.resources w.cached w.pool w.pool w.next (λ b. omega (arith, out_gone w.jobs j r.job b r.at)) s.places;
  awaited = λ i a at live. s.awaited i a (gone_found w.jobs j i a at).1 live;
  jobs = jobs_gone w.jobs j w.counts.started s.jobs;
  active = s.active;
  cached = s.cached;
  pool = s.pool;
  lent = lent_gone w.jobs j s.lent;
  resources = s.resources;
  seats = s.seats;
  known_is = at_each_seat (KnowledgeAgrees (facts_of w.loads (remove w.jobs j) w.resources w.begun)) known who (events.Quit j) replies.Done
      (λ k ne. gone_other_knows w known who j k s run r (r.is.cancelled told) ne) (gone_mine_knows w known who j s run r (r.is.cancelled told));
}

-- ---- Fail

fail_keeps : (w : World) (known : ℕ → Knowledge) (who j : ℕ) (cause : Cause) → Sound w known → (run : IsRunning (known who) j) → (r : Runs w who j run.job)
    → Sound (end_job j (settles.Failed cause) w) (knowledge_with known who (events.Fail j cause) replies.Done)
fail_keeps w known who j cause s run r =
    let loads : Loads = map_values (settled j (settles.Failed cause)) w.loads in
    let holders_same : (q : ℕ) → holders q loads ≡ holders q w.loads = λ q. holders_settled w.loads j (settles.Failed cause) q refl in
    let held : (q : ℕ) → is_held loads w.resources q ≡ is_held w.loads w.resources q = λ q. held_same w.loads loads w.resources w.resources q (holders_same q) refl in
    record {
      places = places_from w.loads loads w.jobs (remove w.jobs j) w.resources w.resources w.cached w.cached w.pool w.pool w.next
          (λ b. omega (arith, out_gone w.jobs j r.job b r.at, ap one_if (held b)))
          (λ q resource at. omega (arith, s.places.kept q resource at, ap one_if (held q))) s.places;
      awaited = awaited_settled w.loads j (settles.Failed cause) w.jobs (λ i. refl) s.awaited;
      jobs = jobs_gone w.jobs j w.counts.started s.jobs;
      active = record { each = λ q is. let old = s.active.each q is in (old.0, omega (arith, holders_same q, old.1)); apart = s.active.apart };
      cached = s.cached;
      pool = s.pool;
      lent = lent_gone w.jobs j s.lent;
      resources = s.resources;
      seats = s.seats;
      known_is = at_each_seat (KnowledgeAgrees (facts_of loads (remove w.jobs j) w.resources w.begun)) known who (events.Fail j cause) replies.Done
          (λ k ne. knows_settled w.jobs w.resources w.resources j r.job r.at (settles.Failed cause) (λ load e. tt) w.loads w.begun (resource_same w.resources) k (known k) (not_theirs w known who j k run.job r ne) (s.known_is k))
          (knows_ended w.jobs w.resources w.resources j r.job r.at (settles.Failed cause) (λ load e. tt) w.loads w.begun (resource_same w.resources) who (known who)
          (λ i a at sits. no_other w known who j s run i who a at sits refl) (s.known_is who));
    }

pub quit_law : (j : ℕ) → KeepsSound (events.Quit j)
quit_law j w z known who reply in_range s permits step =
    from_outcome known who (events.Quit j) reply z (replies.Done, record w { jobs = remove w.jobs j }) step
    (quit_keeps w known who j s permits.0 permits.1 permits.2 (runs w known who j s permits.0))

pub fail_law : (j : ℕ) (cause : Cause) → KeepsSound (events.Fail j cause)
fail_law j cause w z known who reply in_range s permits step =
    from_outcome known who (events.Fail j cause) reply z (replies.Done, end_job j (settles.Failed cause) w) step
    (fail_keeps w known who j cause s permits.0 (runs w known who j s permits.0))

-- ---- Finish

pub set_insert_cases : (s : Numbers) (k q : ℕ) → set.contains (set.insert s k) q ≡ true → (q ≡ k) ⊎ (set.contains s q ≡ true)
set_insert_cases s k q e = elim (or_cases (eq_by_cmp nat_cmp q k) (set.contains s q) (sym (set.contains-insert nat_cmp_total s k q) ∙ e)) [
  | inl is ↦ inl (key_same nat_cmp_total nat_cmp-IsAntisymmetric q k is)
  | inr is ↦ inr is
]

pub set_remove_found : (s : Numbers) (k q : ℕ) → set.contains (set.remove s k) q ≡ true → (q ≢ k) × (set.contains s q ≡ true)
set_remove_found s k q e =
    let both : (not (eq_by_cmp nat_cmp q k) && set.contains s q) ≡ true = sym (set.contains-remove nat_cmp_total s k q) ∙ e in
    (λ same. true≢false (sym (and_parts _ _ both).0 ∙ ap not (ap (λ n. eq_by_cmp nat_cmp n k) same ∙ key_itself nat_cmp_total nat_cmp-IsAntisymmetric k)), (and_parts _ _ both).1)

-- what stays active when another of its key becomes so has another key
pub replaced_apart : (resources : Resources) (active : Numbers) (key : Key) (q : ℕ) → ((r : ℕ) → set.contains active r ≡ true → IsCacheable resources r) → KeysApart resources (λ r. set.contains active r ≡ true)
    → set.contains (replace (active_of resources active key) active) q ≡ true → (set.contains active q ≡ true) × ((resource : Resource) → get resources q ≡ Some resource → resource.key ≢ key)
replaced_apart resources active key q each apart is =
    elim (active_of resources active key) as (λ o. active_of resources active key ≡ o → set.contains (replace o active) q ≡ true → (set.contains active q ≡ true) × ((resource : Resource) → get resources q ≡ Some resource → resource.key ≢ key)) [
      | None ↦ λ e is. (is, λ resource at same. true≢false (sym (has_key-there resources key q resource at same) ∙ find-none (has_key resources key) (set.items active) q e (item_stands active q is)))
      | Some p ↦ λ e is.
          let found = find-passes (has_key resources key) (set.items active) p e in
          let other = has_key-found resources key p found.0 in
          let left = set_remove_found active p q is in
          (left.1, λ resource at same. left.0 (sym (apart p q other.0 resource (stands_item active p found.1) left.1 other.1 at (other.2 ∙ sym same))))
    ] refl is

serves_as : (lent : Lent) (bitmap : BitmapValue) → IsLent bitmap lent → bitmap.picture.width ≡ lent.width → bitmap.picture.height ≡ lent.height → bitmap.picture.config ≡ lent.config
    → Serves lent.allocation lent.width lent.height lent.config → Serves bitmap.allocation bitmap.picture.width bitmap.picture.height bitmap.picture.config
serves_as lent bitmap same wide high config serves =
    subst (λ a. Serves a bitmap.picture.width bitmap.picture.height bitmap.picture.config) (sym same.allocation)
    (subst (λ n. Serves lent.allocation n bitmap.picture.height bitmap.picture.config) (sym wide)
    (subst (λ n. Serves lent.allocation lent.width n bitmap.picture.config) (sym high)
    (subst (λ c. Serves lent.allocation lent.width lent.height c) (sym config) serves)))

-- a number that is out is no resource's, and is not cached
pub out_is_fresh : (w : World) (known : ℕ → Knowledge) (j : ℕ) (job : Job) (r : ℕ) → Sound w known → get w.jobs j ≡ Some job → 0 < occurrences r (lent_numbers job)
    → (occurrences r w.cached ≡ 0) × ((resource : Resource) → get w.resources r ≢ Some resource)
out_is_fresh w known j job r s at some =
    let out : occurrences r (lent_numbers job) ≤ times_out w.jobs r = out_at w.jobs j job r at in
    let once : times_kept (whereabouts w) r ≤ 1 = s.places.once r in
    (omega (arith, out, once, some), λ resource is. let kept : 0 < one_if (is_held w.loads w.resources r) + occurrences r w.cached = s.places.kept r resource is in absurd (omega (arith, out, once, some, kept)))

pub record Finished (w : World) (known : ℕ → Knowledge) (who j : ℕ) (bitmap : BitmapValue) : Type 0 where
  pub s : Sound w known
  pub run : IsRunning (known who) j
  pub r : Runs w who j run.job
  pub result : IsResult bitmap run.job.out
  pub shown : IsPicture w.content run.job.spec.key bitmap.picture

out_is : (w : World) (known : ℕ → Knowledge) (who j : ℕ) (bitmap : BitmapValue) (f : Finished w known who j bitmap) → f.r.job.out ≡ f.result.lent ∷ []
out_is w known who j bitmap f = f.r.is.out ∙ f.result.only

pub out_counts : (w : World) (known : ℕ → Knowledge) (who j : ℕ) (bitmap : BitmapValue) (f : Finished w known who j bitmap) (b : ℕ) → occurrences b (lent_numbers f.r.job) ≡ one_if (eqb bitmap.number b)
out_counts w known who j bitmap f b =
    let one : occurrences b (lent_numbers f.r.job) ≡ one_if (eqb f.result.lent.number b) + 0 = ap (λ (o : List Lent). occurrences b (map (λ (l : Lent). l.number) o)) (out_is w known who j bitmap f) in
    let same : one_if (eqb bitmap.number b) ≡ one_if (eqb f.result.lent.number b) = ap (λ n. one_if (eqb n b)) f.result.same.number in
    omega (arith, one, same)

-- the loads, jobs and resources are those of a finished job, and these are active
pub finish_with : (w : World) (known : ℕ → Knowledge) (who j : ℕ) (bitmap : BitmapValue) (f : Finished w known who j bitmap) → f.r.job.cancelled ≡ false → (cacheable : Bool) (active : Numbers)
    → ActiveAre (map_values (settled j (settles.Ready bitmap.number)) w.loads) (insert w.resources bitmap.number (record { key = f.r.job.spec.key; cacheable = cacheable; allocation = bitmap.allocation; picture = bitmap.picture })) active
    → Sound (end_job j (settles.Ready bitmap.number) (record w { active = active; resources = insert w.resources bitmap.number (record { key = f.r.job.spec.key; cacheable = cacheable; allocation = bitmap.allocation; picture = bitmap.picture }) }))
    (knowledge_with known who (events.Finish j bitmap) replies.Done)
finish_with w known who j bitmap f live cacheable active active_are =
    let s = f.s in
    let job = f.r.job in
    let n = bitmap.number in
    let resource : Resource = record { key = job.spec.key; cacheable = cacheable; allocation = bitmap.allocation; picture = bitmap.picture } in
    let resources : Resources = insert w.resources n resource in
    let loads : Loads = map_values (settled j (settles.Ready n)) w.loads in
    let jobs : Jobs = remove w.jobs j in
    let counts : (b : ℕ) → occurrences b (lent_numbers job) ≡ one_if (eqb n b) = out_counts w known who j bitmap f in
    let some : 0 < occurrences n (lent_numbers job) = omega (arith, counts n, one_if_same n) in
    let fresh = out_is_fresh w known j job n s f.r.at some in
    let held : 0 < holders n loads = omega (arith, s.awaited j job f.r.at live, held_settled w.loads j n) in
    let at_other : (q : ℕ) → q ≢ n → get resources q ≡ get w.resources q = λ q ne. put_other w.resources n resource q ne in
    let held_other : (q : ℕ) → q ≢ n → is_held loads resources q ≡ is_held w.loads w.resources q = λ q ne.
    held_same w.loads loads w.resources resources q (holders_settled w.loads j (settles.Ready n) q (one_if_other n q (λ e. ne (sym e)))) (at_other q ne) in
    let stays : (q : ℕ) → ResourceStays w.resources resources q = λ q old at. elim (number_cases q n) [
      | inl same ↦ absurd (fresh.1 old (ap (get w.resources) (sym same) ∙ at))
      | inr ne ↦ (old, at_other q ne ∙ at, refl)
    ] in
    let cached_other : (q : ℕ) → 0 < occurrences q w.cached → q ≢ n = λ q is same. absurd (omega (arith, is, ap (λ c. occurrences c w.cached) same, fresh.0)) in
    let sizes : (q : ℕ) → 0 < occurrences q w.cached → size_of resources q ≡ size_of w.resources q = λ q is. ap (λ (o : Option Resource). Rattle.engine_world.specs.Moves.allocation_of o) (at_other q (cached_other q is)) in
    let all_sizes : sum_by (size_of resources) w.cached ≡ sum_by (size_of w.resources) w.cached = sizes_same (size_of resources) (size_of w.resources) w.cached sizes in
    record {
      places = places_from w.loads loads w.jobs jobs w.resources resources w.cached w.cached w.pool w.pool w.next
          (λ b.
          let gone : times_out w.jobs b ≡ occurrences b (lent_numbers job) + times_out jobs b = out_gone w.jobs j job b f.r.at in
          elim (number_cases b n) [
            | inl same ↦
                let one : one_if (eqb n b) ≡ 1 = ap (λ c. one_if (eqb n c)) same ∙ one_if_same n in
                omega (arith, gone, counts b, one, one_if_le (is_held loads resources b))
            | inr ne ↦ omega (arith, gone, ap one_if (held_other b ne))
          ])
          (λ q old at. elim (put_cases w.resources n resource q old at) [
            | inl h ↦
                let is : is_held loads resources q ≡ true = and_from _ _ (ap is_some at) (lt-ltb 0 (holders q loads) (subst (λ c. 0 < holders c loads) (sym h.0) held)) in
                omega (arith, ap one_if is)
            | inr h ↦ omega (arith, s.places.kept q old h.1, ap one_if (held_other q h.0))
          ]) s.places;
      awaited = awaited_settled w.loads j (settles.Ready n) w.jobs (λ i. refl) s.awaited;
      jobs = jobs_gone w.jobs j w.counts.started s.jobs;
      active = active_are;
      cached = record {
        each = λ q is. let old = s.cached.each q is in ((old.0.0, at_other q (cached_other q is) ∙ old.0.1, old.0.2), omega (arith, sizes q is, old.1));
        apart = λ p q a b p_in q_in at bt. s.cached.apart p q a b p_in q_in (sym (at_other p (cached_other p p_in)) ∙ at) (sym (at_other q (cached_other q q_in)) ∙ bt);
        size = omega (arith, all_sizes, s.cached.size);
        few = s.cached.few;
      };
      pool = s.pool;
      lent = lent_gone w.jobs j s.lent;
      resources = λ q old at. elim (put_cases w.resources n resource q old at) [
        | inl h ↦ subst (λ (a : Resource). IsResource w.content a) h.1 (record {
          serves = serves_as f.result.lent bitmap f.result.same f.result.wide f.result.high f.result.config (subst AllServe (out_is w known who j bitmap f) (s.lent j job f.r.at)).0;
          picture_is = subst (λ k. IsPicture w.content k bitmap.picture) (ap (λ p. p.key) (sym f.r.is.spec)) f.shown;
        })
        | inr h ↦ s.resources q old h.1
      ];
      seats = s.seats;
      known_is = at_each_seat (KnowledgeAgrees (facts_of loads jobs resources w.begun)) known who (events.Finish j bitmap) replies.Done
          (λ k ne. knows_settled w.jobs w.resources resources j job f.r.at (settles.Ready n) (λ load e. (resource, put_same w.resources n resource, e)) w.loads w.begun stays k (known k) (not_theirs w known who j k f.run.job f.r ne) (s.known_is k))
          (knows_ended w.jobs w.resources resources j job f.r.at (settles.Ready n) (λ load e. (resource, put_same w.resources n resource, e)) w.loads w.begun stays who (known who)
          (λ i a at sits. no_other w known who j s f.run i who a at sits refl) (s.known_is who));
    }
