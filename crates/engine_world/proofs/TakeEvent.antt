-- The event Take.
use Rattle.std.proofs.Common.{◌≡◌, ◌≢◌, ℕ, ◌+◌, ◌*◌, ◌<◌, ◌≤◌, eqb, List, [], ◌∷◌, ◌++◌, map, length, Some, None, Option, refl, ap, sym, subst, ◌∙◌, inl, inr, arith}
use Rattle.std.specs.Option.{option_map}
use Rattle.std.specs.FinMap.{get, insert}
use Rattle.std.proofs.lemmas.List.{length-append}
use Rattle.bitmap_kind.specs.declared.bitmaps.Config.{Config}
use Rattle.bitmap_kind.specs.Picture.{stored_size}
use Rattle.engine_world.specs.declared.events.Event.TheVariants as events
use Rattle.engine_world.specs.declared.events.NotedReply.{NotedReply}
use Rattle.engine_world.specs.declared.events.NotedReply.TheVariants as replies
use Rattle.engine_world.specs.declared.events.Lent.{Lent}
use Rattle.bitmap_pool.specs.Pool.{Group, Picked, pooled, pool_pick, serving_size}
use Rattle.engine_world.specs.World.{Job, Counts, World}
use Rattle.engine_world.specs.Places.{one_if, occurrences, lent_numbers, times_out, whereabouts, times_kept, OnePlace}
use Rattle.engine_world.specs.Moves.{lend}
use Rattle.engine_world.specs.Steps.{Outcome, Wanted, wanted_size, lent_as, take_pooled, take_new, TakeFrom}
use Rattle.engine_world.specs.Knowledge.{OwnJob, Knowledge, job_with, knowledge_with}
use Rattle.engine_world.specs.Permits.{IsRunning}
use Rattle.engine_world.specs.Sound.{IsJob, JobsAre, PoolIs, Serves, AllServe, JobAgrees, facts, KnowledgeAgrees, Sound}
use Rattle.engine_world.specs.Laws.{KeepsSound}
use Rattle.engine_world.specs.OccurrenceLaws.{one_if_same, one_if_other}
use Rattle.engine_world.specs.NumberLaws.{number_cases}
use Rattle.engine_world.proofs.Parts.{whereabouts_of, facts_of}
use Rattle.finite_maps.specs.MapLaws.{not_Some, same_Some}
use Rattle.engine_world.proofs.Orders.{at_each_seat}
use Rattle.engine_world.proofs.Occurs.{found_at}
use Rattle.engine_world.proofs.PoolLaws.{pick_is, pick_number, serving_size-within}
use Rattle.engine_world.proofs.Jobs.{awaited_changed, jobs_changed, lent_changed, knows_other, knows_mine}
use Rattle.engine_world.proofs.QuietEvents.{from_outcome}
use Rattle.engine_world.proofs.Placing.{out_changed, places_less}

-- one more that is lent
lent_more : (b : ℕ) (out : List Lent) (lent : Lent) → occurrences b (map (λ (l : Lent). l.number) (out ++ lent ∷ [])) ≡ occurrences b (map (λ (l : Lent). l.number) out) + one_if (eqb lent.number b)
lent_more b [] lent = omega arith
lent_more b (l ∷ out) lent =
    let rest : occurrences b (map (λ (l : Lent). l.number) (out ++ lent ∷ [])) ≡ occurrences b (map (λ (l : Lent). l.number) out) + one_if (eqb lent.number b) = lent_more b out lent in
    omega (arith, rest)

all_serve_more : (out : List Lent) (lent : Lent) → AllServe out → Serves lent.allocation lent.width lent.height lent.config → AllServe (out ++ lent ∷ [])
all_serve_more [] lent all one = (one, tt)
all_serve_more (l ∷ out) lent all one = (all.0, all_serve_more out lent all.1 one)

-- a seat's own job: what the state has of it
pub record Runs (w : World) (who j : ℕ) (own : OwnJob) : Type 0 where
  pub job : Job
  pub at : get w.jobs j ≡ Some job
  pub is : JobAgrees who own job

pub runs : (w : World) (known : ℕ → Knowledge) (who j : ℕ) → Sound w known → (run : IsRunning (known who) j) → Runs w who j run.job
runs w known who j s run = let found = (s.known_is who).runs run.job run.is in record { job = found.0; at = ap (get w.jobs) (sym run.number) ∙ found.1; is = found.2 }

-- nobody else's job is this one
pub not_theirs : (w : World) (known : ℕ → Knowledge) (who j k : ℕ) (own : OwnJob) (r : Runs w who j own) → k ≢ who → r.job.seat ≢ Some k
not_theirs w known who j k own r ne e = ne (same_Some k who (sym e ∙ r.is.seat))

-- and the caller has no other one
pub no_other : (w : World) (known : ℕ → Knowledge) (who j : ℕ) → Sound w known → (run : IsRunning (known who) j) → (i k : ℕ) (a : Job) → get w.jobs i ≡ Some a → a.seat ≡ Some k → Some who ≡ Some k → i ≡ j
no_other w known who j s run i k a at sits same =
    let found = (s.known_is who).knows i a at (sits ∙ sym same) in
    sym found.2 ∙ ap (λ (o : OwnJob). o.number) (same_Some _ _ (sym found.1 ∙ run.is)) ∙ run.number

-- pool, next number and counts have changed, and a bitmap is lent
lend_keeps : (w : World) (known : ℕ → Knowledge) (who j width height : ℕ) (config : Config) (lent : Lent) (pool : List (Group ℕ)) (next : ℕ) (counts : Counts)
    → counts.started ≡ w.counts.started → Sound w known → (run : IsRunning (known who) j) → run.job.takes < 2 → (r : Runs w who j run.job)
    → PoolIs w.limits.pool pool → Serves lent.allocation lent.width lent.height lent.config
    → OnePlace (whereabouts_of w.loads (insert w.jobs j (record r.job { takes = r.job.takes + 1; out = r.job.out ++ lent ∷ [] })) w.resources w.cached pool) next
    → Sound (lend j (Some r.job) lent (record w { pool = pool; next = next; counts = counts })) (knowledge_with known who (events.Take j width height config) (replies.Taken lent))
lend_keeps w known who j width height config lent pool next counts started s run few r pool_is serves one =
    let now : Job = record r.job { takes = r.job.takes + 1; out = r.job.out ++ lent ∷ [] } in
    let is_job : IsJob w.counts.started j r.job = s.jobs.each j r.job r.at in
    let own : OwnJob = record run.job { takes = run.job.takes + 1; out = run.job.out ++ lent ∷ [] } in
    let long : length (r.job.out ++ lent ∷ []) ≡ length r.job.out + 1 = length-append r.job.out (lent ∷ []) in
    let known_job : record (known who) { job = Some own } ≡ record (known who) { job = job_with lent (known who).job } = ap (λ (o : Option OwnJob). record (known who) { job = job_with lent o }) (sym run.is) in
    record {
      places = one;
      awaited = awaited_changed w.jobs j r.job now r.at refl w.loads (λ e. e) s.awaited;
      jobs = subst (λ n. JobsAre n (insert w.jobs j now)) (sym started) (jobs_changed w.jobs j r.job now r.at refl w.counts.started (λ e. e)
          (record { below = is_job.below; queued = λ e. absurd (not_Some (sym e ∙ r.is.seat)); out = omega (arith, is_job.out, long); takes = omega (arith, few, r.is.takes) })
          (λ i k a at sits mine. no_other w known who j s run i k a at sits (sym r.is.seat ∙ mine)) s.jobs);
      active = s.active;
      cached = s.cached;
      pool = pool_is;
      lent = lent_changed w.jobs j r.job now r.at refl (all_serve_more r.job.out lent (s.lent j r.job r.at) serves) s.lent;
      resources = s.resources;
      seats = s.seats;
      known_is = at_each_seat (KnowledgeAgrees (facts_of w.loads (insert w.jobs j now) w.resources w.begun)) known who (events.Take j width height config) (replies.Taken lent)
          (λ k ne. knows_other w.loads w.jobs w.resources w.begun j who r.job now r.at refl refl r.is.seat k (known k) ne (not_theirs w known who j k run.job r ne) (s.known_is k))
          (subst (KnowledgeAgrees (facts_of w.loads (insert w.jobs j now) w.resources w.begun) who) known_job
          (knows_mine w.loads w.jobs w.resources w.begun j who r.job now r.at refl refl r.is.seat (known who) own run.number
          (record { seat = r.is.seat; spec = r.is.spec; takes = ap (λ n. n + 1) r.is.takes; out = ap (λ o. o ++ lent ∷ []) r.is.out; cancelled = r.is.cancelled })
          (λ old is. ap (λ (o : OwnJob). o.number) (same_Some _ _ (sym is ∙ run.is)) ∙ run.number) (s.known_is who)));
    }

-- where the pool has changed and no more
pooled_keeps : (w : World) (known : ℕ → Knowledge) (who j width height : ℕ) (config : Config) (pool : List (Group ℕ)) → Sound w known → PoolIs w.limits.pool pool
    → ((b : ℕ) → occurrences b (pooled pool) ≤ occurrences b (pooled w.pool)) → Sound (record w { pool = pool }) (knowledge_with known who (events.Take j width height config) replies.NoMemory)
pooled_keeps w known who j width height config pool s pool_is less = record {
  places = places_less w.loads w.jobs w.jobs w.resources w.cached w.pool pool w.next (λ b. omega (arith, less b)) s.places;
  awaited = s.awaited;
  jobs = s.jobs;
  active = s.active;
  cached = s.cached;
  pool = pool_is;
  lent = s.lent;
  resources = s.resources;
  seats = s.seats;
  known_is = at_each_seat (KnowledgeAgrees (facts w)) known who (events.Take j width height config) replies.NoMemory (λ k ne. s.known_is k) (s.known_is who);
}

-- a new bitmap has a new number
new_place : (w : World) (known : ℕ → Knowledge) (j : ℕ) (job : Job) (lent : Lent) (pool : List (Group ℕ)) → Sound w known → get w.jobs j ≡ Some job → lent.number ≡ w.next
    → ((b : ℕ) → occurrences b (pooled pool) ≤ occurrences b (pooled w.pool))
    → OnePlace (whereabouts_of w.loads (insert w.jobs j (record job { takes = job.takes + 1; out = job.out ++ lent ∷ [] })) w.resources w.cached pool) (w.next + 1)
new_place w known j job lent pool s at number less =
    let now : Job = record job { takes = job.takes + 1; out = job.out ++ lent ∷ [] } in
    let more : (b : ℕ) → times_out (insert w.jobs j now) b ≡ times_out w.jobs b + one_if (eqb lent.number b) = λ b.
    let changed : times_out (insert w.jobs j now) b + occurrences b (lent_numbers job) ≡ times_out w.jobs b + occurrences b (lent_numbers now) = out_changed w.jobs j job now b at in
    let one_more : occurrences b (lent_numbers now) ≡ occurrences b (lent_numbers job) + one_if (eqb lent.number b) = lent_more b job.out lent in
    omega (arith, changed, one_more) in
    record {
      once = λ b. elim (number_cases lent.number b) [
        | inl same ↦
            let none : ¬ (0 < times_kept (whereabouts w) b) = λ some. let under : b < w.next = s.places.below b some in absurd (omega (arith, under, same, number)) in
            let here : one_if (eqb lent.number b) ≡ 1 = ap (λ n. one_if (eqb n b)) same ∙ one_if_same b in
            omega (arith, none, here, more b, less b)
        | inr ne ↦
            let here : one_if (eqb lent.number b) ≡ 0 = one_if_other lent.number b ne in
            let old : times_kept (whereabouts w) b ≤ 1 = s.places.once b in
            omega (arith, here, more b, less b, old)
      ];
      below = λ b some. elim (number_cases lent.number b) [
        | inl same ↦ omega (arith, same, number)
        | inr ne ↦
            let here : one_if (eqb lent.number b) ≡ 0 = one_if_other lent.number b ne in
            let old : b < w.next = s.places.below b (omega (arith, some, here, more b, less b)) in
            omega (arith, old)
      ];
      kept = s.places.kept;
    }

module _ (w : World) (known : ℕ → Knowledge) (who j width height : ℕ) (config : Config) (s : Sound w known) (run : IsRunning (known who) j) (few : run.job.takes < 2) where
  abbrev wanted : Wanted
  wanted = record { job = j; width = width; height = height; config = config }

  abbrev size : ℕ
  size = serving_size config (wanted_size wanted) w.pool

  abbrev picked : Picked ℕ
  picked = pool_pick config (wanted_size wanted) w.pool

  abbrev asked : World
  asked = record w { pool = picked.groups }

  -- what comes of it is sound
  abbrev IsKept : Outcome → Type 0
  IsKept outcome = Sound outcome.1 (knowledge_with known who (events.Take j width height config) outcome.0)

  r : Runs w who j run.job
  r = runs w known who j s run

  -- of a number, what the pool had is what it has and what it gave
  gave : (found : Option ℕ) → picked.found ≡ found → (c : ℕ) → occurrences c (pooled w.pool) ≡ occurrences c (pooled picked.groups) + found_at c found
  gave found is c = pick_number size config c w.pool ∙ ap (λ f. occurrences c (pooled picked.groups) + found_at c f) is

  pool_is : PoolIs w.limits.pool picked.groups
  pool_is = pick_is w.limits.pool size config w.pool s.pool

  pooled_taken : (b : ℕ) → picked.found ≡ Some b → IsKept (take_pooled j (lent_as wanted b picked.size) asked)
  pooled_taken b is =
      let lent = lent_as wanted b picked.size in
      let now : Job = record r.job { takes = r.job.takes + 1; out = r.job.out ++ lent ∷ [] } in
      let counts : Counts = record w.counts { takes = w.counts.takes + 1; reused = w.counts.reused + 1 } in
      let within : (wanted_size wanted ≤ size) × (size ≤ 8 * wanted_size wanted) = serving_size-within config (wanted_size wanted) w.pool in
      let one : OnePlace (whereabouts_of w.loads (insert w.jobs j now) w.resources w.cached picked.groups) w.next =
      places_less w.loads w.jobs (insert w.jobs j now) w.resources w.cached w.pool picked.groups w.next (λ c.
      let changed : times_out (insert w.jobs j now) c + occurrences c (lent_numbers r.job) ≡ times_out w.jobs c + occurrences c (lent_numbers now) = out_changed w.jobs j r.job now c r.at in
      let one_more : occurrences c (lent_numbers now) ≡ occurrences c (lent_numbers r.job) + one_if (eqb b c) = lent_more c r.job.out lent in
      omega (arith, changed, one_more, gave (Some b) is c)) s.places in
      subst (λ found. Sound (lend j found lent (record w { pool = picked.groups; counts = counts })) (knowledge_with known who (events.Take j width height config) (replies.Taken lent))) (sym r.at)
      (lend_keeps w known who j width height config lent picked.groups w.next counts refl s run few r pool_is (record { room = within.0; most = within.1 }) one)

  none_more : picked.found ≡ None → (c : ℕ) → occurrences c (pooled picked.groups) ≤ occurrences c (pooled w.pool)
  none_more is c = omega (arith, gave None is c)

  new_taken : picked.found ≡ None → IsKept (take_new j (lent_as wanted w.next (wanted_size wanted)) asked)
  new_taken is =
      let lent = lent_as wanted w.next (wanted_size wanted) in
      let counts : Counts = record w.counts { takes = w.counts.takes + 1 } in
      subst (λ found. Sound (lend j found lent (record w { pool = picked.groups; next = w.next + 1; counts = counts })) (knowledge_with known who (events.Take j width height config) (replies.Taken lent))) (sym r.at)
      (lend_keeps w known who j width height config lent picked.groups (w.next + 1) counts refl s run few r pool_is (record { room = omega arith; most = omega arith })
      (new_place w known j r.job lent picked.groups s r.at refl (none_more is)))

  take_keeps : (reply : NotedReply) (z : World) (found : Option ℕ) → picked.found ≡ found
      → TakeFrom wanted asked (option_map (λ b. lent_as wanted b picked.size) found) reply z → Sound z (knowledge_with known who (events.Take j width height config) reply)
  take_keeps reply z (Some b) is step = from_outcome known who (events.Take j width height config) reply z (take_pooled j (lent_as wanted b picked.size) asked) step (pooled_taken b is)
  take_keeps reply z None is step = elim step [
    | inl step ↦ from_outcome known who (events.Take j width height config) reply z (take_new j (lent_as wanted w.next (wanted_size wanted)) asked) step (new_taken is)
    | inr step ↦ from_outcome known who (events.Take j width height config) reply z (replies.NoMemory, asked) step (pooled_keeps w known who j width height config picked.groups s pool_is (none_more is))
  ]

pub take_law : (j width height : ℕ) (config : Config) → KeepsSound (events.Take j width height config)
take_law j width height config w z known who reply in_range s permits step =
    take_keeps w known who j width height config s permits.0 permits.1 reply z (pool_pick config (stored_size width height config) w.pool).found refl step
