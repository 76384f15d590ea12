-- The event GiveBack.
use Rattle.std.proofs.Common.{◌≡◌, ℕ, ◌+◌, ◌<◌, ◌≤◌, true, false, cond, eqb, List, [], ◌∷◌, map, length, Some, Option, refl, ap, sym, subst, ◌∙◌, inl, inr, arith}
use Rattle.std.specs.Prelude.{not}
use Rattle.std.specs.FinMap.{insert}
use Rattle.bitmap_kind.specs.Picture.{BitmapValue}
use Rattle.engine_world.specs.declared.events.Event.TheVariants as events
use Rattle.engine_world.specs.declared.events.NotedReply.TheVariants as replies
use Rattle.engine_world.specs.declared.events.Lent.{Lent}
use Rattle.bitmap_pool.specs.Pool.{pooled, pool_put}
use Rattle.engine_world.specs.World.{Job, World}
use Rattle.engine_world.specs.Places.{one_if, occurrences, lent_numbers, times_out}
use Rattle.engine_world.specs.Moves.{without, without_lent, take_back}
use Rattle.engine_world.specs.Steps.{bitmap_to_pool, give_back}
use Rattle.engine_world.specs.Knowledge.{OwnJob, Knowledge, job_without, knowledge_with}
use Rattle.engine_world.specs.Permits.{IsRunning, IsAmongLent}
use Rattle.engine_world.specs.Sound.{IsJob, AllServe, KnowledgeAgrees, Sound}
use Rattle.engine_world.specs.Laws.{KeepsSound}
use Rattle.engine_world.specs.OccurrenceLaws.{one_if_same, one_if_other, without_same, without_other}
use Rattle.engine_world.specs.NumberLaws.{number_cases}
use Rattle.engine_world.proofs.Parts.{facts_of}
use Rattle.finite_maps.specs.MapLaws.{same_Some}
use Rattle.engine_world.proofs.Orders.{at_each_seat}
use Rattle.engine_world.proofs.PoolLaws.{pool_put_is, pool_put_number}
use Rattle.engine_world.proofs.Jobs.{awaited_changed, jobs_changed, lent_changed, knows_other, knows_mine}
use Rattle.engine_world.proofs.Placing.{out_changed, places_less}
use Rattle.engine_world.proofs.QuietEvents.{from_outcome}
use Rattle.engine_world.proofs.TakeEvent.{Runs, runs, not_theirs, no_other}

lent_without : (n : ℕ) (out : List Lent) → map (λ (l : Lent). l.number) (without_lent n out) ≡ without n (map (λ (l : Lent). l.number) out)
lent_without n [] = refl
lent_without n (l ∷ out) = elim (eqb l.number n) as (λ t. map (λ (l : Lent). l.number) (cond (not t) (l ∷ without_lent n out) (without_lent n out)) ≡ cond (not t) (l.number ∷ without n (map (λ (l : Lent). l.number) out)) (without n (map (λ (l : Lent). l.number) out))) [
  | true ↦ lent_without n out
  | false ↦ ap (λ xs. l.number ∷ xs) (lent_without n out)
]

fewer_lent : (n : ℕ) (out : List Lent) → length (without_lent n out) ≤ length out
fewer_lent n [] = omega arith
fewer_lent n (l ∷ out) = elim (eqb l.number n) as (λ t. length (cond (not t) (l ∷ without_lent n out) (without_lent n out)) ≤ length (l ∷ out)) [
  | true ↦ let rest : length (without_lent n out) ≤ length out = fewer_lent n out in omega (arith, rest)
  | false ↦ let rest : length (without_lent n out) ≤ length out = fewer_lent n out in omega (arith, rest)
]

serve_without : (n : ℕ) (out : List Lent) → AllServe out → AllServe (without_lent n out)
serve_without n [] all = tt
serve_without n (l ∷ out) all = elim (eqb l.number n) as (λ t. AllServe (cond (not t) (l ∷ without_lent n out) (without_lent n out))) [
  | true ↦ serve_without n out all.1
  | false ↦ (all.0, serve_without n out all.1)
]

-- a bitmap among those that are out stands among their numbers
pub among_stands : (bitmap : BitmapValue) (out : List Lent) → IsAmongLent bitmap out → 0 < occurrences bitmap.number (map (λ (l : Lent). l.number) out)
among_stands bitmap [] h = absurd h
among_stands bitmap (l ∷ out) h = elim h [
  | inl is ↦ let here : one_if (eqb l.number bitmap.number) ≡ 1 = ap (λ n. one_if (eqb n bitmap.number)) (sym is.number) ∙ one_if_same bitmap.number in omega (arith, here)
  | inr rest ↦ let there : 0 < occurrences bitmap.number (map (λ (l : Lent). l.number) out) = among_stands bitmap out rest in omega (arith, there)
]

taken_back : (w : World) (known : ℕ → Knowledge) (who j : ℕ) (bitmap : BitmapValue) → Sound w known → (run : IsRunning (known who) j) → (r : Runs w who j run.job) → IsAmongLent bitmap run.job.out
    → Sound (record (take_back j (Some r.job) bitmap.number w) { pool = pool_put w.limits.pool bitmap.allocation bitmap.picture.config bitmap.number w.pool }) (knowledge_with known who (events.GiveBack j bitmap) replies.Done)
taken_back w known who j bitmap s run r among =
    let n = bitmap.number in
    let now : Job = record r.job { out = without_lent n r.job.out } in
    let pool = pool_put w.limits.pool bitmap.allocation bitmap.picture.config n w.pool in
    let is_job : IsJob w.counts.started j r.job = s.jobs.each j r.job r.at in
    let own : OwnJob = record run.job { out = without_lent n run.job.out } in
    let fewer : length (without_lent n r.job.out) ≤ length r.job.out = fewer_lent n r.job.out in
    let known_job : record (known who) { job = Some own } ≡ record (known who) { job = job_without n (known who).job } = ap (λ (o : Option OwnJob). record (known who) { job = job_without n o }) (sym run.is) in
    let less : (b : ℕ) → times_out (insert w.jobs j now) b + occurrences b (pooled pool) ≤ times_out w.jobs b + occurrences b (pooled w.pool) = λ b.
    let changed : times_out (insert w.jobs j now) b + occurrences b (lent_numbers r.job) ≡ times_out w.jobs b + occurrences b (lent_numbers now) = out_changed w.jobs j r.job now b r.at in
    let put : occurrences b (pooled pool) ≤ occurrences b (pooled w.pool) + one_if (eqb n b) = pool_put_number w.limits.pool bitmap.allocation bitmap.picture.config n b w.pool in
    let left : occurrences b (lent_numbers now) ≡ occurrences b (without n (lent_numbers r.job)) = ap (occurrences b) (lent_without n r.job.out) in
    elim (number_cases b n) [
      | inl same ↦
          let none : occurrences b (without n (lent_numbers r.job)) ≡ 0 = ap (λ c. occurrences c (without n (lent_numbers r.job))) same ∙ without_same n (lent_numbers r.job) in
          let some : 0 < occurrences b (lent_numbers r.job) = subst (λ c. 0 < occurrences c (lent_numbers r.job)) (sym same) (subst (λ (o : List Lent). 0 < occurrences n (map (λ (l : Lent). l.number) o)) (sym r.is.out) (among_stands bitmap run.job.out among)) in
          let here : one_if (eqb n b) ≡ 1 = ap (λ c. one_if (eqb n c)) same ∙ one_if_same n in
          omega (arith, changed, put, left, none, some, here)
      | inr ne ↦
          let stays : occurrences b (without n (lent_numbers r.job)) ≡ occurrences b (lent_numbers r.job) = without_other b n (lent_numbers r.job) ne in
          let here : one_if (eqb n b) ≡ 0 = one_if_other n b (λ e. ne (sym e)) in
          omega (arith, changed, put, left, stays, here)
    ] in
    record {
      places = places_less w.loads w.jobs (insert w.jobs j now) w.resources w.cached w.pool pool w.next less s.places;
      awaited = awaited_changed w.jobs j r.job now r.at refl w.loads (λ e. e) s.awaited;
      jobs = jobs_changed w.jobs j r.job now r.at refl w.counts.started (λ e. e)
          (record { below = is_job.below; queued = is_job.queued; out = omega (arith, is_job.out, fewer); takes = is_job.takes })
          (λ i k a at sits mine. no_other w known who j s run i k a at sits (sym r.is.seat ∙ mine)) s.jobs;
      active = s.active;
      cached = s.cached;
      pool = pool_put_is w.limits.pool bitmap.allocation bitmap.picture.config n w.pool s.pool;
      lent = lent_changed w.jobs j r.job now r.at refl (serve_without n r.job.out (s.lent j r.job r.at)) s.lent;
      resources = s.resources;
      seats = s.seats;
      known_is = at_each_seat (KnowledgeAgrees (facts_of w.loads (insert w.jobs j now) w.resources w.begun)) known who (events.GiveBack j bitmap) replies.Done
          (λ k ne. knows_other w.loads w.jobs w.resources w.begun j who r.job now r.at refl refl r.is.seat k (known k) ne (not_theirs w known who j k run.job r ne) (s.known_is k))
          (subst (KnowledgeAgrees (facts_of w.loads (insert w.jobs j now) w.resources w.begun) who) known_job
          (knows_mine w.loads w.jobs w.resources w.begun j who r.job now r.at refl refl r.is.seat (known who) own run.number
          (record { seat = r.is.seat; spec = r.is.spec; takes = r.is.takes; out = ap (without_lent n) r.is.out; cancelled = r.is.cancelled })
          (λ old is. ap (λ (o : OwnJob). o.number) (same_Some _ _ (sym is ∙ run.is)) ∙ run.number) (s.known_is who)));
    }

pub give_back_law : (j : ℕ) (bitmap : BitmapValue) → KeepsSound (events.GiveBack j bitmap)
give_back_law j bitmap w z known who reply in_range s permits step =
    let run = permits.0 in
    let r : Runs w who j run.job = runs w known who j s run in
    from_outcome known who (events.GiveBack j bitmap) reply z (replies.Done, give_back w j bitmap) step
    (subst (λ (found : Option Job). Sound (bitmap_to_pool bitmap (take_back j found bitmap.number w)) (knowledge_with known who (events.GiveBack j bitmap) replies.Done)) (sym r.at)
    (taken_back w known who j bitmap s run r permits.1))
