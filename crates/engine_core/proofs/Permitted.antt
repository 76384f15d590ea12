-- What a sound world and a seat's knowledge give of what the moves of the tables ask.
use Rattle.std.proofs.Common.{◌≡◌, ℕ, ◌+◌, ◌<◌, ◌≤◌, true, false, cond, eqb, ltb, List, [], ◌∷◌, length, map, Some, None, Option, refl, ap, sym, subst, ◌∙◌, inl, inr, arith}
use Rattle.std.specs.Prelude.{IsSome, is_some, IfSome, ◌&&◌, not}
use Rattle.std.specs.Ordering.{nat_cmp}
use Rattle.std.specs.Cmp.{IsTotalOrder}
use Rattle.std.specs.FinMap.{IsAntisymmetric, get, nat_cmp-IsAntisymmetric}
use Rattle.std.proofs.lemmas.Cmp.{nat_cmp_total, on_total, then_total}
use Rattle.std.proofs.lemmas.Map.Lookups.{exact_pairs}
use Rattle.std.proofs.lemmas.Bool.{lt-ltb}
use Rattle.finite_maps.specs.MapLaws.{same_Some, le-total}
use Rattle.bitmap_kind.specs.Picture.{BitmapValue}
use Rattle.load_cause.specs.declared.causes.Cause.{Cause}
use Rattle.load_table.specs.declared.loads.LoadState.TheVariants.{Waiting, Ready, Failed}
use Rattle.load_table.specs.Loads.{LoadName, ready_on, holders}
use Rattle.load_table.specs.LoadOrder.{load_total, load_same}
use Rattle.engine_world.specs.declared.events.Lent.{Lent}
use Rattle.engine_world.specs.World.{LoadState, Job, Resource, World}
use Rattle.engine_world.specs.Places.{one_if, occurrences, lent_numbers, is_held, times_out}
use Rattle.engine_world.specs.Moves.{without_lent}
use Rattle.engine_world.specs.Knowledge.{OwnLoad, Knowledge}
use Rattle.engine_world.specs.Permits.{IsOwn, IsRunning, IsAmongLent, IsResult}
use Rattle.engine_world.specs.Sound.{LoadsAgree, JobAgrees, Sound}
use Rattle.engine_world.specs.Rooms.{WithinLimits, FitsRooms}
use Rattle.engine_world.specs.OccurrenceLaws.{one_if_same}
use Rattle.engine_core.specs.Opening.{AreServed}
use Rattle.engine_core.specs.Conditions.{IsLive}
use Rattle.engine_core.specs.Lending.{MayCount, HasOne, HasPlaceFor}
use Rattle.engine_core.specs.Releasing.{AreCached, IsIdle, QueuedHasNone, MayRelease}

-- ---- lists of what is lent

-- how often a number is lent, and how many others are
lent_counts : (b : ℕ) (out : List Lent) → occurrences b (map (λ (lent : Lent). lent.number) out) + length (without_lent b out) ≡ length out
lent_counts b [] = refl
lent_counts b (lent ∷ out) =
    let rest = lent_counts b out in
    elim (eqb lent.number b) as (λ t. one_if t + occurrences b (map (λ (lent : Lent). lent.number) out) + length (cond (not t) (lent ∷ without_lent b out) (without_lent b out)) ≡ length (lent ∷ out)) [
      | true ↦ omega (arith, rest)
      | false ↦ omega (arith, rest)
    ]

among_counts : (bitmap : BitmapValue) (out : List Lent) → IsAmongLent bitmap out → 0 < occurrences bitmap.number (map (λ (lent : Lent). lent.number) out)
among_counts bitmap [] among = absurd among
among_counts bitmap (lent ∷ out) among = elim among [
  | inl one ↦ let first : one_if (eqb lent.number bitmap.number) ≡ 1 = ap (λ n. one_if (eqb n bitmap.number)) (sym one.number) ∙ one_if_same bitmap.number in omega (arith, first)
  | inr later ↦ let rest = among_counts bitmap out later in omega (arith, rest)
]

module _ (w : World) (known : ℕ → Knowledge) (s : Sound w known) where
  -- ---- jobs

  running : (who j : ℕ) (run : IsRunning (known who) j) → (job : Job) × (get w.jobs j ≡ Some job) × JobAgrees who run.job job
  running who j run =
      let at = (s.known_is who).runs run.job run.is in
      (at.0, ap (get w.jobs) (sym run.number) ∙ at.1, at.2)

  pub live_job : (who j : ℕ) → IsRunning (known who) j → IsLive w j
  live_job who j run = let at = running who j run in record { job = at.0; there = at.1 }

  -- what the seat knows of its bitmaps is so
  pub out_is : (who j : ℕ) (run : IsRunning (known who) j) (job : Job) → get w.jobs j ≡ Some job → job.out ≡ run.job.out
  out_is who j run job is =
      let at = running who j run in
      ap (λ (a : Job). a.out) (same_Some _ _ (sym is ∙ at.1)) ∙ at.2.out

  -- a number is out at most once
  out_once : (j b : ℕ) (job : Job) → get w.jobs j ≡ Some job → occurrences b (lent_numbers job) ≤ 1
  out_once j b job is =
      let most : occurrences b (lent_numbers job) ≤ times_out w.jobs b = le-total nat_cmp_total nat_cmp-IsAntisymmetric (λ i (a : Job). occurrences b (lent_numbers a)) w.jobs j job is in
      omega (arith, most, s.places.once b)

  -- the bitmap that is given back is one of those that are out, and the others stay
  pub gives_one : (who j : ℕ) (bitmap : BitmapValue) (run : IsRunning (known who) j) → IsAmongLent bitmap run.job.out → (job : Job) → get w.jobs j ≡ Some job
      → length job.out ≡ length (without_lent bitmap.number job.out) + 1
  gives_one who j bitmap run among job is =
      let counts = lent_counts bitmap.number job.out in
      let some = among_counts bitmap job.out (subst (IsAmongLent bitmap) (sym (out_is who j run job is)) among) in
      let once = out_once j bitmap.number job is in
      omega (arith, counts, some, once)

  pub has_one : (who j : ℕ) (bitmap : BitmapValue) (run : IsRunning (known who) j) → IsResult bitmap run.job.out → HasOne w j
  has_one who j bitmap run result job is = ap length (out_is who j run job is ∙ result.only)

  -- no resource has the number of a bitmap that is out
  pub out_is_new : (who j : ℕ) (bitmap : BitmapValue) (run : IsRunning (known who) j) → IsResult bitmap run.job.out → get w.resources bitmap.number ≡ None
  out_is_new who j bitmap run result =
      let at = running who j run in
      let out : lent_numbers at.0 ≡ result.lent.number ∷ [] = ap (map (λ (lent : Lent). lent.number)) (at.2.out ∙ result.only) in
      let one : one_if (eqb result.lent.number bitmap.number) ≡ 1 = ap (λ n. one_if (eqb n bitmap.number)) (sym result.same.number) ∙ one_if_same bitmap.number in
      let counted = ap (occurrences bitmap.number) out in
      let most : occurrences bitmap.number (lent_numbers at.0) ≤ times_out w.jobs bitmap.number = le-total nat_cmp_total nat_cmp-IsAntisymmetric (λ i (a : Job). occurrences bitmap.number (lent_numbers a)) w.jobs j at.0 at.1 in
      elim (get w.resources bitmap.number) as (λ o. get w.resources bitmap.number ≡ o → o ≡ None) [
        | None ↦ λ is. refl
        | Some resource ↦ λ is. absurd (omega (arith, counted, one, most, s.places.once bitmap.number, s.places.kept bitmap.number resource is))
      ] refl

  -- and it is not cached
  out_is_uncached : (who j : ℕ) (bitmap : BitmapValue) (run : IsRunning (known who) j) → IsResult bitmap run.job.out → occurrences bitmap.number w.cached ≡ 0
  out_is_uncached who j bitmap run result =
      let at = running who j run in
      let out : lent_numbers at.0 ≡ result.lent.number ∷ [] = ap (map (λ (lent : Lent). lent.number)) (at.2.out ∙ result.only) in
      let one : one_if (eqb result.lent.number bitmap.number) ≡ 1 = ap (λ n. one_if (eqb n bitmap.number)) (sym result.same.number) ∙ one_if_same bitmap.number in
      let counted = ap (occurrences bitmap.number) out in
      let most : occurrences bitmap.number (lent_numbers at.0) ≤ times_out w.jobs bitmap.number = le-total nat_cmp_total nat_cmp-IsAntisymmetric (λ i (a : Job). occurrences bitmap.number (lent_numbers a)) w.jobs j at.0 at.1 in
      omega (arith, counted, one, most, s.places.once bitmap.number)

  pub place_for : (who j : ℕ) (bitmap : BitmapValue) (run : IsRunning (known who) j) → IsResult bitmap run.job.out → FitsRooms w → HasPlaceFor w bitmap.number
  place_for who j bitmap run result fits = record {
    absent = out_is_new who j bitmap run result;
    uncached = out_is_uncached who j bitmap run result;
    resources = omega (arith, fits.resources);
    active = omega (arith, fits.active);
    apart = s.active;
  }

  pub may_count : WithinLimits w → FitsRooms w → AreServed w.limits → MayCount w
  may_count within fits limits = record {
    next = omega (arith, within.given, fits.takes_count, fits.loads_count, limits.seats);
    takes = omega (arith, fits.takes_count, fits.loads_count, limits.seats);
    reused = omega (arith, within.given, fits.takes_count, fits.loads_count, limits.seats);
    out = omega (arith, fits.out, fits.jobs, limits.seats, limits.loads);
  }

  -- ---- the memory cache

  pub are_cached : AreCached w
  are_cached = record {
    once = λ r. let once = s.places.once r in omega (arith, once);
    there = λ r some. ap is_some (s.cached.each r some).0.1;
  }

  -- a resource that a load holds is not cached
  pub idle_of : (r : ℕ) (resource : Resource) → get w.resources r ≡ Some resource → 0 < holders r w.loads → IsIdle w r
  idle_of r resource at some =
      let held : is_held w.loads w.resources r ≡ true = ap (λ b. b && ltb 0 (holders r w.loads)) (ap is_some at) ∙ lt-ltb 0 (holders r w.loads) some in
      let one : one_if (is_held w.loads w.resources r) ≡ 1 = ap one_if held in
      let once = s.places.once r in
      record {
        resource = resource;
        there = at;
        uncached = omega (arith, one, once);
        cached = are_cached;
        within = record { size = s.cached.size; few = s.cached.few };
      }

  -- ---- loads

  -- a load that is ready holds its resource
  holds : (name : LoadName) (r : ℕ) → get w.loads name ≡ Some (Ready r) → 0 < holders r w.loads
  holds name r is =
      let most : one_if (ready_on {C = Cause} r (Ready r)) ≤ holders r w.loads = le-total load_total load_same (λ name (state : LoadState). one_if (ready_on r state)) w.loads name (Ready r) is in
      let one : one_if (ready_on {C = Cause} r (Ready r)) ≡ 1 = one_if_same r in
      omega (arith, most, one)

  queued_none : (j : ℕ) → QueuedHasNone w j
  queued_none j job is none =
      let at = s.jobs.each j job is in
      let few : length job.out ≤ 0 = omega (arith, at.out, (at.queued none).0) in
      elim job.out as (λ l. length l ≤ 0 → l ≡ []) [ [] ↦ λ few. refl | x ∷ xs ↦ λ few. absurd (omega (arith, few)) ] few

  may_leave : (who n : ℕ) (load : OwnLoad) (o : Option LoadState) → get w.loads (who, n) ≡ o → LoadsAgree w.jobs w.resources (Some load) o → IsSome o × IfSome o (MayRelease who n w)
  may_leave who n load None is agrees = absurd agrees
  may_leave who n load (Some (Waiting j)) is agrees = let at = agrees.refers in (refl, (record { job = at.0; there = at.1 }, queued_none j))
  may_leave who n load (Some (Ready r)) is agrees = let at = agrees.refers in (refl, λ last. idle_of r at.0 at.1 (holds (who, n) r is))
  may_leave who n load (Some (Failed cause)) is agrees = (refl, tt)

  pub own_load : (who n : ℕ) → IsOwn (known who) n → IsSome (get w.loads (who, n)) × IfSome (get w.loads (who, n)) (MayRelease who n w)
  own_load who n own =
      may_leave who n own.0 (get w.loads (who, n)) refl
      (subst (λ o. LoadsAgree w.jobs w.resources o (get w.loads (who, n))) own.1 ((s.known_is who).each n))
