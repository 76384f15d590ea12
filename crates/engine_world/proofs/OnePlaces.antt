-- The place of a bitmap, from the sum of how often its number stands.
use Rattle.std.proofs.Common.{◌≡◌, ℕ, ◌+◌, ◌<◌, ◌≤◌, Bool, true, false, cond, ltb, List, [], ◌∷◌, map, Some, None, Option, refl, ap, sym, subst, ◌∙◌, inl, inr, arith}
use Rattle.std.specs.Option.{option_map}
use Rattle.std.specs.Cmp.{nat_cmp_total}
use Rattle.std.specs.declared.cmp.Ordering.{Ordering}
use Rattle.std.specs.FinMap.{FinMap, get, remove, entries, nat_cmp-IsAntisymmetric}
use Rattle.std.proofs.lemmas.Bool.{ltb-true, ltb-false}
use Rattle.bitmap_kind.specs.Picture.{stored_size}
use Rattle.finite_maps.specs.Maps.{sum_over, first_in, total, first_key}
use Rattle.finite_maps.specs.MapLaws.{not_Some, same_Some, first_key-found}
use Rattle.bitmap_pool.specs.Pool.{pooled, pool_pick, serving_size}
use Rattle.engine_world.specs.declared.events.NotedReply.{NotedReply}
use Rattle.engine_world.specs.declared.events.NotedReply.TheVariants as replies
use Rattle.engine_world.specs.declared.events.Lent.{Lent}
use Rattle.engine_world.specs.World.{Job, Jobs, World}
use Rattle.engine_world.specs.Places.{one_if, occurrences, lent_numbers, is_held, times_out, whereabouts, times_kept, Place, Decoding, Held, Cached, Pooled, Recycled, IsAt}
use Rattle.engine_world.specs.Steps.{Wanted, lent_as, TakeFrom}
use Rattle.engine_world.specs.Knowledge.{Knowledge}
use Rattle.engine_world.specs.Sound.{Sound}
use Rattle.engine_world.specs.Laws.{HasOnePlace, OnlyMadeHasPlace, IsFree, TakesFree, TakesAnother}
use Rattle.engine_world.specs.OccurrenceLaws.{one_if_same}
use Rattle.engine_world.specs.NumberLaws.{number_cases, gone_other}
use Rattle.engine_world.proofs.Occurs.{found_at}
use Rattle.engine_world.proofs.PoolLaws.{pick_number}
use Rattle.engine_world.proofs.Placing.{out_gone, out_at}

-- ---- a sum that is not 0 has an entry that is not

module _ {K X : Type 0} (f : K → X → ℕ) where
  none_counts : (es : List (K × X)) → first_in (λ k x. ltb 0 (f k x)) es ≡ None → sum_over f es ≡ 0
  none_counts [] none = refl
  none_counts (e ∷ es) none = elim (ltb 0 (f e.0 e.1)) as (λ t. ltb 0 (f e.0 e.1) ≡ t → cond t (Some e.0) (first_in (λ k x. ltb 0 (f k x)) es) ≡ None → f e.0 e.1 + sum_over f es ≡ 0) [
    | true ↦ λ t none. absurd (not_Some (sym none))
    | false ↦ λ t none.
        let here : f e.0 e.1 ≤ 0 = ltb-false _ _ t in
        let rest : sum_over f es ≡ 0 = none_counts es none in
        omega (arith, here, rest)
  ] refl none

  none_in_total : {R : K → K → Ordering} (m : FinMap R X) → first_key (λ k x. ltb 0 (f k x)) m ≡ None → total f m ≡ 0
  unfolding total first_key
  none_in_total m none = none_counts (entries m) none

out_on : (jobs : Jobs) (b : ℕ) → 0 < times_out jobs b → (j : ℕ) × (job : Job) × (get jobs j ≡ Some job) × (0 < occurrences b (lent_numbers job))
out_on jobs b some =
    let counts : ℕ → Job → ℕ = λ j job. occurrences b (lent_numbers job) in
    elim (first_key (λ j (job : Job). ltb 0 (occurrences b (lent_numbers job))) jobs) as (λ o. first_key (λ j (job : Job). ltb 0 (occurrences b (lent_numbers job))) jobs ≡ o → (j : ℕ) × (job : Job) × (get jobs j ≡ Some job) × (0 < occurrences b (lent_numbers job))) [
      | None ↦ λ e. let none : times_out jobs b ≡ 0 = none_in_total (λ j (job : Job). occurrences b (lent_numbers job)) jobs e in absurd (omega (arith, some, none))
      | Some j ↦ λ e.
          let found = first_key-found nat_cmp_total nat_cmp-IsAntisymmetric (λ j (job : Job). ltb 0 (occurrences b (lent_numbers job))) jobs j e in
          (j, found.0, found.1, ltb-true _ _ found.2)
    ] refl

-- a number that is out once is out on one job
one_job : (jobs : Jobs) (b i j : ℕ) (x y : Job) → times_out jobs b ≤ 1 → get jobs i ≡ Some x → get jobs j ≡ Some y → 0 < occurrences b (lent_numbers x) → 0 < occurrences b (lent_numbers y) → i ≡ j
one_job jobs b i j x y once at_i at_j in_x in_y = elim (number_cases i j) [
  | inl same ↦ same
  | inr ne ↦
      let all : times_out jobs b ≡ occurrences b (lent_numbers y) + times_out (remove jobs j) b = out_gone jobs j y b at_j in
      let other : occurrences b (lent_numbers x) ≤ times_out (remove jobs j) b = out_at (remove jobs j) i x b (gone_other jobs j i ne ∙ at_i) in
      absurd (omega (arith, once, in_x, in_y, all, other))
]

-- ---- one place

module _ (w : World) (known : ℕ → Knowledge) (s : Sound w known) (b : ℕ) where
  once : times_out w.jobs b + one_if (is_held w.loads w.resources b) + occurrences b w.cached + occurrences b (pooled w.pool) ≤ 1
  once = s.places.once b

  out_counts : (j : ℕ) → IsAt w b (Decoding j) → 0 < times_out w.jobs b
  out_counts j at = let le : occurrences b (lent_numbers at.0) ≤ times_out w.jobs b = out_at w.jobs j at.0 b at.1 in omega (arith, le, at.2)

  held_counts : IsAt w b Held → one_if (is_held w.loads w.resources b) ≡ 1
  held_counts at = ap one_if at

  is_out : 0 < times_out w.jobs b → (place : Place) × IsAt w b place × ((other : Place) → IsAt w b other → other ≡ place)
  is_out some = let on = out_on w.jobs b some in (Decoding on.0, (on.1, on.2, on.3), λ other at. only on.0 on.1 on.2 on.3 other at)
    where
      only : (j : ℕ) (job : Job) → get w.jobs j ≡ Some job → 0 < occurrences b (lent_numbers job) → (other : Place) → IsAt w b other → other ≡ Decoding j
      only j job at in_job (Decoding i) there = ap Decoding (one_job w.jobs b i j there.0 job (omega (arith, once)) there.1 at there.2 in_job)
      only j job at in_job Held there = absurd (omega (arith, once, some, held_counts there))
      only j job at in_job Cached there = absurd (omega (arith, once, some, there))
      only j job at in_job Pooled there = absurd (omega (arith, once, some, there))
      only j job at in_job Recycled there = absurd (omega (arith, some, there.1))

  not_out : (j : ℕ) → times_out w.jobs b ≡ 0 → IsAt w b (Decoding j) → ⊥
  not_out j none at = absurd (omega (arith, none, out_counts j at))

  only_held : is_held w.loads w.resources b ≡ true → (other : Place) → IsAt w b other → other ≡ Held
  only_held held (Decoding i) there = absurd (omega (arith, once, ap one_if held, out_counts i there))
  only_held held Held there = refl
  only_held held Cached there = absurd (omega (arith, once, ap one_if held, there))
  only_held held Pooled there = absurd (omega (arith, once, ap one_if held, there))
  only_held held Recycled there = absurd (omega (arith, ap one_if held, there.1))

  only_cached : 0 < occurrences b w.cached → (other : Place) → IsAt w b other → other ≡ Cached
  only_cached some (Decoding i) there = absurd (omega (arith, once, some, out_counts i there))
  only_cached some Held there = absurd (omega (arith, once, some, held_counts there))
  only_cached some Cached there = refl
  only_cached some Pooled there = absurd (omega (arith, once, some, there))
  only_cached some Recycled there = absurd (omega (arith, some, there.1))

  only_pooled : 0 < occurrences b (pooled w.pool) → (other : Place) → IsAt w b other → other ≡ Pooled
  only_pooled some (Decoding i) there = absurd (omega (arith, once, some, out_counts i there))
  only_pooled some Held there = absurd (omega (arith, once, some, held_counts there))
  only_pooled some Cached there = absurd (omega (arith, once, some, there))
  only_pooled some Pooled there = refl
  only_pooled some Recycled there = absurd (omega (arith, some, there.1))

  only_recycled : times_kept (whereabouts w) b ≡ 0 → (other : Place) → IsAt w b other → other ≡ Recycled
  only_recycled none (Decoding i) there = absurd (omega (arith, none, out_counts i there))
  only_recycled none Held there = absurd (omega (arith, none, held_counts there))
  only_recycled none Cached there = absurd (omega (arith, none, there))
  only_recycled none Pooled there = absurd (omega (arith, none, there))
  only_recycled none Recycled there = refl

  by_sum : b < w.next → (place : Place) × IsAt w b place × ((other : Place) → IsAt w b other → other ≡ place)
  by_sum made =
      elim (ltb 0 (times_out w.jobs b)) as (λ t. ltb 0 (times_out w.jobs b) ≡ t → (place : Place) × IsAt w b place × ((other : Place) → IsAt w b other → other ≡ place)) [
        | true ↦ λ e. is_out (ltb-true _ _ e)
        | false ↦ λ no_out. elim (is_held w.loads w.resources b) as (λ t. is_held w.loads w.resources b ≡ t → (place : Place) × IsAt w b place × ((other : Place) → IsAt w b other → other ≡ place)) [
          | true ↦ λ e. (Held, e, only_held e)
          | false ↦ λ no_held. elim (ltb 0 (occurrences b w.cached)) as (λ t. ltb 0 (occurrences b w.cached) ≡ t → (place : Place) × IsAt w b place × ((other : Place) → IsAt w b other → other ≡ place)) [
            | true ↦ λ e. (Cached, ltb-true _ _ e, only_cached (ltb-true _ _ e))
            | false ↦ λ no_cached. elim (ltb 0 (occurrences b (pooled w.pool))) as (λ t. ltb 0 (occurrences b (pooled w.pool)) ≡ t → (place : Place) × IsAt w b place × ((other : Place) → IsAt w b other → other ≡ place)) [
              | true ↦ λ e. (Pooled, ltb-true _ _ e, only_pooled (ltb-true _ _ e))
              | false ↦ λ no_pooled.
                  let o : times_out w.jobs b ≤ 0 = ltb-false _ _ no_out in
                  let c : occurrences b w.cached ≤ 0 = ltb-false _ _ no_cached in
                  let p : occurrences b (pooled w.pool) ≤ 0 = ltb-false _ _ no_pooled in
                  let none : times_kept (whereabouts w) b ≡ 0 = omega (arith, o, c, p, ap one_if no_held) in
                  (Recycled, (made, none), only_recycled none)
            ] refl
          ] refl
        ] refl
      ] refl

  is_made : (place : Place) → IsAt w b place → b < w.next
  is_made (Decoding j) at = s.places.below b (omega (arith, out_counts j at))
  is_made Held at = s.places.below b (omega (arith, held_counts at))
  is_made Cached at = s.places.below b (omega (arith, at))
  is_made Pooled at = s.places.below b (omega (arith, at))
  is_made Recycled at = at.0

pub one_place : HasOnePlace
one_place w known s b made = by_sum w known s b made

pub only_made : OnlyMadeHasPlace
only_made w known s b place at = is_made w known s b place at

-- ---- what a take answers

-- the number that a reply has taken
abbrev taken_number : NotedReply → Option ℕ
taken_number (replies.Taken lent) = Some lent.number
taken_number reply = None

not_one : (t : Bool) → one_if t ≡ 0 → t ≡ false
not_one true e = absurd (omega (arith, e))
not_one false e = refl

module _ (w : World) (known : ℕ → Knowledge) (s : Sound w known) where
  free_of : (b : ℕ) → times_out w.jobs b ≡ 0 → one_if (is_held w.loads w.resources b) ≡ 0 → occurrences b w.cached ≡ 0 → IsFree w b
  free_of b out held cached = record { not_out = out; not_held = not_one _ held; not_cached = cached }

  -- what is pooled is in no other place
  pooled_free : (b : ℕ) → 0 < occurrences b (pooled w.pool) → IsFree w b
  pooled_free b some = let one : times_kept (whereabouts w) b ≤ 1 = s.places.once b in free_of b (omega (arith, one, some)) (omega (arith, one, some)) (omega (arith, one, some))

  -- the next number is in no place
  next_free : IsFree w w.next
  next_free =
      let none : ¬ (0 < times_kept (whereabouts w) w.next) = λ some. let under : w.next < w.next = s.places.below w.next some in absurd (omega (arith, under)) in
      free_of w.next (omega (arith, none)) (omega (arith, none)) (omega (arith, none))

  module _ (wanted : Wanted) (lent : Lent) (z : World) where
    from_take : (v : World) (found : Option ℕ) (allocation : ℕ) → v.next ≡ w.next → ((b : ℕ) → found ≡ Some b → 0 < occurrences b (pooled w.pool))
        → TakeFrom wanted v (option_map (λ b. lent_as wanted b allocation) found) (replies.Taken lent) z → IsFree w lent.number
    from_take v (Some b) allocation same from_pool step =
        let is : lent.number ≡ b = same_Some _ _ (ap taken_number step.0) in
        subst (IsFree w) (sym is) (pooled_free b (from_pool b refl))
    from_take v None allocation same from_pool step = elim step [
      | inl step ↦ let is : lent.number ≡ v.next = same_Some _ _ (ap taken_number step.0) in subst (IsFree w) (sym (is ∙ same)) next_free
      | inr step ↦ absurd (not_Some (sym (ap taken_number step.0)))
    ]

pub takes_free : TakesFree
takes_free w z known who j width height config lent s step =
    let wanted : Wanted = record { job = j; width = width; height = height; config = config } in
    let picked = pool_pick config (stored_size width height config) w.pool in
    from_take w known s wanted lent z (record w { pool = picked.groups }) picked.found picked.size refl
    (λ b is.
    let all : occurrences b (pooled w.pool) ≡ occurrences b (pooled picked.groups) + found_at b (Some b) = pick_number (serving_size config (stored_size width height config) w.pool) config b w.pool ∙ ap (λ f. occurrences b (pooled picked.groups) + found_at b f) is in
    omega (arith, all, one_if_same b)) step

pub takes_another : TakesAnother
takes_another w z known who j width height config lent s run step =
    let free : IsFree w lent.number = takes_free w z known who j width height config lent s step in
    let has = (s.known_is who).runs run.job run.is in
    let le : occurrences lent.number (lent_numbers has.0) ≤ times_out w.jobs lent.number = out_at w.jobs run.job.number has.0 lent.number has.1 in
    let same : occurrences lent.number (map (λ (a : Lent). a.number) has.0.out) ≡ occurrences lent.number (map (λ (a : Lent). a.number) run.job.out) = ap (λ (o : List Lent). occurrences lent.number (map (λ (a : Lent). a.number) o)) has.2.out in
    omega (arith, le, same, free.not_out)
