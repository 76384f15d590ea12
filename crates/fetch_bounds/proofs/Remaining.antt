-- Where all pictures fit into the memory cache, one that is there stays.
use Rattle.std.proofs.Common.{Bool, List, None, Ok, Option, Some, [], ap, arith, cond, drop, eqb, false, inl, inr, leb, length, refl, subst, sym, true, true≢false, ℕ, ◌*◌, ◌+◌, ◌<◌, ◌∙◌, ◌∷◌, ◌≡◌, ◌≢◌, ◌≤◌}
use Rattle.std.proofs.lemmas.Bool.{leb-true, lt-ltb, and_from}
use Rattle.std.specs.FinMap.{FinMap, get, insert, remove}
use Rattle.std.specs.Option.{is_none, is_some}
use Rattle.std.specs.Ordering.{nat_cmp}
use Rattle.std.specs.Prelude.{not, reverse, suc, sum_by}
use Rattle.bitmap_kind.specs.Picture.{BitmapValue, stored_size}
use Rattle.cache_key.specs.Key.{Key}
use Rattle.engine_world.specs.Knowledge.{Knowledge}
use Rattle.engine_world.specs.Moves.{all_to_pool, cache_first, cached_of, cached_to_pool, cancel_job, end_job, has_key, let_go, pool_resource, retire, size_of, to_cache, to_pool, without}
use Rattle.engine_world.specs.Permits.{IsPicture, Permits}
use Rattle.engine_world.specs.Places.{is_held, occurrences, one_if, times_kept, whereabouts}
use Rattle.engine_world.specs.Sound.{IsResource, RefersTo, Sound}
use Rattle.engine_world.specs.Steps.{Transition, activate, finish, finish_cancelled, finish_kept, release, released, resource_of}
use Rattle.engine_world.specs.World.{Job, LoadState, Resource, World}
use Rattle.engine_world.specs.declared.events.Event.{Event}
use Rattle.engine_world.specs.declared.events.NotedReply.{NotedReply}
use Rattle.finite_maps.specs.MapLaws.{same_Some}
use Rattle.fitting.specs.Fitting.{fitting}
use Rattle.fitting.specs.Prefixes.{within_fits}
use Rattle.load_cause.specs.Ends.{end_in}
use Rattle.load_table.specs.Loads.{holders, waiting}
use Rattle.load_table.specs.declared.loads.LoadState.TheVariants.{Failed, Ready, Waiting}
use Rattle.memory_cache.specs.Cache.{cache_gone, cache_kept}
use Rattle.outside.specs.Content.{Contents}
use Rattle.script_walk.specs.Marks.{KeyResults}
use Rattle.script_walk.specs.Starts.{total_size}
use Rattle.fetch_bounds.proofs.Events.{same_law}
use Rattle.engine_world.specs.KeyedLaws.{has_key-found, has_key-there}
use Rattle.fetch_bounds.proofs.Seats.{Runs, is_holder, result_is_fresh, runs, there_known}
use Rattle.fetch_bounds.proofs.Sums.{AreOfKeys, fit_keys, size_within}
use Rattle.fetch_bounds.specs.Findable.{IsFindable}
use Rattle.fetch_bounds.specs.InMemory.{AllFit, IsInMemory, LoadedAmong, TrimsNothing}
use Rattle.engine_world.specs.declared.events.Event.TheVariants as events
use Rattle.engine_world.specs.OccurrenceLaws.{find-none, find-passes, one_if_other, one_if_same, without-le, without_same}
use Rattle.engine_world.specs.NumberLaws.{gone_other, number_cases, put_other}
use Rattle.std.specs.FinSet as set
use Rattle.load_table.specs.declared.loads.Settle.TheVariants as settles
use Rattle.script_walk.specs.Starts as walks

drop_all : (xs : List ℕ) → drop (length xs) xs ≡ []
drop_all [] = refl
drop_all (x ∷ xs) = let next : length (x ∷ xs) ≡ suc (length xs) = omega arith in ap (λ n. drop n (x ∷ xs)) next ∙ drop_all xs

pool_resource_other : (r : ℕ) (o : Option Resource) (v : World) (q : ℕ) → q ≢ r → get (pool_resource r o v).resources q ≡ get v.resources q
pool_resource_other r None v q ne = refl
pool_resource_other r (Some b) v q ne = gone_other v.resources r q ne

module _ (content : KeyResults) (keys : List Key) where
  -- what becomes the most recent drives nothing out
  cache_first_same : (r : ℕ) (u : World) → AreOfKeys content u.resources keys (r ∷ u.cached) → AllFit content u.limits.memory keys → (cache_first r u).resources ≡ u.resources
  cache_first_same r u are fits =
      let xs = r ∷ u.cached in
      let b = fit_keys content u.resources xs keys are in
      let size : sum_by (size_of u.resources) xs ≤ 8 * total_size content keys = b.size in
      let few : length xs ≤ length keys = b.few in
      let all : fitting (size_of u.resources) u.limits.memory 1024 xs ≡ length xs = within_fits (size_of u.resources) u.limits.memory 1024 xs (omega (arith, size, fits.room)) (omega (arith, few, fits.few)) in
      let none : cache_gone (size_of u.resources) u.limits.memory xs ≡ [] = ap (λ n. reverse (drop n xs)) all ∙ ap reverse (drop_all xs) in
      ap (λ l. (all_to_pool l (record (record u { cached = xs }) { cached = cache_kept (size_of u.resources) u.limits.memory xs })).resources) none

module _ (key : Key) (keys : List Key) (c : Contents) (w : World) (known : ℕ → Knowledge) (s : Sound w known) (p : IsFindable key w) (within : LoadedAmong keys w) (told : w.content ≡ Some c) (fits : AllFit (end_in c) w.limits.memory keys) where
  -- a resource is at most 8 times as large as its key's picture
  allocated : (r : ℕ) (a : Resource) → get w.resources r ≡ Some a → a.allocation ≤ 8 * walks.size_of (end_in c a.key)
  allocated r a at =
      let is : IsResource w.content a = s.resources r a at in
      let same : end_in c a.key ≡ Ok a.picture = subst (λ o. IsPicture o a.key a.picture) told is.picture_is in
      let most : a.allocation ≤ 8 * stored_size a.picture.width a.picture.height a.picture.config = is.serves.most in
      let size : walks.size_of (end_in c a.key) ≡ stored_size a.picture.width a.picture.height a.picture.config = ap walks.size_of same in
      omega (arith, most, size)

  -- ---- the last load of a resource is released

  module _ (who n r : ℕ) (ready : get w.loads (who, n) ≡ Some (Ready r)) (a : Resource) (at : get w.resources r ≡ Some a) where
    was_held : 0 < holders r w.loads
    was_held = is_holder w.loads (who, n) r ready

    not_cached : occurrences r w.cached ≡ 0
    not_cached =
        let held : is_held w.loads w.resources r ≡ true = and_from _ _ (ap is_some at) (lt-ltb 0 _ was_held) in
        let once : times_kept (whereabouts w) r ≤ 1 = s.places.once r in
        omega (arith, once, ap one_if held)

    cached_once : (q : ℕ) → occurrences q w.cached ≤ 1
    cached_once q = let once : times_kept (whereabouts w) q ≤ 1 = s.places.once q in omega (arith, once)

    -- it, and what is cached beside it, have distinct keys that are among these
    are_of : (resources : FinMap nat_cmp Resource) (left : List ℕ) → ((q : ℕ) → 0 < one_if (eqb r q) + occurrences q left → get resources q ≡ get w.resources q)
        → ((q : ℕ) → occurrences q left ≤ occurrences q w.cached) → ((q : ℕ) (b : Resource) → 0 < occurrences q left → get w.resources q ≡ Some b → b.key ≢ a.key) → AreOfKeys (end_in c) resources keys (r ∷ left)
    are_of resources left same less others =
        let in_left : (q : ℕ) → 0 < one_if (eqb r q) + occurrences q left → q ≢ r → 0 < occurrences q left = λ q some ne. omega (arith, some, one_if_other r q (λ h. ne (sym h))) in
        record {
          each = λ q some. elim (number_cases q r) [
            | inl is ↦ (a, same q some ∙ ap (get w.resources) is ∙ at, within.resources r a at, allocated r a at)
            | inr ne ↦
                let old = (s.cached.each q (omega (arith, less q, in_left q some ne))).0 in
                (old.0, same q some ∙ old.1, within.resources q old.0 old.1, allocated q old.0 old.1)
          ];
          apart = λ i j x y i_in j_in i_at j_at keys_same.
              let x_at : get w.resources i ≡ Some x = sym (same i i_in) ∙ i_at in
              let y_at : get w.resources j ≡ Some y = sym (same j j_in) ∙ j_at in
              elim (number_cases i r) [
                | inl i_is ↦ elim (number_cases j r) [
                  | inl j_is ↦ i_is ∙ sym j_is
                  | inr ne ↦ absurd (others j y (in_left j j_in ne) y_at (sym keys_same ∙ ap (λ (b : Resource). b.key) (same_Some _ _ (sym x_at ∙ ap (get w.resources) i_is ∙ at))))
                ]
                | inr i_ne ↦ elim (number_cases j r) [
                  | inl j_is ↦ absurd (others i x (in_left i i_in i_ne) x_at (keys_same ∙ ap (λ (b : Resource). b.key) (same_Some _ _ (sym y_at ∙ ap (get w.resources) j_is ∙ at))))
                  | inr j_ne ↦ s.cached.apart i j x y (omega (arith, less i, in_left i i_in i_ne)) (omega (arith, less j, in_left j j_in j_ne)) x_at y_at keys_same
                ]
              ];
          once = λ q. elim (number_cases q r) [
            | inl is ↦ omega (arith, less q, ap (λ m. occurrences m w.cached) is, not_cached, ap (λ m. one_if (eqb r m)) is, one_if_same r)
            | inr ne ↦ omega (arith, less q, cached_once q, one_if_other r q (λ h. ne (sym h)))
          ];
        }

    module _ (u : World) (u_resources : u.resources ≡ w.resources) (u_cached : u.cached ≡ w.cached) (u_limits : u.limits ≡ w.limits) (there : IsInMemory key w) where
      fits_u : AllFit (end_in c) u.limits.memory keys
      fits_u = subst (λ l. AllFit (end_in c) l.memory keys) (sym u_limits) fits

      there_u : (v : World) → v.resources ≡ w.resources → IsInMemory key v
      there_u v same = (there.0, there.1, ap (λ m. get m there.0) same ∙ there.2, there.3)

      without_older : cached_of u.resources u.cached a.key ≡ None → IsInMemory key (cache_first r u)
      without_older e =
          let none : cached_of w.resources w.cached a.key ≡ None = (λ i. cached_of (sym u_resources i) (sym u_cached i) a.key) ∙ e in
          let are : AreOfKeys (end_in c) u.resources keys (r ∷ u.cached) = are_of u.resources u.cached (λ q some. ap (λ m. get m q) u_resources) (λ q. omega (arith, ap (occurrences q) u_cached))
          (λ q b some b_at same. true≢false (sym (has_key-there w.resources a.key q b b_at same) ∙ find-none (has_key w.resources a.key) w.cached q none (omega (arith, some, ap (occurrences q) u_cached)))) in
          there_u (cache_first r u) (cache_first_same (end_in c) keys r u are fits_u ∙ u_resources)

      in_place : (x : ℕ) → cached_of u.resources u.cached a.key ≡ Some x → IsInMemory key (cache_first r (to_pool x (record u { cached = without x u.cached })))
      in_place x e =
          let some_x : cached_of w.resources w.cached a.key ≡ Some x = (λ i. cached_of (sym u_resources i) (sym u_cached i) a.key) ∙ e in
          let found = find-passes (has_key w.resources a.key) w.cached x some_x in
          let old = has_key-found w.resources a.key x found.0 in
          let v : World = record u { cached = without x u.cached } in
          let ne_r : r ≢ x = λ same. absurd (omega (arith, found.1, ap (λ m. occurrences m w.cached) (sym same), not_cached)) in
          let x_at : get v.resources x ≡ Some old.0 = ap (λ m. get m x) u_resources ∙ old.1 in
          let after : World = pool_resource x (Some old.0) v in
          let left : List ℕ = without x u.cached in
          let same : (q : ℕ) → q ≢ x → get after.resources q ≡ get w.resources q = λ q ne. gone_other u.resources x q ne ∙ ap (λ m. get m q) u_resources in
          let not_x : (q : ℕ) → 0 < occurrences q left → q ≢ x = λ q some is. absurd (omega (arith, some, ap (λ m. occurrences m left) is, without_same x u.cached)) in
          let less : (q : ℕ) → occurrences q left ≤ occurrences q w.cached = λ q. omega (arith, without-le q x u.cached, ap (occurrences q) u_cached) in
          let are : AreOfKeys (end_in c) after.resources keys (r ∷ left) = are_of after.resources left
          (λ q some. elim (number_cases q r) [ inl is ↦ same q (λ h. ne_r (sym is ∙ h)) | inr ne ↦ same q (not_x q (omega (arith, some, one_if_other r q (λ h. ne (sym h))))) ])
          less
          (λ q b some b_at is. not_x q some (s.cached.apart q x b old.0 (omega (arith, some, less q)) found.1 b_at old.1 (is ∙ sym old.2))) in
          let done : (cache_first r after).resources ≡ after.resources = cache_first_same (end_in c) keys r after are fits_u in
          let now : IsInMemory key (cache_first r after) = elim (number_cases there.0 x) [
            | inl is ↦
                let mine : a.key ≡ key = sym old.2 ∙ ap (λ (b : Resource). b.key) (same_Some _ _ (sym old.1 ∙ ap (get w.resources) (sym is) ∙ there.2)) ∙ there.3 in
                (r, a, ap (λ m. get m r) done ∙ same r ne_r ∙ at, mine)
            | inr ne ↦ (there.0, there.1, ap (λ m. get m there.0) done ∙ same there.0 ne ∙ there.2, there.3)
          ] in
          subst (λ o. IsInMemory key (cache_first r (pool_resource x o v))) (sym x_at) now

      to_cache_there : IsInMemory key (to_cache r a u)
      to_cache_there = elim (leb u.limits.memory a.allocation) as (λ t. leb u.limits.memory a.allocation ≡ t → IsInMemory key (cond t (to_pool r u) (cache_first r (cached_to_pool (cached_of u.resources u.cached a.key) u)))) [
        | true ↦ λ e.
            let large : u.limits.memory ≤ a.allocation = leb-true _ _ e in
            let most : a.allocation ≤ 8 * walks.size_of (end_in c a.key) = allocated r a at in
            let size : walks.size_of (end_in c a.key) ≤ total_size (end_in c) keys = size_within (end_in c) a.key keys (within.resources r a at) in
            absurd (omega (arith, large, most, size, fits_u.room))
        | false ↦ λ e. elim (cached_of u.resources u.cached a.key) as (λ o. cached_of u.resources u.cached a.key ≡ o → IsInMemory key (cache_first r (cached_to_pool o u))) [
          | None ↦ λ h. without_older h
          | Some x ↦ λ h. in_place x h
        ] refl
      ] refl

      retire_there : IsInMemory key (retire r (Some a) u)
      retire_there = elim a.cacheable as (λ t. a.cacheable ≡ t → IsInMemory key (cond t (to_cache r a u) (to_pool r u))) [
        | true ↦ λ e. to_cache_there
        | false ↦ λ e.
            let ne : there.0 ≢ r = λ is.
            let mine : a.key ≡ key = ap (λ (b : Resource). b.key) (same_Some _ _ (sym at ∙ ap (get w.resources) (sym is) ∙ there.2)) ∙ there.3 in
            let cacheable = (s.active.each r (p.active r a at mine was_held)).0 in
            true≢false (sym cacheable.2 ∙ ap (λ (b : Resource). b.cacheable) (same_Some _ _ (sym cacheable.1 ∙ at)) ∙ e) in
            (there.0, there.1, pool_resource_other r (get u.resources r) u there.0 ne ∙ ap (λ m. get m there.0) u_resources ∙ there.2, there.3)
      ] refl

  cancel_job_same : (j : ℕ) (o : Option Job) (v : World) → (cancel_job j o v).resources ≡ v.resources
  cancel_job_same j None v = refl
  cancel_job_same j (Some job) v = elim (is_none job.seat) as (λ t. (cond t (record v { jobs = remove v.jobs j }) (record v { jobs = insert v.jobs j (record job { cancelled = true }) })).resources ≡ v.resources) [ true ↦ refl | false ↦ refl ]

  released_there : (who n : ℕ) (state : LoadState) → get w.loads (who, n) ≡ Some state → IsInMemory key w → IsInMemory key (released state (record w { loads = remove w.loads (who, n) }))
  released_there who n (Failed cause) e there = there
  released_there who n (Waiting j) e there =
      let v : World = record w { loads = remove w.loads (who, n) } in
      elim (eqb (waiting j v.loads) 0) as (λ t. IsInMemory key (cond t (cancel_job j (get v.jobs j) v) v)) [
        | true ↦ (there.0, there.1, ap (λ m. get m there.0) (cancel_job_same j (get v.jobs j) v) ∙ there.2, there.3)
        | false ↦ there
      ]
  released_there who n (Ready r) e there =
      let v : World = record w { loads = remove w.loads (who, n) } in
      let named = there_known w.jobs w.resources (get (known who).loads n) (get w.loads (who, n)) (Ready r) e ((s.known_is who).each n) in
      let refers : RefersTo w.jobs w.resources named.0 (Ready r) = named.2.refers in
      elim (eqb (holders r v.loads) 0) as (λ t. IsInMemory key (cond t (let_go r v) v)) [
        | true ↦ subst (λ o. IsInMemory key (retire r o (record v { active = set.remove v.active r }))) (sym refers.1) (retire_there who n r e refers.0 refers.1 (record v { active = set.remove v.active r }) refl refl refl there)
        | false ↦ there
      ]

  release_there : (who n : ℕ) (o : Option LoadState) → get w.loads (who, n) ≡ o → IsInMemory key w → IsInMemory key (release w who n o)
  release_there who n None e there = there
  release_there who n (Some state) e there = released_there who n state e there

  -- ---- Finish

  kept_there : (j : ℕ) (b : Bool) (bitmap : BitmapValue) (made : Resource) → ((a : Resource) → get w.resources bitmap.number ≢ Some a) → IsInMemory key w
      → IsInMemory key (end_job j (settles.Ready bitmap.number) (record (activate b bitmap.number made w) { resources = insert w.resources bitmap.number made }))
  kept_there j b bitmap made fresh there = (there.0, there.1, put_other w.resources bitmap.number made there.0 (λ is. fresh there.1 (ap (get w.resources) (sym is) ∙ there.2)) ∙ there.2, there.3)

  finish_there : (j : ℕ) (bitmap : BitmapValue) (job : Job) → ((a : Resource) → get w.resources bitmap.number ≢ Some a) → IsInMemory key w → IsInMemory key (finish w j (Some job) bitmap).1
  finish_there j bitmap job fresh there = elim job.cancelled as (λ t. IsInMemory key (cond t (finish_cancelled w j bitmap) (finish_kept w j job bitmap)).1) [
    | true ↦ there
    | false ↦ kept_there j (not job.spec.skip) bitmap (resource_of job bitmap) fresh there
  ]

  -- ---- all events

  at_state : (z v : World) → z ≡ v → IsInMemory key v → IsInMemory key z
  at_state z v e h = subst (IsInMemory key) (sym e) h

  quiet : (z : World) → z.resources ≡ w.resources → IsInMemory key w → IsInMemory key z
  quiet z same there = (there.0, there.1, ap (λ m. get m there.0) same ∙ there.2, there.3)

  pub there_law : (z : World) (who : ℕ) (event : Event) (reply : NotedReply) → Permits w.content (known who) event → TrimsNothing event → Transition w who event reply z → IsInMemory key w → IsInMemory key z
  there_law z who (events.Release n) reply permits no_trim step there = at_state z _ step.1 (release_there who n (get w.loads (who, n)) refl there)
  there_law z who (events.Finish j bitmap) reply permits no_trim step there =
      let r : Runs w who j permits.0.job = runs w known who j s permits.0 in
      let fresh = result_is_fresh w known who j bitmap permits.0.job s r permits.1 in
      at_state z _ step.1 (subst (λ (o : Option Job). IsInMemory key (finish w j o bitmap).1) (sym r.at) (finish_there j bitmap r.job fresh there))
  there_law z who (events.Trim level) reply permits no_trim step there = absurd no_trim
  there_law z who event reply permits no_trim step there = quiet z (same_law w z who event reply tt step) there
