-- A load that is ready stays so until its owner's release, on a resource that stays what it is.
use Rattle.std.proofs.Common.{◌≡◌, ◌≢◌, ℕ, ◌+◌, Bool, true, false, cond, eqb, List, Some, None, Option, refl, ap, sym, subst, ◌∙◌, inl, inr, arith}
use Rattle.std.specs.Prelude.{not, slice_index_or}
use Rattle.std.specs.Option.{option_map}
use Rattle.std.specs.FinMap.{get, insert, remove}
use Rattle.std.specs.FinSet as set
use Rattle.bitmap_kind.specs.Picture.{BitmapValue, stored_size}
use Rattle.cache_key.specs.declared.load_spec.LoadSpec.{LoadSpec}
use Rattle.finite_maps.specs.Maps.{map_values}
use Rattle.finite_maps.specs.MapLaws.{not_Some, same_Some, get-insert_other, get-remove_other, get-map_values}
use Rattle.load_cause.specs.declared.causes.Cause.{Cause}
use Rattle.load_table.specs.declared.loads.LoadState.TheVariants.{Waiting, Ready, Failed}
use Rattle.load_table.specs.declared.loads.Settle.{Settle}
use Rattle.load_table.specs.declared.loads.Settle.TheVariants as settles
use Rattle.load_table.specs.Loads.{LoadName, load_cmp, settled, owned}
use Rattle.load_table.specs.LoadOrder.{load_total, load_same}
use Rattle.bitmap_pool.specs.Pool.{pool_pick}
use Rattle.engine_world.specs.declared.events.Event.{Event}
use Rattle.engine_world.specs.declared.events.Event.TheVariants as events
use Rattle.engine_world.specs.declared.events.NotedReply.{NotedReply}
use Rattle.engine_world.specs.declared.events.NotedReply.TheVariants as replies
use Rattle.engine_world.specs.declared.events.Lent.{Lent}
use Rattle.engine_world.specs.World.{LoadState, Job, Resource, World}
use Rattle.engine_world.specs.Moves.{active_of, cached_of, job_for, without, begun_by, add_load, end_job}
use Rattle.engine_world.specs.Steps.{queued, quota_of, load_by_job, load_from_jobs, load_by_cache, load_by_active, load, release, Wanted, lent_as, TakeFrom, activate, resource_of, finish_kept, finish_cancelled, finish, Transition}
use Rattle.engine_world.specs.Knowledge.{Knowledge, knowledge_with}
use Rattle.engine_world.specs.Permits.{IsPicture, Permits}
use Rattle.engine_world.specs.Sound.{RefersTo, IsReady, Sound}
use Rattle.engine_world.specs.Laws.{IsRelease, KeepsHolds, ShowsItsKey, ReadyShowsItsKey}
use Rattle.engine_world.proofs.Knowing.{known_there, there_known}
use Rattle.engine_world.proofs.Loads.{next_is_new}
use Rattle.engine_world.proofs.TakeEvent.{Runs, runs}
use Rattle.engine_world.proofs.EndEvents.{out_is_fresh, Finished, out_counts}
use Rattle.engine_world.specs.KeptByMoves.{Outlasts, released-keeps, lend-keeps, take_back-keeps, next_job-keeps, trim-keeps}
use Rattle.engine_world.specs.OccurrenceLaws.{one_if_same}
use Rattle.engine_world.specs.NumberLaws.{gone_found, put_other}
use Rattle.engine_world.proofs.Always.{step_law}

module _ (w : World) (name : LoadName) (r : ℕ) (at : get w.loads name ≡ Some (Ready r)) where
  -- The load is ready on this resource, and the resource is what it was, if it is there.
  abbrev Stays : World → Type 0
  Stays v = (get v.loads name ≡ Some (Ready r)) × ((a : Resource) → get v.resources r ≡ Some a → get w.resources r ≡ Some a)

  start : Stays w
  start = (at, λ a e. e)

  stays : Outlasts Stays
  stays = record {
    resources = λ v q h. (h.0, λ a e. h.1 a (gone_found v.resources q r a e).1);
    active = λ v a h. h;
    cached = λ v c h. h;
    pool = λ v p h. h;
    jobs = λ v j h. h;
  }

  release-stays : (who m : ℕ) → (name ≡ (who, m) → ⊥) → (o : Option LoadState) → Stays (release w who m o)
  release-stays who m ne None = start
  release-stays who m ne (Some state) = released-keeps Stays stays state (record w { loads = remove w.loads (who, m) }) (get-remove_other load_total load_same w.loads (who, m) name ne ∙ at, λ a e. e)

  module _ (who : ℕ) (spec : LoadSpec) (new : get w.loads (who, begun_by w who) ≡ None) where
    -- a load more is another one
    added-stays : (state : LoadState) (v : World) → v.loads ≡ w.loads → v.begun ≡ w.begun → v.resources ≡ w.resources → Stays (add_load who state v)
    added-stays state v same begun resources =
        let ne : name ≢ (who, begun_by v who) = λ is. not_Some (sym new ∙ ap (λ (b : List ℕ). get w.loads (who, slice_index_or b who 0)) (sym begun) ∙ ap (get w.loads) (sym is) ∙ at) in
        (get-insert_other load_total load_same v.loads (who, begun_by v who) state name ne ∙ ap (λ m. get m name) same ∙ at, λ a e. ap (λ m. get m r) (sym resources) ∙ e)

    by_job-stays : (o : Option ℕ) → Stays (load_by_job w who spec o).1
    by_job-stays None = added-stays (Waiting w.counts.started) (record w { jobs = insert w.jobs w.counts.started (queued spec); counts = record w.counts { started = w.counts.started + 1 } }) refl refl refl
    by_job-stays (Some j) = added-stays (Waiting j) (record w { counts = record w.counts { joined = w.counts.joined + 1 } }) refl refl refl

    by_cache-stays : (o : Option ℕ) → Stays (load_by_cache w who spec o).1
    by_cache-stays None = by_job-stays (job_for w.jobs spec.key spec.cached)
    by_cache-stays (Some q) = added-stays (Ready q) (record w { cached = without q w.cached; active = set.insert w.active q; counts = record w.counts { memory = w.counts.memory + 1 } }) refl refl refl

    by_active-stays : (o : Option ℕ) → Stays (load_by_active w who spec o).1
    by_active-stays None = by_cache-stays (cached_of w.resources w.cached spec.key)
    by_active-stays (Some q) = added-stays (Ready q) (record w { counts = record w.counts { active = w.counts.active + 1 } }) refl refl refl

    load-stays : Stays (load w who spec).1
    load-stays = elim (eqb (owned who w.loads) (quota_of w who)) as (λ t. Stays (cond t (replies.Full, w) (cond spec.skip (load_from_jobs w who spec) (load_by_active w who spec (active_of w.resources w.active spec.key)))).1) [
      | true ↦ start
      | false ↦ elim spec.skip as (λ t. Stays (cond t (load_from_jobs w who spec) (load_by_active w who spec (active_of w.resources w.active spec.key))).1) [
        | true ↦ by_job-stays (job_for w.jobs spec.key spec.cached)
        | false ↦ by_active-stays (active_of w.resources w.active spec.key)
      ]
    ]

  settled_same : (j : ℕ) (to : Settle Cause) → get (map_values (settled j to) w.loads) name ≡ Some (Ready r)
  settled_same j to = get-map_values load_cmp (settled j to) w.loads name ∙ ap (option_map (settled j to)) at

  kept-stays : (j : ℕ) (b : Bool) (bitmap : BitmapValue) (resource : Resource) → r ≢ bitmap.number → Stays (end_job j (settles.Ready bitmap.number) (record (activate b bitmap.number resource w) { resources = insert w.resources bitmap.number resource }))
  kept-stays j true bitmap resource ne = (settled_same j (settles.Ready bitmap.number), λ a e. sym (put_other w.resources bitmap.number resource r ne) ∙ e)
  kept-stays j false bitmap resource ne = (settled_same j (settles.Ready bitmap.number), λ a e. sym (put_other w.resources bitmap.number resource r ne) ∙ e)

  finish-stays : (j : ℕ) (o : Option Job) (bitmap : BitmapValue) → r ≢ bitmap.number → Stays (finish w j o bitmap).1
  finish-stays j None bitmap ne = start
  finish-stays j (Some job) bitmap ne = elim job.cancelled as (λ t. Stays (cond t (finish_cancelled w j bitmap) (finish_kept w j job bitmap)).1) [
    | true ↦ start
    | false ↦ kept-stays j (not job.spec.skip) bitmap (resource_of job bitmap) ne
  ]

  same_state : (z v : World) → z ≡ v → Stays v → Stays z
  same_state z v e h = subst Stays (sym e) h

  take-stays : (wanted : Wanted) (v z : World) → Stays v → (reply : NotedReply) (found : Option Lent) → TakeFrom wanted v found reply z → Stays z
  take-stays wanted v z h reply (Some lent) step = same_state z _ step.1 (lend-keeps Stays stays wanted.job (get v.jobs wanted.job) lent _ h)
  take-stays wanted v z h reply None step = elim step [
    | inl step ↦ same_state z _ step.1 (lend-keeps Stays stays wanted.job (get v.jobs wanted.job) _ _ h)
    | inr step ↦ same_state z v step.1 h
  ]

  -- Every event but the load's own release.
  stays_law : (z : World) (known : ℕ → Knowledge) (who : ℕ) (event : Event) (reply : NotedReply) (resource : Resource) → get w.resources r ≡ Some resource → Sound w known → Permits w.content (known who) event
      → (IsRelease name who event → ⊥) → Transition w who event reply z → Stays z
  stays_law z known who (events.Load spec) reply resource there s permits not_own step =
      let new : get w.loads (who, begun_by w who) ≡ None = ap (λ m. get w.loads (who, m)) (s.known_is who).count ∙ (next_is_new w.loads w.jobs w.resources w.begun who (known who) (s.known_is who)).1 in
      same_state z _ step.1 (load-stays who spec new)
  stays_law z known who (events.Collect m) reply resource there s permits not_own step = same_state z w step.1 start
  stays_law z known who (events.Look m) reply resource there s permits not_own step = same_state z w step.1 start
  stays_law z known who (events.Read m place) reply resource there s permits not_own step = same_state z w step.1 start
  stays_law z known who (events.Release m) reply resource there s permits not_own step = same_state z _ step.1 (release-stays who m not_own (get w.loads (who, m)))
  stays_law z known who (events.NextJob room) reply resource there s permits not_own step = same_state z _ step.1 (next_job-keeps Stays stays who w start)
  stays_law z known who (events.Take j width height config) reply resource there s permits not_own step =
      let wanted : Wanted = record { job = j; width = width; height = height; config = config } in
      let picked = pool_pick config (stored_size width height config) w.pool in
      take-stays wanted (record w { pool = picked.groups }) z start reply (option_map (λ b. lent_as wanted b picked.size) picked.found) step
  stays_law z known who (events.GiveBack j bitmap) reply resource there s permits not_own step = same_state z _ step.1 (take_back-keeps Stays stays j (get w.jobs j) bitmap.number w start)
  stays_law z known who (events.Finish j bitmap) reply resource there s permits not_own step =
      let run : Runs w who j permits.0.job = runs w known who j s permits.0 in
      let f : Finished w known who j bitmap = record { s = s; run = permits.0; r = run; result = permits.1; shown = permits.2 } in
      let fresh = out_is_fresh w known j run.job bitmap.number s run.at (omega (arith, out_counts w known who j bitmap f bitmap.number, one_if_same bitmap.number)) in
      same_state z _ step.1 (finish-stays j (get w.jobs j) bitmap (λ same. fresh.1 resource (ap (get w.resources) (sym same) ∙ there)))
  stays_law z known who (events.Fail j cause) reply resource there s permits not_own step = same_state z _ step.1 (settled_same j (settles.Failed cause), λ a e. e)
  stays_law z known who (events.Quit j) reply resource there s permits not_own step = same_state z _ step.1 start
  stays_law z known who (events.IsCancelled j) reply resource there s permits not_own step = same_state z w step.1 start
  stays_law z known who (events.Trim level) reply resource there s permits not_own step = same_state z _ step.1 (trim-keeps Stays stays level w start)
  stays_law z known who events.Close reply resource there s permits not_own step = same_state z _ step.1 start
  stays_law z known who events.Totals reply resource there s permits not_own step = same_state z w step.1 start

-- a hold stays what it is until its owner releases it
pub hold_law : (event : Event) → KeepsHolds event
hold_law event w z known who reply in_range s permits step name r resource hold not_own =
    let now = stays_law w name r hold.ready z known who event reply resource hold.there s permits not_own step in
    let sound : Sound z (knowledge_with known who event reply) = step_law event w z known who reply in_range s permits step in
    let named = there_known z.loads z.jobs z.resources (get (knowledge_with known who event reply name.0).loads name.1) (get z.loads name) (Ready r) now.0 ((sound.known_is name.0).each name.1) in
    let refers : RefersTo z.jobs z.resources named.0 (Ready r) = named.2.refers in
    record { ready = now.0; there = refers.1 ∙ ap Some (same_Some _ _ (sym (now.1 refers.0 refers.1) ∙ hold.there)) }

-- ---- what a load is ready on

pub shows_law : ReadyShowsItsKey
shows_law w known who n load s is told =
    let there = known_there w.loads w.jobs w.resources (get (known who).loads n) (get w.loads (who, n)) load is ((s.known_is who).each n) in
    elim there.0 as (λ state. there.0 ≡ state → ShowsItsKey w (who, n) load.key) [
      | Waiting j ↦ λ e. absurd (subst IsReady e (there.2.ready told))
      | Ready r ↦ λ e.
          let refers : RefersTo w.jobs w.resources load (Ready r) = subst (RefersTo w.jobs w.resources load) e there.2.refers in
          let on = s.resources r refers.0 refers.1 in
          record {
            number = r;
            resource = refers.0;
            hold = record { ready = there.1 ∙ ap Some e; there = refers.1 };
            key_is = refers.2;
            picture_is = subst (λ k. IsPicture w.content k refers.0.picture) refers.2 on.picture_is;
          }
      | Failed cause ↦ λ e. absurd (subst IsReady e (there.2.ready told))
    ] refl
