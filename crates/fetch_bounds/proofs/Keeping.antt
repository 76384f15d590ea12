-- Each event keeps a key findable that loads ask all for.
use Rattle.std.proofs.Common.{Bool, None, Option, Some, ap, arith, cond, eqb, false, inl, inr, refl, subst, sym, true, true≢false, ℕ, ◌+◌, ◌<◌, ◌∙◌, ◌≡◌, ◌≢◌}
use Rattle.std.proofs.lemmas.Bool.{ltb-true, and_parts}
use Rattle.std.specs.FinMap.{get, insert, remove}
use Rattle.std.specs.Prelude.{not}
use Rattle.bitmap_kind.specs.Picture.{BitmapValue}
use Rattle.cache_key.specs.Key.{Key}
use Rattle.cache_key.specs.declared.load_spec.LoadSpec.{LoadSpec}
use Rattle.engine_world.specs.Knowledge.{Knowledge}
use Rattle.engine_world.specs.Moves.{active_of, begun_by, cached_of, end_job, has_key, job_for}
use Rattle.engine_world.specs.Permits.{Permits}
use Rattle.engine_world.specs.Places.{is_held, occurrences, one_if}
use Rattle.engine_world.specs.Sound.{Sound, facts}
use Rattle.engine_world.specs.Steps.{Transition, activate, finish, finish_cancelled, finish_kept, load, load_by_active, load_by_cache, load_by_job, load_from_jobs, queued, quota_of, replace}
use Rattle.engine_world.specs.World.{Job, Resource, World}
use Rattle.engine_world.specs.declared.events.Event.{Event}
use Rattle.engine_world.specs.declared.events.NotedReply.{NotedReply}
use Rattle.finite_maps.specs.MapLaws.{same_Some}
use Rattle.finite_maps.specs.Maps.{map_values}
use Rattle.load_table.specs.Loads.{holders, owned, settled}
use Rattle.load_table.specs.declared.loads.LoadState.TheVariants.{Ready, Waiting}
use Rattle.fetch_bounds.proofs.Events.{IsOther, no_more_law}
use Rattle.engine_world.specs.KeyedLaws.{has_key-found, has_key-there}
use Rattle.fetch_bounds.proofs.NoMore.{gone-no_more, no_more-findable}
use Rattle.fetch_bounds.proofs.Seats.{Runs, holders_added, holders_settled, next_is_new, runs}
use Rattle.fetch_bounds.proofs.Shares.{active_of-none}
use Rattle.fetch_bounds.proofs.Sets.{set_has, set_keeps, set_leaves}
use Rattle.fetch_bounds.specs.Findable.{AsksAll, IsFindable, LoadsAskAll}
use Rattle.fetch_bounds.specs.Laws.{KeepsFindable, OpensFindable}
use Rattle.engine_world.specs.declared.events.Event.TheVariants as events
use Rattle.engine_world.specs.declared.events.NotedReply.TheVariants as replies
use Rattle.engine_world.specs.OccurrenceLaws.{find-none, find-passes, one_if_other, stands_item}
use Rattle.engine_world.specs.NumberLaws.{gone_found, none_at, number_cases, put_cases}
use Rattle.std.specs.FinSet as set
use Rattle.load_table.specs.declared.loads.Settle.TheVariants as settles

module _ (key : Key) (w : World) (known : ℕ → Knowledge) (s : Sound w known) (p : IsFindable key w) where
  -- ---- Load

  module _ (who : ℕ) (spec : LoadSpec) (all : AsksAll key spec) where
    abbrev mine : ℕ
    mine = begun_by w who

    new : get w.loads (who, mine) ≡ None
    new = ap (λ n. get w.loads (who, n)) (s.known_is who).count ∙ (next_is_new (facts w) who (known who) (s.known_is who)).1

    -- what is neither active nor cached is not there
    pub absent : active_of w.resources w.active spec.key ≡ None → cached_of w.resources w.cached spec.key ≡ None → spec.key ≡ key → (r : ℕ) (a : Resource) → get w.resources r ≡ Some a → a.key ≡ key → ⊥
    absent no_active no_cached is r a at same =
        let kept : 0 < one_if (is_held w.loads w.resources r) + occurrences r w.cached = s.places.kept r a at in
        elim (is_held w.loads w.resources r) as (λ t. is_held w.loads w.resources r ≡ t → ⊥) [
          | true ↦ λ e. active_of-none w key r a p at same (ltb-true _ _ (and_parts _ _ e).1) (ap (active_of w.resources w.active) (sym is) ∙ no_active)
          | false ↦ λ e.
              let there : 0 < occurrences r w.cached = omega (arith, kept, ap one_if e) in
              true≢false (sym (has_key-there w.resources spec.key r a at (same ∙ sym is)) ∙ find-none (has_key w.resources spec.key) w.cached r no_cached there)
        ] refl

    waits-findable : (j : ℕ) (o : Option ℕ) → ((o ≡ None) → spec.key ≡ key → (r : ℕ) (a : Resource) → get w.resources r ≡ Some a → a.key ≡ key → ⊥) → IsFindable key (load_by_job w who spec o).1
    waits-findable j None none =
        let job : Job = queued spec in
        record {
          jobs = λ i a at. elim (put_cases w.jobs w.counts.started job i a at) [ inl is ↦ subst (λ (b : Job). AsksAll key b.spec) is.1 all | inr is ↦ p.jobs i a is.1 ];
          active = λ r a at is some. p.active r a at is (omega (arith, some, holders_added w.loads (who, mine) (Waiting w.counts.started) new r));
          alone = λ i b at live is r a there same. elim (put_cases w.jobs w.counts.started job i b at) [
            | inl h ↦ none refl (ap (λ (c : Job). c.spec.key) h.1 ∙ is) r a there same
            | inr h ↦ p.alone i b h.1 live is r a there same
          ];
        }
    waits-findable j (Some i) none = record {
      jobs = p.jobs;
      active = λ r a at is some. p.active r a at is (omega (arith, some, holders_added w.loads (who, mine) (Waiting i) new r));
      alone = p.alone;
    }

    by_cache-findable : active_of w.resources w.active spec.key ≡ None → (o : Option ℕ) → cached_of w.resources w.cached spec.key ≡ o → IsFindable key (load_by_cache w who spec o).1
    by_cache-findable no_active None e = waits-findable 0 (job_for w.jobs spec.key spec.cached) (λ _. absent no_active e)
    by_cache-findable no_active (Some q) e = record {
      jobs = p.jobs;
      active = λ r a at is some. elim (number_cases r q) [
        | inl same ↦ ap (set.contains (set.insert w.active q)) same ∙ set_has w.active q
        | inr ne ↦ set_keeps w.active q r (p.active r a at is (omega (arith, some, holders_added w.loads (who, mine) (Ready q) new r, one_if_other q r (λ h. ne (sym h)))))
      ];
      alone = p.alone;
    }

    by_active-findable : (o : Option ℕ) → active_of w.resources w.active spec.key ≡ o → IsFindable key (load_by_active w who spec o).1
    by_active-findable None e = by_cache-findable e (cached_of w.resources w.cached spec.key) refl
    by_active-findable (Some q) e =
        let is_active : set.contains w.active q ≡ true = stands_item w.active q (find-passes (has_key w.resources spec.key) (set.items w.active) q e).1 in
        record {
          jobs = p.jobs;
          active = λ r a at is some. elim (number_cases r q) [
            | inl same ↦ ap (set.contains w.active) same ∙ is_active
            | inr ne ↦ p.active r a at is (omega (arith, some, holders_added w.loads (who, mine) (Ready q) new r, one_if_other q r (λ h. ne (sym h))))
          ];
          alone = p.alone;
        }

    load-findable : IsFindable key (load w who spec).1
    load-findable = elim (eqb (owned who w.loads) (quota_of w who)) as (λ t. IsFindable key (cond t (replies.Full, w) (cond spec.skip (load_from_jobs w who spec) (load_by_active w who spec (active_of w.resources w.active spec.key)))).1) [
      | true ↦ p
      | false ↦ elim spec.skip as (λ t. spec.skip ≡ t → IsFindable key (cond t (load_from_jobs w who spec) (load_by_active w who spec (active_of w.resources w.active spec.key))).1) [
        | true ↦ λ e. waits-findable 0 (job_for w.jobs spec.key spec.cached) (λ _ is. absurd (true≢false (sym e ∙ all.memory is)))
        | false ↦ λ e. by_active-findable (active_of w.resources w.active spec.key) refl
      ] refl
    ]

  -- ---- Finish

  module _ (j : ℕ) (job : Job) (at_job : get w.jobs j ≡ Some job) (live : job.cancelled ≡ false) (bitmap : BitmapValue) where
    abbrev made : Bool → Resource
    made b = record { key = job.spec.key; cacheable = b; allocation = bitmap.allocation; picture = bitmap.picture }

    -- no other job of the key is left
    still_alone : (b : Bool) (i : ℕ) (other : Job) → get (remove w.jobs j) i ≡ Some other → other.cancelled ≡ false → other.spec.key ≡ key
        → (r : ℕ) (a : Resource) → get (insert w.resources bitmap.number (made b)) r ≡ Some a → a.key ≡ key → ⊥
    still_alone b i other at alive is r a there same =
        let old = gone_found w.jobs j i other at in
        elim (put_cases w.resources bitmap.number (made b) r a there) [
          | inl h ↦
              let mine : job.spec.key ≡ key = ap (λ (c : Resource). c.key) h.1 ∙ same in
              old.0 (s.jobs.apart i j other job old.1 at_job alive live (is ∙ sym mine) ((p.jobs i other old.1).source is ∙ sym ((p.jobs j job at_job).source mine)))
          | inr h ↦ p.alone i other old.1 alive is r a h.1 same
        ]

    -- what was active stays so, beside the new one
    was_active : (q : ℕ) (a : Resource) → q ≢ bitmap.number → get w.resources q ≡ Some a → a.key ≡ key → 0 < holders q (map_values (settled j (settles.Ready bitmap.number)) w.loads) → set.contains w.active q ≡ true
    was_active q a ne at is some = p.active q a at is (omega (arith, some, holders_settled w.loads j (settles.Ready bitmap.number) q (one_if_other bitmap.number q (λ h. ne (sym h)))))

    not_replaced : (o : Option ℕ) → active_of w.resources w.active job.spec.key ≡ o → (q : ℕ) (a : Resource) → get w.resources q ≡ Some a → a.key ≡ key → set.contains w.active q ≡ true → set.contains (replace o w.active) q ≡ true
    not_replaced None e q a at is has = has
    not_replaced (Some x) e q a at is has = set_leaves w.active x q (λ same.
        let found = has_key-found w.resources job.spec.key x (find-passes (has_key w.resources job.spec.key) (set.items w.active) x e).0 in
        let one : found.0 ≡ a = same_Some _ _ (sym found.1 ∙ ap (get w.resources) (sym same) ∙ at) in
        p.alone j job at_job live (sym found.2 ∙ ap (λ (c : Resource). c.key) one ∙ is) q a at is) has

    kept-findable : (b : Bool) → not job.spec.skip ≡ b → IsFindable key (end_job j (settles.Ready bitmap.number) (record (activate b bitmap.number (made b) w) { resources = insert w.resources bitmap.number (made b) }))
    kept-findable true e = record {
      jobs = λ i a at. p.jobs i a (gone_found w.jobs j i a at).1;
      active = λ q a at is some.
          let left = replace (active_of w.resources w.active job.spec.key) w.active in
          elim (put_cases w.resources bitmap.number (made true) q a at) [
            | inl h ↦ ap (set.contains (set.insert left bitmap.number)) h.0 ∙ set_has left bitmap.number
            | inr h ↦ set_keeps left bitmap.number q (not_replaced (active_of w.resources w.active job.spec.key) refl q a h.1 is (was_active q a h.0 h.1 is some))
          ];
      alone = still_alone true;
    }
    kept-findable false e = record {
      jobs = λ i a at. p.jobs i a (gone_found w.jobs j i a at).1;
      active = λ q a at is some. elim (put_cases w.resources bitmap.number (made false) q a at) [
        | inl h ↦ absurd (true≢false (sym (ap not ((p.jobs j job at_job).memory (ap (λ (c : Resource). c.key) h.1 ∙ is))) ∙ e))
        | inr h ↦ was_active q a h.0 h.1 is some
      ];
      alone = still_alone false;
    }

  finish-findable : (j : ℕ) (bitmap : BitmapValue) (job : Job) → get w.jobs j ≡ Some job → IsFindable key (finish w j (Some job) bitmap).1
  finish-findable j bitmap job at = elim job.cancelled as (λ t. job.cancelled ≡ t → IsFindable key (cond t (finish_cancelled w j bitmap) (finish_kept w j job bitmap)).1) [
    | true ↦ λ e. let gone = no_more-findable key w _ (gone-no_more w j) p in record { jobs = gone.jobs; active = gone.active; alone = gone.alone }
    | false ↦ λ e. kept-findable j job at e bitmap (not job.spec.skip) refl
  ] refl

  -- ---- all events

  stays : (z v : World) → z ≡ v → IsFindable key v → IsFindable key z
  stays z v e h = subst (IsFindable key) (sym e) h

  other : (z : World) (who : ℕ) (event : Event) (reply : NotedReply) → IsOther event → Transition w who event reply z → IsFindable key z
  other z who event reply is step = no_more-findable key w z (no_more_law w z who event reply is step) p

  pub findable_law : (z : World) (who : ℕ) (event : Event) (reply : NotedReply) → Permits w.content (known who) event → LoadsAskAll key event → Transition w who event reply z → IsFindable key z
  findable_law z who (events.Load spec) reply permits all step = stays z _ step.1 (load-findable who spec all)
  findable_law z who (events.Finish j bitmap) reply permits all step =
      let r : Runs w who j permits.0.job = runs w known who j s permits.0 in
      stays z _ step.1 (subst (λ (o : Option Job). IsFindable key (finish w j o bitmap).1) (sym r.at) (finish-findable j bitmap r.job r.at))
  findable_law z who event reply permits all step = other z who event reply tt step

pub keeps_findable : (event : Event) → KeepsFindable event
keeps_findable event key w z known who reply s permits all step p = findable_law key w known s p z who event reply permits all step

pub opens_findable : OpensFindable
opens_findable key limits content = record {
  jobs = λ j job at. none_at j job at;
  active = λ r a at is some. none_at r a at;
  alone = λ j job at live is r a there same. none_at j job at;
}
