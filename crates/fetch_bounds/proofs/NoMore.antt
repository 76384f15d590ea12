-- States that have no more than another, and the events that leave no more.
use Rattle.std.proofs.Common.{List, None, Option, Some, [], ap, arith, cond, eqb, false, inl, inr, leb, refl, subst, sym, true, true≢false, ℕ, ◌+◌, ◌/◌, ◌<◌, ◌∙◌, ◌∷◌, ◌≡◌}
use Rattle.std.proofs.lemmas.Bool.{eqb-true}
use Rattle.std.specs.FinMap.{get, insert, remove}
use Rattle.std.specs.Option.{is_none}
use Rattle.std.specs.Prelude.{◌||◌}
use Rattle.cache_key.specs.Key.{Key}
use Rattle.cache_key.specs.declared.load_spec.LoadSpec.{LoadSpec}
use Rattle.engine_world.specs.Moves.{all_to_pool, cache_first, cached_of, cached_to_pool, cancel_job, end_job, lend, let_go, pool_resource, retire, shrink_cache, size_of, take_back, to_cache, to_pool, trim_to}
use Rattle.engine_world.specs.Places.{one_if}
use Rattle.engine_world.specs.Steps.{release, released, trim}
use Rattle.engine_world.specs.World.{Job, LoadState, Resource, World}
use Rattle.engine_world.specs.declared.events.Lent.{Lent}
use Rattle.engine_world.specs.NumberLaws.{gone_found, put_cases}
use Rattle.finite_maps.specs.MapLaws.{total-remove}
use Rattle.load_cause.specs.declared.causes.Cause.{Cause}
use Rattle.load_table.specs.Loads.{holders, ready_on, waiting}
use Rattle.load_table.specs.declared.loads.LoadState.TheVariants.{Failed, Ready, Waiting}
use Rattle.memory_cache.specs.Cache.{cache_gone, cache_kept, is_too_large}
use Rattle.fetch_bounds.proofs.Seats.{holders_settled}
use Rattle.fetch_bounds.proofs.Sets.{set_leaves}
use Rattle.fetch_bounds.specs.Findable.{AsksAll, IsFindable}
use Rattle.std.specs.FinSet as set
use Rattle.load_table.specs.declared.loads.Settle.TheVariants as settles
use Rattle.load_table.specs.LoadOrder.{load_same, load_total}

-- One state has no more than another: no other jobs and resources, holds no other resource, and no fewer of those are active.
pub record HasNoMore (w v : World) : Type 0 where
  pub jobs : (j : ℕ) (b : Job) → get v.jobs j ≡ Some b → (a : Job) × (get w.jobs j ≡ Some a) × (b.spec ≡ a.spec) × (b.cancelled ≡ false → a.cancelled ≡ false)
  pub resources : (r : ℕ) (a : Resource) → get v.resources r ≡ Some a → get w.resources r ≡ Some a
  pub held : (r : ℕ) → 0 < holders r v.loads → 0 < holders r w.loads
  pub active : (r : ℕ) → 0 < holders r v.loads → set.contains w.active r ≡ true → set.contains v.active r ≡ true
  pub started : v.counts.started ≡ w.counts.started
  pub made : v.counts.loads ≡ w.counts.loads

pub no_more-findable : (key : Key) (w v : World) → HasNoMore w v → IsFindable key w → IsFindable key v
no_more-findable key w v l p = record {
  jobs = λ j b at. let old = l.jobs j b at in subst (AsksAll key) (sym old.2) (p.jobs j old.0 old.1);
  active = λ r a at is some. l.active r some (p.active r a (l.resources r a at) is (l.held r some));
  alone = λ j b at live is r a there same. let old = l.jobs j b at in p.alone j old.0 old.1 (old.3 live) (ap (λ (s : LoadSpec). s.key) (sym old.2) ∙ is) r a (l.resources r a there) same;
}

pub no_more-same : (w : World) → HasNoMore w w
no_more-same w = record { jobs = λ j b at. (b, at, refl, λ h. h); resources = λ r a at. at; held = λ r h. h; active = λ r h e. e; started = refl; made = refl }

module _ (w : World) where
  pool_resource-no_more : (r : ℕ) (o : Option Resource) (v : World) → HasNoMore w v → HasNoMore w (pool_resource r o v)
  pool_resource-no_more r None v h = h
  pool_resource-no_more r (Some b) v h = record { jobs = h.jobs; resources = λ q a at. h.resources q a (gone_found v.resources r q a at).1; held = h.held; active = h.active; started = h.started; made = h.made }

  to_pool-no_more : (r : ℕ) (v : World) → HasNoMore w v → HasNoMore w (to_pool r v)
  to_pool-no_more r v h = pool_resource-no_more r (get v.resources r) v h

  all_to_pool-no_more : (rs : List ℕ) (v : World) → HasNoMore w v → HasNoMore w (all_to_pool rs v)
  all_to_pool-no_more [] v h = h
  all_to_pool-no_more (r ∷ rs) v h = all_to_pool-no_more rs (to_pool r v) (to_pool-no_more r v h)

  pub shrink_cache-no_more : (room : ℕ) (v : World) → HasNoMore w v → HasNoMore w (shrink_cache room v)
  shrink_cache-no_more room v h = all_to_pool-no_more (cache_gone (size_of v.resources) room v.cached) (record v { cached = cache_kept (size_of v.resources) room v.cached })
      (record { jobs = h.jobs; resources = h.resources; held = h.held; active = h.active; started = h.started; made = h.made })

  cached_to_pool-no_more : (o : Option ℕ) (v : World) → HasNoMore w v → HasNoMore w (cached_to_pool o v)
  cached_to_pool-no_more None v h = h
  cached_to_pool-no_more (Some r) v h = to_pool-no_more r _ (record { jobs = h.jobs; resources = h.resources; held = h.held; active = h.active; started = h.started; made = h.made })

  cache_first-no_more : (r : ℕ) (v : World) → HasNoMore w v → HasNoMore w (cache_first r v)
  cache_first-no_more r v h = shrink_cache-no_more v.limits.memory (record v { cached = r ∷ v.cached }) (record { jobs = h.jobs; resources = h.resources; held = h.held; active = h.active; started = h.started; made = h.made })

  to_cache-no_more : (r : ℕ) (a : Resource) (v : World) → HasNoMore w v → HasNoMore w (to_cache r a v)
  to_cache-no_more r a v h = elim (is_too_large v.limits.memory a.allocation) as (λ t. HasNoMore w (cond t (to_pool r v) (cache_first r (cached_to_pool (cached_of v.resources v.cached a.key) v)))) [
    | true ↦ to_pool-no_more r v h
    | false ↦ cache_first-no_more r (cached_to_pool (cached_of v.resources v.cached a.key) v) (cached_to_pool-no_more (cached_of v.resources v.cached a.key) v h)
  ]

  retire-no_more : (r : ℕ) (o : Option Resource) (v : World) → HasNoMore w v → HasNoMore w (retire r o v)
  retire-no_more r None v h = h
  retire-no_more r (Some a) v h = elim a.cacheable as (λ t. HasNoMore w (cond t (to_cache r a v) (to_pool r v))) [ true ↦ to_cache-no_more r a v h | false ↦ to_pool-no_more r v h ]

  let_go-no_more : (r : ℕ) (v : World) → holders r v.loads ≡ 0 → HasNoMore w v → HasNoMore w (let_go r v)
  let_go-no_more r v none h = retire-no_more r (get v.resources r) (record v { active = set.remove v.active r }) (record {
    jobs = h.jobs;
    resources = h.resources;
    held = h.held;
    started = h.started;
    made = h.made;
    active = λ q some is. set_leaves v.active r q (λ same. absurd (omega (arith, some, ap (λ i. holders i v.loads) same, none))) (h.active q some is);
  })

  cancel_job-no_more : (j : ℕ) (o : Option Job) (v : World) → get v.jobs j ≡ o → HasNoMore w v → HasNoMore w (cancel_job j o v)
  cancel_job-no_more j None v e h = h
  cancel_job-no_more j (Some job) v e h = elim (is_none job.seat) as (λ t. HasNoMore w (cond t (record v { jobs = remove v.jobs j }) (record v { jobs = insert v.jobs j (record job { cancelled = true }) }))) [
    | true ↦ record { jobs = λ i b at. h.jobs i b (gone_found v.jobs j i b at).1; resources = h.resources; held = h.held; active = h.active; started = h.started; made = h.made }
    | false ↦ record {
      jobs = λ i b at. elim (put_cases v.jobs j (record job { cancelled = true }) i b at) [
        | inl is ↦ let old = h.jobs j job e in (old.0, ap (get w.jobs) is.0 ∙ old.1, ap (λ (c : Job). c.spec) (sym is.1) ∙ old.2, λ live. absurd (true≢false (ap (λ (c : Job). c.cancelled) is.1 ∙ live)))
        | inr is ↦ h.jobs i b is.1
      ];
      resources = h.resources;
      held = h.held;
      active = h.active;
      started = h.started;
      made = h.made;
    }
  ]

  released-no_more : (state : LoadState) (v : World) → HasNoMore w v → HasNoMore w (released state v)
  released-no_more (Waiting j) v h = elim (eqb (waiting j v.loads) 0) as (λ t. HasNoMore w (cond t (cancel_job j (get v.jobs j) v) v)) [ true ↦ cancel_job-no_more j (get v.jobs j) v refl h | false ↦ h ]
  released-no_more (Ready r) v h = elim (eqb (holders r v.loads) 0) as (λ t. eqb (holders r v.loads) 0 ≡ t → HasNoMore w (cond t (let_go r v) v)) [ true ↦ λ e. let_go-no_more r v (eqb-true _ _ e) h | false ↦ λ e. h ] refl
  released-no_more (Failed cause) v h = h

  pub release-no_more : (who n : ℕ) (o : Option LoadState) → get w.loads (who, n) ≡ o → HasNoMore w (release w who n o)
  release-no_more who n None e = no_more-same w
  release-no_more who n (Some state) e =
      let left : (q : ℕ) → holders q w.loads ≡ one_if (ready_on q state) + holders q (remove w.loads (who, n)) = λ q. total-remove load_total load_same (λ load (st : LoadState). one_if (ready_on q st)) w.loads (who, n) state e in
      released-no_more state (record w { loads = remove w.loads (who, n) }) (record { jobs = λ j b at. (b, at, refl, λ h. h); resources = λ r a at. at; held = λ r some. omega (arith, some, left r); active = λ r some is. is; started = refl; made = refl })

  -- a job changes that keeps what it is for
  job-no_more : (j : ℕ) (job now : Job) (v : World) → get v.jobs j ≡ Some job → now.spec ≡ job.spec → now.cancelled ≡ job.cancelled → HasNoMore w v → HasNoMore w (record v { jobs = insert v.jobs j now })
  job-no_more j job now v e spec cancelled h = record {
    jobs = λ i b at. elim (put_cases v.jobs j now i b at) [
      | inl is ↦ let old = h.jobs j job e in (old.0, ap (get w.jobs) is.0 ∙ old.1, ap (λ (c : Job). c.spec) (sym is.1) ∙ spec ∙ old.2, λ live. old.3 (sym cancelled ∙ ap (λ (c : Job). c.cancelled) is.1 ∙ live))
      | inr is ↦ h.jobs i b is.1
    ];
    resources = h.resources;
    held = h.held;
    active = h.active;
    started = h.started;
    made = h.made;
  }

  pub run-no_more : (who j : ℕ) (job : Job) → get w.jobs j ≡ Some job → HasNoMore w (record w { jobs = insert w.jobs j (record job { seat = Some who }) })
  run-no_more who j job e = job-no_more j job (record job { seat = Some who }) w e refl refl (no_more-same w)

  pub lend-no_more : (j : ℕ) (o : Option Job) (lent : Lent) (v : World) → get v.jobs j ≡ o → HasNoMore w v → HasNoMore w (lend j o lent v)
  lend-no_more j None lent v e h = h
  lend-no_more j (Some job) lent v e h = job-no_more j job _ v e refl refl h

  pub take_back-no_more : (j : ℕ) (o : Option Job) (b : ℕ) (v : World) → get v.jobs j ≡ o → HasNoMore w v → HasNoMore w (take_back j o b v)
  take_back-no_more j None b v e h = h
  take_back-no_more j (Some job) b v e h = job-no_more j job _ v e refl refl h

  pub gone-no_more : (j : ℕ) → HasNoMore w (record w { jobs = remove w.jobs j })
  gone-no_more j = record { jobs = λ i b at. (b, (gone_found w.jobs j i b at).1, refl, λ h. h); resources = λ r a at. at; held = λ r h. h; active = λ r h is. is; started = refl; made = refl }

  pub fail-no_more : (j : ℕ) (cause : Cause) → HasNoMore w (end_job j (settles.Failed cause) w)
  fail-no_more j cause = record {
    jobs = λ i b at. (b, (gone_found w.jobs j i b at).1, refl, λ h. h);
    resources = λ r a at. at;
    held = λ r some. omega (arith, some, holders_settled w.loads j (settles.Failed cause) r refl);
    active = λ r some is. is;
    started = refl;
    made = refl;
  }

  pub trim-no_more : (level : ℕ) → HasNoMore w (trim level w)
  trim-no_more level = elim (leb 40 level) as (λ t. HasNoMore w (cond t (trim_to 0 0 w) (cond (leb 20 level || eqb level 15) (trim_to (w.limits.memory / 2) (w.limits.pool / 2) w) w))) [
    | true ↦ cut 0 0
    | false ↦ elim (leb 20 level || eqb level 15) as (λ t. HasNoMore w (cond t (trim_to (w.limits.memory / 2) (w.limits.pool / 2) w) w)) [ true ↦ cut (w.limits.memory / 2) (w.limits.pool / 2) | false ↦ no_more-same w ]
  ] where
    cut : (memory pool : ℕ) → HasNoMore w (trim_to memory pool w)
    cut memory pool = let h = shrink_cache-no_more memory w (no_more-same w) in record { jobs = h.jobs; resources = h.resources; held = h.held; active = h.active; started = h.started; made = h.made }
