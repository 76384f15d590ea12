-- All that is loaded stays among the keys that are loaded.
use Rattle.std.proofs.Common.{Bool, List, None, Option, Some, cond, eqb, false, inl, inr, refl, subst, sym, true, ℕ, ◌≡◌}
use Rattle.std.specs.FinMap.{get, insert, keys}
use Rattle.std.specs.Prelude.{not}
use Rattle.bitmap_kind.specs.Picture.{BitmapValue}
use Rattle.cache_key.specs.Key.{Key}
use Rattle.cache_key.specs.declared.load_spec.LoadSpec.{LoadSpec}
use Rattle.engine_world.specs.Moves.{active_of, cached_of, end_job, job_for}
use Rattle.engine_world.specs.Steps.{Transition, activate, finish, finish_cancelled, finish_kept, load, load_by_active, load_by_cache, load_by_job, load_from_jobs, queued, quota_of, resource_of}
use Rattle.engine_world.specs.World.{Job, Resource, World}
use Rattle.engine_world.specs.declared.events.Event.{Event}
use Rattle.engine_world.specs.declared.events.NotedReply.{NotedReply}
use Rattle.load_table.specs.Loads.{owned}
use Rattle.script_walk.specs.Walk.{step}
use Rattle.fetch_bounds.proofs.Events.{IsOther, no_more_law}
use Rattle.fetch_bounds.proofs.NoMore.{HasNoMore}
use Rattle.fetch_bounds.specs.InMemory.{IsAmong, LoadedAmong, LoadsAmong}
use Rattle.engine_world.specs.declared.events.Event.TheVariants as events
use Rattle.engine_world.specs.declared.events.NotedReply.TheVariants as replies
use Rattle.engine_world.specs.NumberLaws.{gone_found, put_cases}
use Rattle.load_table.specs.declared.loads.Settle.TheVariants as settles

no_more-keyed : (keys : List Key) (w v : World) → HasNoMore w v → LoadedAmong keys w → LoadedAmong keys v
no_more-keyed keys w v l p = record {
  jobs = λ j b at. let old = l.jobs j b at in subst (λ (s : LoadSpec). IsAmong s.key keys) (sym old.2) (p.jobs j old.0 old.1);
  resources = λ r a at. p.resources r a (l.resources r a at);
}

module _ (keys : List Key) (w : World) (p : LoadedAmong keys w) where
  module _ (who : ℕ) (spec : LoadSpec) (among : IsAmong spec.key keys) where
    by_job : (o : Option ℕ) → LoadedAmong keys (load_by_job w who spec o).1
    by_job None = record {
      jobs = λ i a at. elim (put_cases w.jobs w.counts.started (queued spec) i a at) [ inl is ↦ subst (λ (b : Job). IsAmong b.spec.key keys) is.1 among | inr is ↦ p.jobs i a is.1 ];
      resources = p.resources;
    }
    by_job (Some j) = record { jobs = p.jobs; resources = p.resources }

    by_cache : (o : Option ℕ) → LoadedAmong keys (load_by_cache w who spec o).1
    by_cache None = by_job (job_for w.jobs spec.key spec.cached)
    by_cache (Some r) = record { jobs = p.jobs; resources = p.resources }

    by_active : (o : Option ℕ) → LoadedAmong keys (load_by_active w who spec o).1
    by_active None = by_cache (cached_of w.resources w.cached spec.key)
    by_active (Some r) = record { jobs = p.jobs; resources = p.resources }

    load-keyed : LoadedAmong keys (load w who spec).1
    load-keyed = elim (eqb (owned who w.loads) (quota_of w who)) as (λ t. LoadedAmong keys (cond t (replies.Full, w) (cond spec.skip (load_from_jobs w who spec) (load_by_active w who spec (active_of w.resources w.active spec.key)))).1) [
      | true ↦ p
      | false ↦ elim spec.skip as (λ t. LoadedAmong keys (cond t (load_from_jobs w who spec) (load_by_active w who spec (active_of w.resources w.active spec.key))).1) [
        | true ↦ by_job (job_for w.jobs spec.key spec.cached)
        | false ↦ by_active (active_of w.resources w.active spec.key)
      ]
    ]

  kept-keyed : (j : ℕ) (b : Bool) (bitmap : BitmapValue) (made : Resource) → IsAmong made.key keys → LoadedAmong keys (end_job j (settles.Ready bitmap.number) (record (activate b bitmap.number made w) { resources = insert w.resources bitmap.number made }))
  kept-keyed j true bitmap made among = record {
    jobs = λ i a at. p.jobs i a (gone_found w.jobs j i a at).1;
    resources = λ r a at. elim (put_cases w.resources bitmap.number made r a at) [ inl is ↦ subst (λ (b : Resource). IsAmong b.key keys) is.1 among | inr is ↦ p.resources r a is.1 ];
  }
  kept-keyed j false bitmap made among = record {
    jobs = λ i a at. p.jobs i a (gone_found w.jobs j i a at).1;
    resources = λ r a at. elim (put_cases w.resources bitmap.number made r a at) [ inl is ↦ subst (λ (b : Resource). IsAmong b.key keys) is.1 among | inr is ↦ p.resources r a is.1 ];
  }

  finish-keyed : (j : ℕ) (bitmap : BitmapValue) (o : Option Job) → get w.jobs j ≡ o → LoadedAmong keys (finish w j o bitmap).1
  finish-keyed j bitmap None e = p
  finish-keyed j bitmap (Some job) e = elim job.cancelled as (λ t. LoadedAmong keys (cond t (finish_cancelled w j bitmap) (finish_kept w j job bitmap)).1) [
    | true ↦ record { jobs = λ i a at. p.jobs i a (gone_found w.jobs j i a at).1; resources = p.resources }
    | false ↦ kept-keyed j (not job.spec.skip) bitmap (resource_of job bitmap) (p.jobs j job e)
  ]

  stays : (z v : World) → z ≡ v → LoadedAmong keys v → LoadedAmong keys z
  stays z v e h = subst (LoadedAmong keys) (sym e) h

  other : (z : World) (who : ℕ) (event : Event) (reply : NotedReply) → IsOther event → Transition w who event reply z → LoadedAmong keys z
  other z who event reply is step = no_more-keyed keys w z (no_more_law w z who event reply is step) p

  pub keyed_law : (z : World) (who : ℕ) (event : Event) (reply : NotedReply) → LoadsAmong keys event → Transition w who event reply z → LoadedAmong keys z
  keyed_law z who (events.Load spec) reply among step = stays z _ step.1 (load-keyed who spec among)
  keyed_law z who (events.Finish j bitmap) reply among step = stays z _ step.1 (finish-keyed j bitmap (get w.jobs j) refl)
  keyed_law z who event reply among step = other z who event reply tt step
