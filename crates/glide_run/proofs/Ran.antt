-- An engine that ran a walk from its opening to its end, and the source that its jobs asked.
use Rattle.std.proofs.Common.{◌≡◌, ◌≢◌, ℕ, ◌+◌, ◌≤◌, Bool, List, [], ◌∷◌, ◌++◌, length, Some, None, Option, refl, ap, sym, subst, ◌∙◌, append-nil, arith, count_by}
use Rattle.std.specs.Prelude.{OnSome, Result}
use Rattle.std.specs.FinMap.{len}
use Rattle.outside.specs.Causes.{Rose}
use Rattle.outside.specs.Content.{Address}
use Rattle.outside.specs.declared.sinks.Sink as sinks
use Rattle.outside.specs.declared.sources.Source as sources
use Rattle.state_machine.specs.Legal as histories
use Rattle.engine_world.specs.declared.events.Totals.{Totals}
use Rattle.engine_world.specs.World.{Limits, World, opening}
use Rattle.engine_world.specs.Knowledge.{Knowledge, knowledge_in}
use Rattle.engine_world.specs.EngineMachine.{opening_of}
use Rattle.engine_shared.specs.Caller.{Caller, knowledge_of, engine}
use Rattle.script_walk.specs.Walk.{TraceEvent, trace}
use Rattle.script_walk.specs.Marks.{begins_in, same_address}
use Rattle.fetch_bounds.specs.Follows as followed
use Rattle.fetch_bounds.specs.Parts.{begins_after, TracesJoin}
use Rattle.fetch_bounds.specs.Costs.{source_runs, failed_jobs}
use Rattle.fetch_bounds.specs.Failures.{FailedJob, fails_in, source_addresses}
use Rattle.engine_views.specs.Owner.{HasJust}
use Rattle.engine_views.specs.JobRuns.{AreExcused, RunsJobs}
use Rattle.glide_run.specs.Promise.{limits_of}
use Rattle.glide_run.specs.inside.Obeys.{Moment}
use Rattle.glide_run.specs.inside.Running.{IsFresh, HasRun, IsClosed}
use Rattle.glide_run.specs.declared.run.Ended as code
use Rattle.glide_run.specs.declared.run.Stop.{Stop}
use Rattle.glide_run.specs.declared.settings.Settings.{Settings}

module _ {S : Type 0} (source : sources.Ghosts S) where
  -- Its history is legal from the opening and is that of these events. Its caller has no load and no job, and began as many loads as
  -- the events do. The jobs asked the source, which went from one moment to the other.
  pub record Ran (settings : Settings) (events : List TraceEvent) (wanting : Bool) (old new : S) (c : Caller) : Type 0 where
    pub legal : histories.IsLegal engine (opening (limits_of settings) (source.content old)) c.seen c.world
    pub limits : c.world.limits ≡ limits_of settings
    pub follows : followed.Follows [] events c.seen
    pub released : len (knowledge_in c.seen 0).loads ≡ 0
    pub idle : (knowledge_in c.seen 0).job ≡ None
    pub begun : (knowledge_in c.seen 0).begun ≡ length (begins_in events)
    pub fetched : source.fetched new ≤ source.fetched old + source_runs c.seen
    pub excused : AreExcused source wanting old new (fails_in c.seen)
    pub failed : List Address
    pub recorded : OnSome (source.content old) (source.failed new ≡ source.failed old ++ failed)
    pub caused : failed ≢ [] → Rose (source.faults old) (source.faults new)
    pub owed : OnSome (source.content old)
        ((address : Address) → count_by (λ a. same_address a address) (failed_jobs c.seen) ≤ count_by (λ a. same_address a address) failed)

  module _ {W : Type 0} (sink : sinks.Ghosts W) (join : TracesJoin) where
    pub ran : (settings : Settings) (text : Option (List ℕ)) (result : Result code.Ended Stop) (old new : Moment W S) (sums : Totals) (c : Caller)
        → IsFresh old.caller → old.caller.world ≡ opening (limits_of settings) (source.content old.source)
        → (p : HasRun sink source text result old new) → IsClosed sums new.caller c
        → Ran settings (trace p.progress.outcome p.progress.work) p.wanting old.source new.source c
    ran settings text result old new sums c fresh opens p closed =
        let events = trace p.progress.outcome p.progress.work in
        let start = opening (limits_of settings) (source.content old.source) in
        let opened : opening_of c.world ≡ start = closed.opening ∙ p.opening ∙ ap opening_of opens in
        let same : knowledge_in c.seen 0 ≡ knowledge_of new.caller =
        ap (knowledge_in c.seen) (sym (closed.who ∙ p.just.owner.who)) ∙ closed.knowledge in
        let fails : fails_in c.seen ≡ p.jobs.jobs =
        closed.no_job.fails ∙ p.jobs.jobs_are ∙ ap (λ seen. fails_in seen ++ p.jobs.jobs) fresh.unseen in
        record {
          legal = subst (λ w. histories.IsLegal engine w c.seen c.world) opened closed.legal.past;
          limits = ap (λ (w : World). w.limits) opened;
          follows = subst (followed.Follows [] events) (sym closed.seen)
              (subst (λ es. followed.Follows [] es (new.caller.seen ++ closed.later)) (append-nil events)
              (join [] events [] new.caller.seen closed.later p.follows closed.work));
          released = ap (λ (known : Knowledge). len known.loads) same ∙ p.just.count;
          idle = ap (λ (known : Knowledge). known.job) same ∙ p.just.idle;
          begun = ap (λ (known : Knowledge). known.begun) same ∙ p.begun;
          fetched = omega (arith, p.jobs.fetched, closed.no_job.runs, ap source_runs fresh.unseen);
          excused = subst (AreExcused source p.wanting old.source new.source) (sym fails) p.jobs.excused;
          failed = p.jobs.failed;
          recorded = p.jobs.recorded;
          caused = p.jobs.caused;
          owed = subst (λ jobs. OnSome (source.content old.source) ((address : Address) → count_by (λ a. same_address a address) (source_addresses jobs) ≤ count_by (λ a. same_address a address) p.jobs.failed)) (sym fails) p.jobs.owed;
        }
