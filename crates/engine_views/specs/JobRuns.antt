-- What running jobs added to a caller's history, and did to the source. This project's own.
use Rattle.std.specs.Prelude.{◌≡◌, ◌≢◌, ◌+◌, ◌≤◌, Bool, true, false, List, [], ◌∷◌, ◌++◌, OnSome, count_by, ⊤}
use Rattle.outside.specs.Causes.{Rose}
use Rattle.outside.specs.Content.{Address}
use Rattle.outside.specs.declared.sources.Source as sources
use Rattle.load_cause.specs.declared.causes.Cause.{Cause}
use Rattle.load_cause.specs.declared.causes.Cause.TheVariants as causes
use Rattle.script_walk.specs.Marks.{same_address}
use Rattle.engine_shared.specs.Caller.{Caller}
use Rattle.fetch_bounds.specs.Costs.{source_runs}
use Rattle.fetch_bounds.specs.Failures.{FailedJob, fails_in, source_addresses}

-- No job was run, and none failed.
pub record RunsNoJob (old new : Caller) : Type 0 where
  pub runs : source_runs new.seen ≡ source_runs old.seen
  pub fails : fails_in new.seen ≡ fails_in old.seen

-- A caller of the engine, and the source that its jobs ask, at one moment.
pub record Worker (S : Type 0) : Type 0 where
  pub caller : Caller
  pub source : S

abbrev pub worker : {S : Type 0} → Caller → S → Worker S
worker caller source = record { caller = caller; source = source }

module _ {S : Type 0} (source : sources.Ghosts S) where
  -- Of a job that failed by its source, or for want of memory, or since it asks the caches alone: it may ask its source, whose
  -- count of faults rose; a want of memory was told of; it does ask the caches alone.
  abbrev pub IsExcused : (wanting : Bool) → S → S → FailedJob → Cause → Type 0
  IsExcused wanting old new job causes.Source = (job.spec.cached ≡ false) × Rose (source.faults old) (source.faults new)
  IsExcused wanting old new job causes.Memory = wanting ≡ true
  IsExcused wanting old new job causes.Uncached = job.spec.cached ≡ true
  IsExcused wanting old new job cause = ⊤

  abbrev pub AreExcused : (wanting : Bool) → S → S → List FailedJob → Type 0
  AreExcused wanting old new [] = ⊤
  AreExcused wanting old new (job ∷ jobs) =
      IsExcused wanting old new job job.cause × AreExcused wanting old new jobs

  -- Jobs were run by a caller that asked the source for them. There were no more fetches than jobs that may ask it, and of each
  -- address no more jobs failed by it than fetches did, where the source tells its content.
  pub record RunsJobs (wanting : Bool) (old new : Worker S) : Type 0 where
    pub content : source.content new.source ≡ source.content old.source
    pub later : source.faults old.source ≤ source.faults new.source
    pub fetched : source.fetched new.source + source_runs old.caller.seen
        ≤ source.fetched old.source + source_runs new.caller.seen
    pub jobs : List FailedJob
    pub jobs_are : fails_in new.caller.seen ≡ fails_in old.caller.seen ++ jobs
    pub excused : AreExcused wanting old.source new.source jobs
    pub failed : List Address
    pub recorded : OnSome (source.content old.source)
        (source.failed new.source ≡ source.failed old.source ++ failed)
    pub caused : failed ≢ [] → Rose (source.faults old.source) (source.faults new.source)
    pub owed : OnSome (source.content old.source)
        ((address : Address) → count_by (λ a. same_address a address) (source_addresses jobs)
        ≤ count_by (λ a. same_address a address) failed)
