-- What a job leaves of its caller's loads.
use Rattle.std.proofs.Common.{◌≡◌, ◌<◌, Bool, ap, sym, subst, ◌∙◌, arith}
use Rattle.std.specs.FinMap.{get}
use Rattle.engine_world.specs.declared.events.Event.TheVariants as events
use Rattle.engine_world.specs.declared.events.NotedReply.TheVariants as replies
use Rattle.engine_world.specs.Knowledge.{OwnJob}
use Rattle.engine_world.specs.Permits.{IsPicture}
use Rattle.engine_shared.specs.Tokens.{HoldValue}
use Rattle.engine_shared.specs.Caller.{Caller, knowledge_of, picture_held, HasLoad, HasReadyLoad}
use Rattle.engine_shared.specs.CallLaws.{LoadsStay, ReadyLoadsStay}
use Rattle.decode_job.specs.declared.ends.JobEnd.{JobEnd}
use Rattle.decode_job.specs.declared.ends.JobEnd.TheVariants as ends
use Rattle.decode_job.specs.JobCalls.{MakesCalls}
use Rattle.decode_job.specs.Ends.{IsLastCall}
use Rattle.decode_job.specs.Laws.{JobsLeaveLoads, JobsLeavePictures}

-- through the calls before the last
has_between : (told : Bool) (old new : Caller) (job : OwnJob) (hold : HoldValue) → MakesCalls told old job.number new → HasLoad old hold → HasLoad new hold
has_between told old new job hold calls has =
    let same = calls.begun in
    let below : hold.number < (knowledge_of old).begun = has.below in
    record {
      load = has.load;
      is = ap (λ m. get m hold.number) calls.loads ∙ has.is;
      key = has.key;
      below = omega (arith, same, below);
    }

ready_between : (told : Bool) (old new : Caller) (job : OwnJob) (hold : HoldValue) → MakesCalls told old job.number new → HasReadyLoad old hold → HasReadyLoad new hold × (picture_held new hold.number ≡ picture_held old hold.number)
ready_between told old new job hold calls has =
    let begun = calls.begun in
    let below : hold.number < (knowledge_of old).begun = has.below in
    let same : picture_held new hold.number ≡ picture_held old hold.number = calls.pictures hold.number (has.load, has.is, has.ready) in (
      record {
        load = has.load;
        is = ap (λ m. get m hold.number) calls.loads ∙ has.is;
        key = has.key;
        ready = has.ready;
        below = omega (arith, begun, below);
        picture = has.picture;
        shows = same ∙ has.shows;
        right = subst (λ c. IsPicture c hold.key has.picture) (sym calls.content) has.right;
      },
      same,
    )

-- and through the last one
has_last : LoadsStay → (old new : Caller) (job : OwnJob) (end : JobEnd) (hold : HoldValue) → IsLastCall old job end new → HasLoad old hold → HasLoad new hold
has_last stay old new job ends.Finished hold last has = stay old new (events.Finish job.number last.0) replies.Done hold has last.1 (λ is. is)
has_last stay old new job ends.Discarded hold last has = stay old new (events.Finish job.number last.0) replies.Discarded hold has last.1 (λ is. is)
has_last stay old new job ends.Quit hold last has = stay old new (events.Quit job.number) replies.Done hold has last.1 (λ is. is)
has_last stay old new job (ends.Failed cause) hold last has = stay old new (events.Fail job.number cause) replies.Done hold has last (λ is. is)

ready_last : ReadyLoadsStay → (old new : Caller) (job : OwnJob) (end : JobEnd) (hold : HoldValue) → IsLastCall old job end new → HasReadyLoad old hold → HasReadyLoad new hold × (picture_held new hold.number ≡ picture_held old hold.number)
ready_last stay old new job ends.Finished hold last has = stay old new (events.Finish job.number last.0) replies.Done hold has last.1 (λ is. is)
ready_last stay old new job ends.Discarded hold last has = stay old new (events.Finish job.number last.0) replies.Discarded hold has last.1 (λ is. is)
ready_last stay old new job ends.Quit hold last has = stay old new (events.Quit job.number) replies.Done hold has last.1 (λ is. is)
ready_last stay old new job (ends.Failed cause) hold last has = stay old new (events.Fail job.number cause) replies.Done hold has last (λ is. is)

pub jobs_leave_loads : LoadsStay → JobsLeaveLoads
jobs_leave_loads stay old new job end hold runs has =
    has_last stay runs.between new runs.now end hold runs.last (has_between _ old runs.between job hold runs.calls has)

pub jobs_leave_pictures : ReadyLoadsStay → JobsLeavePictures
jobs_leave_pictures stay old new job end hold runs has =
    let first = ready_between _ old runs.between job hold runs.calls has in
    let then_ = ready_last stay runs.between new runs.now end hold runs.last first.0 in
    (then_.0, then_.1 ∙ first.1)
