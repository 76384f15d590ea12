-- What single calls are among those of a job, and how these follow one another.
use Rattle.std.specs.Prelude.{◌≡◌, ℕ, Bool, false}
use Rattle.bitmap_kind.specs.declared.bitmaps.Config.{Config}
use Rattle.bitmap_kind.specs.Picture.{BitmapValue}
use Rattle.engine_world.specs.declared.events.Event.TheVariants as events
use Rattle.engine_world.specs.declared.events.NotedReply.TheVariants as replies
use Rattle.engine_world.specs.Knowledge.{OwnJob}
use Rattle.engine_core.specs.Noted.{lent_by}
use Rattle.engine_shared.specs.Caller.{Caller, IsCall, RunsJob}
use Rattle.engine_shared.specs.Answers.{with_lent, less_lent, with_told}
use Rattle.decode_job.specs.JobCalls.{StillRuns}

-- a caller asks whether its job is cancelled
abbrev pub AskingGoesOn : Type 0
AskingGoesOn =
    (old new : Caller) (p q : OwnJob) (cancelled : Bool)
    → IsCall old (events.IsCancelled p.number) (replies.Cancelled cancelled) new → RunsJob new q
    → q ≡ with_told cancelled p → StillRuns old p new q

-- it is told that it is not, and takes a bitmap
abbrev pub TakingGoesOn : Type 0
TakingGoesOn =
    (a b c : Caller) (p q r : OwnJob) (width height : ℕ) (config : Config) (bitmap : BitmapValue)
    → IsCall a (events.IsCancelled p.number) (replies.Cancelled false) b → q ≡ p
    → IsCall b (events.Take q.number width height config) (replies.Taken (lent_by bitmap)) c → RunsJob c r
    → r ≡ with_lent bitmap q → StillRuns a p c r

-- or there is no memory for one
abbrev pub WantingGoesOn : Type 0
WantingGoesOn =
    (a b c : Caller) (p q r : OwnJob) (width height : ℕ) (config : Config)
    → IsCall a (events.IsCancelled p.number) (replies.Cancelled false) b → q ≡ p
    → IsCall b (events.Take q.number width height config) replies.NoMemory c → RunsJob c r → r ≡ q
    → StillRuns a p c r

-- it gives one back
abbrev pub GivingGoesOn : Type 0
GivingGoesOn =
    (old new : Caller) (p q : OwnJob) (bitmap : BitmapValue)
    → IsCall old (events.GiveBack p.number bitmap) replies.Done new → RunsJob new q
    → q ≡ less_lent bitmap.number p → StillRuns old p new q

-- it makes some calls, and then some more
abbrev pub CallsJoin : Type 0
CallsJoin =
    (a b c : Caller) (p q r : OwnJob) → StillRuns a p b q → StillRuns b q c r → StillRuns a p c r
