-- How a job ends, and why. The causes are this project's own.
use Rattle.std.specs.Prelude.{◌≡◌, ℕ, true, false, List, Err, Some, None, ⊤}
use Rattle.bitmap_kind.specs.Picture.{BitmapValue}
use Rattle.cache_key.specs.declared.load_spec.LoadSpec.{LoadSpec}
use Rattle.image_format.specs.Pictures.{picture_of}
use Rattle.load_cause.specs.declared.causes.Cause.{Cause}
use Rattle.load_cause.specs.declared.causes.Cause.TheVariants as causes
use Rattle.engine_world.specs.declared.events.Event.TheVariants as events
use Rattle.engine_world.specs.declared.events.NotedReply.TheVariants as replies
use Rattle.engine_world.specs.Knowledge.{OwnJob}
use Rattle.engine_world.specs.Permits.{IsPicture}
use Rattle.engine_shared.specs.Caller.{Caller, content_of, IsCall, RunsJob}
use Rattle.decode_job.specs.declared.ends.JobEnd.{JobEnd}
use Rattle.decode_job.specs.declared.ends.JobEnd.TheVariants as ends
use Rattle.decode_job.specs.JobCalls.{MakesCalls}
use Rattle.decode_job.specs.Sources.{SourceView, HasText, WasFetched, FailedAt}

-- ---- why it failed

-- A job fails for this cause: its source has nothing, has a text that is refused so, or failed; or the job
-- asks the caches alone. Only one that may ask its source fails by it. Want of memory is free.
abbrev pub FailsFor : LoadSpec → SourceView → SourceView → Cause → Type 0
FailsFor spec old new causes.Missing = WasFetched old new × HasText old.content spec.key None
FailsFor spec old new (causes.Refused refusal) =
    WasFetched old new × (text : List ℕ) × HasText old.content spec.key (Some text)
    × (picture_of text spec.key ≡ Err refusal)
FailsFor spec old new causes.Source = (spec.cached ≡ false) × WasFetched old new × FailedAt spec.key old new
FailsFor spec old new causes.Memory = ⊤
FailsFor spec old new causes.Uncached = spec.cached ≡ true

-- A job that has a picture, or has none by its source, asked its source once.
abbrev pub HasItsCause : LoadSpec → SourceView → SourceView → JobEnd → Type 0
HasItsCause spec old new (ends.Failed cause) = FailsFor spec old new cause
HasItsCause spec old new ends.Finished = WasFetched old new
HasItsCause spec old new ends.Discarded = WasFetched old new
HasItsCause spec old new ends.Quit = ⊤

-- ---- the last call

-- It ends by this call: with a picture, which is that of its key where the content is known, and which is
-- taken or, where the job was cancelled, is not; or since its caller was told that it is cancelled; or for
-- a cause.
abbrev pub IsLastCall : Caller → OwnJob → JobEnd → Caller → Type 0
IsLastCall old job ends.Finished new =
    (bitmap : BitmapValue) × IsCall old (events.Finish job.number bitmap) replies.Done new
    × IsPicture (content_of old) job.spec.key bitmap.picture
IsLastCall old job ends.Discarded new =
    (bitmap : BitmapValue) × IsCall old (events.Finish job.number bitmap) replies.Discarded new
IsLastCall old job ends.Quit new =
    (job.cancelled ≡ true) × IsCall old (events.Quit job.number) replies.Done new
IsLastCall old job (ends.Failed cause) new =
    IsCall old (events.Fail job.number cause) replies.Done new

-- A job runs to its end: some calls, and then the last one.
pub record RunsToEnd (old : Caller) (job : OwnJob) (end : JobEnd) (new : Caller) : Type 0 where
  pub between : Caller
  pub now : OwnJob
  pub calls : MakesCalls false old job.number between
  pub number : now.number ≡ job.number
  pub spec : now.spec ≡ job.spec
  pub runs : RunsJob between now
  pub last : IsLastCall between now end new
