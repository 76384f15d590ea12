-- The laws of callers. They are this project's own.
use Rattle.std.specs.Prelude.{◌≡◌, ◌↔◌, ℕ, ◌+◌, ◌≤◌, true, List, ◌∷◌, [], ◌++◌, Some, None, Ok, IfSome}
use Rattle.std.specs.FinMap.{get, len}
use Rattle.bitmap_kind.specs.declared.bitmaps.Config.{Config}
use Rattle.bitmap_kind.specs.Picture.{Picture}
use Rattle.cache_key.specs.declared.load_spec.LoadSpec.{LoadSpec}
use Rattle.state_machine.specs.declared.entry.Entry.{Entry}
use Rattle.state_machine.specs.Histories.{own}
use Rattle.engine_world.specs.declared.events.Event.{Event}
use Rattle.engine_world.specs.declared.events.Event.TheVariants as events
use Rattle.engine_world.specs.declared.events.NotedReply.{NotedReply}
use Rattle.engine_world.specs.declared.events.NotedReply.TheVariants as replies
use Rattle.engine_world.specs.declared.events.Note.{Note}
use Rattle.engine_world.specs.declared.events.Lent.{Lent}
use Rattle.engine_world.specs.declared.events.Shape.{Shape}
use Rattle.engine_world.specs.World.{World}
use Rattle.engine_world.specs.Steps.{Transition, shape_of, piece_from}
use Rattle.engine_world.specs.Knowledge.{OwnLoad, OwnJob}
use Rattle.engine_world.specs.Permits.{IsOwnReady, IsPicture, Permits}
use Rattle.engine_world.specs.Laws.{IsRelease, NoRelease}
use Rattle.engine_shared.specs.Tokens.{HoldValue}
use Rattle.engine_shared.specs.Caller.{Caller, knowledge_of, content_of, quota_of, picture_held, Leads, IsPast, IsLegal, entry_of, IsCall, RunsJob, HasLoad, HasReadyLoad}
use Rattle.engine_shared.specs.declared.answers.Next.TheVariants as nexts
use Rattle.engine_shared.specs.Answers.{IsLoaded, IsNext, IsFresh, IsOther, IsAsAsked}
use Rattle.engine_shared.specs.Kinds.{IsNoLoad, IsOfNoJob, EndsJob}
use Rattle.engine_shared.specs.Replied.{RepliesToLoad, RepliesToCollect, RepliesToLook, RepliesToRead, RepliesToTake}

-- ---- one picture

-- Each load that a caller was answered Ready for shows a picture: that of its key, where the content is
-- known.
abbrev pub ShowsItsPicture : Type 0
ShowsItsPicture =
    (c : Caller) → IsLegal c → (n : ℕ) (load : OwnLoad)
    → get (knowledge_of c).loads n ≡ Some load → load.ready ≡ true
    → (picture : Picture) × (picture_held c n ≡ Some picture) × IsPicture (content_of c) load.key picture

-- It is one picture at two moments, where the caller did not release the load between them.
abbrev pub ShowsOnePicture : Type 0
ShowsOnePicture =
    (old new : Caller) (later : List (Entry Note)) → IsLegal old → IsLegal new
    → new.who ≡ old.who → new.seen ≡ old.seen ++ later → Leads old.world later new.world
    → (n : ℕ) → IsOwnReady (knowledge_of old) n → NoRelease (old.who, n) later
    → picture_held new n ≡ picture_held old n

-- ---- calls

-- the caller after a call with these entries of others before it
abbrev pub caller_after : Caller → List (Entry Note) → Event → NotedReply → World → Caller
caller_after old others event reply world =
    record { who = old.who; seen = (old.seen ++ others) ++ entry_of old event reply ∷ []; world = world }

-- From a legal history, the steps of others and then one of the caller's that it is permitted are a call.
abbrev pub StepsAreCalls : Type 0
StepsAreCalls =
    (old : Caller) (event : Event) (reply : NotedReply) (others : List (Entry Note)) (before after : World)
    → IsLegal old → own old.who others ≡ [] → Leads old.world others before
    → IsPast before (old.seen ++ others) → Permits (content_of old) (knowledge_of old) event
    → Transition before old.who event reply after
    → IsCall old event reply (caller_after old others event reply after)

-- ---- which replies a call has

abbrev pub LoadsAreAnswered : Type 0
LoadsAreAnswered =
    (old new : Caller) (spec : LoadSpec) (reply : NotedReply) → IsCall old (events.Load spec) reply new
    → RepliesToLoad reply

-- A load that its caller has is ready, waits or has failed.
abbrev pub CollectsAreAnswered : Type 0
CollectsAreAnswered =
    (old new : Caller) (hold : HoldValue) (reply : NotedReply) → HasLoad old hold
    → IsCall old (events.Collect hold.number) reply new → RepliesToCollect reply

-- One that was answered Ready shows a picture, of which a look and a read tell.
abbrev pub LooksAreAnswered : Type 0
LooksAreAnswered =
    (old new : Caller) (hold : HoldValue) (reply : NotedReply) → HasReadyLoad old hold
    → IsCall old (events.Look hold.number) reply new → RepliesToLook reply

abbrev pub ReadsAreAnswered : Type 0
ReadsAreAnswered =
    (old new : Caller) (hold : HoldValue) (at : ℕ) (reply : NotedReply) → HasReadyLoad old hold
    → IsCall old (events.Read hold.number at) reply new → RepliesToRead reply

-- A take gives a bitmap, or memory is wanting.
abbrev pub TakesAreAnswered : Type 0
TakesAreAnswered =
    (old new : Caller) (j width height : ℕ) (config : Config) (reply : NotedReply)
    → IsCall old (events.Take j width height config) reply new → RepliesToTake reply

-- ---- what follows from the entry of a call

-- A load is refused exactly where its caller has as many as it may have.
abbrev pub FullExactly : Type 0
FullExactly =
    (old new : Caller) (spec : LoadSpec) (reply : NotedReply) → IsCall old (events.Load spec) reply new
    → (reply ≡ replies.Full) ↔ (len (knowledge_of old).loads ≡ quota_of old)

-- One that is not refused is its caller's.
abbrev pub LoadsAreOwn : Type 0
LoadsAreOwn =
    (old new : Caller) (spec : LoadSpec) (reply : NotedReply) (hold : HoldValue)
    → IsLoaded (Ok hold) reply → IsCall old (events.Load spec) reply new
    → hold.number ≡ (knowledge_of old).begun → hold.key ≡ spec.key → HasLoad new hold

-- A job that a caller was given is its own.
abbrev pub JobsAreOwn : Type 0
JobsAreOwn =
    (old new : Caller) (room : LoadSpec) (pass : OwnJob) (reply : NotedReply) → IsNext (nexts.Job pass) reply
    → IsFresh pass → IsCall old (events.NextJob room) reply new → RunsJob new pass

-- A bitmap that a job takes is another than those that it has.
abbrev pub TakesAnother : Type 0
TakesAnother =
    (old new : Caller) (job : OwnJob) (width height : ℕ) (config : Config) (lent : Lent) → RunsJob old job
    → IsCall old (events.Take job.number width height config) (replies.Taken lent) new
    → IsOther lent.number job.out

-- And it has the sides and the config that were asked for.
abbrev pub TakesAsAsked : Type 0
TakesAsAsked =
    (old new : Caller) (j width height : ℕ) (config : Config) (lent : Lent)
    → IsCall old (events.Take j width height config) (replies.Taken lent) new
    → IsAsAsked width height config lent

-- A load that is answered Ready shows a picture.
abbrev pub ReadyLoadsShow : Type 0
ReadyLoadsShow =
    (old new : Caller) (hold : HoldValue) → HasLoad old hold
    → IsCall old (events.Collect hold.number) replies.Ready new → HasReadyLoad new hold

-- What a look and a read answer is of the picture that the load shows.
abbrev pub LooksAtIt : Type 0
LooksAtIt =
    (old new : Caller) (hold : HoldValue) (shape : Shape) → HasReadyLoad old hold
    → IsCall old (events.Look hold.number) (replies.Shape shape) new
    → IfSome (picture_held old hold.number) (λ picture. shape ≡ shape_of picture)

abbrev pub ReadsIt : Type 0
ReadsIt =
    (old new : Caller) (hold : HoldValue) (at : ℕ) (piece : List ℕ) → HasReadyLoad old hold
    → IsCall old (events.Read hold.number at) (replies.Piece piece) new
    → IfSome (picture_held old hold.number) (λ picture. piece ≡ piece_from at picture)

-- A caller has a load until it releases it, and one that was answered Ready shows the same picture until
-- then, through each of its calls.
abbrev pub LoadsStay : Type 0
LoadsStay =
    (old new : Caller) (event : Event) (reply : NotedReply) (hold : HoldValue) → HasLoad old hold
    → IsCall old event reply new → (IsRelease (old.who, hold.number) old.who event → ⊥)
    → HasLoad new hold

abbrev pub ReadyLoadsStay : Type 0
ReadyLoadsStay =
    (old new : Caller) (event : Event) (reply : NotedReply) (hold : HoldValue) → HasReadyLoad old hold
    → IsCall old event reply new → (IsRelease (old.who, hold.number) old.who event → ⊥)
    → HasReadyLoad new hold × (picture_held new hold.number ≡ picture_held old hold.number)

-- ---- what a caller knows besides

-- A load counts at most one more, and no other call counts one.
abbrev pub LoadsAreCounted : Type 0
LoadsAreCounted =
    (old new : Caller) (spec : LoadSpec) (reply : NotedReply) → IsCall old (events.Load spec) reply new
    → (knowledge_of new).begun ≤ (knowledge_of old).begun + 1

abbrev pub OthersCountNone : Type 0
OthersCountNone =
    (old new : Caller) (event : Event) (reply : NotedReply) → IsNoLoad event → IsCall old event reply new
    → (knowledge_of new).begun ≡ (knowledge_of old).begun

-- A call that is of no job leaves the caller the job that it has, and one by which a job ends leaves it
-- none.
abbrev pub JobsStay : Type 0
JobsStay =
    (old new : Caller) (event : Event) (reply : NotedReply) → IsOfNoJob event → IsCall old event reply new
    → (knowledge_of new).job ≡ (knowledge_of old).job

abbrev pub JobsEnd : Type 0
JobsEnd =
    (old new : Caller) (event : Event) (reply : NotedReply) → EndsJob event → IsCall old event reply new
    → (knowledge_of new).job ≡ None
