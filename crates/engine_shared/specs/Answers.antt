-- What the calls answer, and the replies that the history keeps of it. It is this project's own.
use Rattle.std.specs.Prelude.{◌≡◌, ◌≢◌, ℕ, ◌+◌, ◌-◌, Bool, true, false, List, [], ◌∷◌, ◌++◌, length, replicate, Ok, Err, Result, ⊤}
use Rattle.faults.specs.declared.NoMemory.{NoMemory}
use Rattle.bitmap_kind.specs.declared.bitmaps.Config.{Config}
use Rattle.bitmap_kind.specs.Picture.{Picture, BitmapValue}
use Rattle.engine_world.specs.declared.events.NotedReply.{NotedReply}
use Rattle.engine_world.specs.declared.events.NotedReply.TheVariants as replies
use Rattle.engine_world.specs.declared.events.Lent.{Lent}
use Rattle.engine_world.specs.Moves.{without_lent}
use Rattle.engine_world.specs.Steps.{piece_from}
use Rattle.engine_world.specs.Knowledge.{OwnJob}
use Rattle.engine_core.specs.declared.replies.Piece.{Piece}
use Rattle.engine_core.specs.Noted.{lent_by}
use Rattle.engine_shared.specs.Caller.{Caller, RunsJob}
use Rattle.engine_shared.specs.declared.answers.Full.{Full}
use Rattle.engine_shared.specs.declared.answers.Outcome.{Outcome}
use Rattle.engine_shared.specs.declared.answers.Outcome.TheVariants as outcomes
use Rattle.engine_shared.specs.declared.answers.Next.{Next}
use Rattle.engine_shared.specs.declared.answers.Next.TheVariants as nexts

-- This holds of a reply that fits the answer.
abbrev pub OfReply : (NotedReply → Type 0) → (NotedReply → Type 0) → Type 0
OfReply Fits Holds = (reply : NotedReply) × Fits reply × Holds reply

-- ---- loads

-- A load that is not refused was ready, joined a job or started one.
abbrev pub IsLoaded : {A : Type 0} → Result A Full → NotedReply → Type 0
IsLoaded (Ok given) replies.Ready = ⊤
IsLoaded (Ok given) (replies.Joined j) = ⊤
IsLoaded (Ok given) (replies.Started j) = ⊤
IsLoaded (Err full) replies.Full = ⊤
IsLoaded answer reply = ⊥

-- what is kept of what a load has come to
abbrev pub collected : Outcome → NotedReply
collected outcomes.Ready = replies.Ready
collected (outcomes.NotYet j) = replies.NotYet j
collected (outcomes.Failed cause) = replies.Failed cause

-- ---- jobs

-- A job that was just taken.
pub record IsFresh (job : OwnJob) : Type 0 where
  pub takes : job.takes ≡ 0
  pub out : job.out ≡ []
  pub cancelled : job.cancelled ≡ false

abbrev pub IsNext : Next → NotedReply → Type 0
IsNext (nexts.Job pass) (replies.Job j spec) = (j ≡ pass.number) × (spec ≡ pass.spec)
IsNext (nexts.Idle room) replies.Idle = ⊤
IsNext (nexts.Closed room) replies.Closed = ⊤
IsNext answer reply = ⊥

-- The caller runs the job that it was given, which has taken nothing yet.
abbrev pub IsGiven : Caller → Next → Type 0
IsGiven c (nexts.Job pass) = RunsJob c pass × IsFresh pass
IsGiven c answer = ⊤

-- what is kept of whether a picture was taken
abbrev pub finished : Bool → NotedReply
finished true = replies.Done
finished false = replies.Discarded

-- ---- bitmaps of a job

abbrev pub taken : Result BitmapValue NoMemory → NotedReply
taken (Ok bitmap) = replies.Taken (lent_by bitmap)
taken (Err none) = replies.NoMemory

-- a job with a bitmap more
abbrev pub with_lent : BitmapValue → OwnJob → OwnJob
with_lent bitmap job = record job { takes = job.takes + 1; out = job.out ++ lent_by bitmap ∷ [] }

-- a job without the bitmap of this number
abbrev pub less_lent : ℕ → OwnJob → OwnJob
less_lent number job = record job { out = without_lent number job.out }

-- None of these bitmaps has this number.
abbrev pub IsOther : ℕ → List Lent → Type 0
IsOther number [] = ⊤
IsOther number (lent ∷ out) = (lent.number ≢ number) × IsOther number out

-- A bitmap was lent with these sides and this config.
pub record IsAsAsked (width height : ℕ) (config : Config) (lent : Lent) : Type 0 where
  pub width_is : lent.width ≡ width
  pub height_is : lent.height ≡ height
  pub config_is : lent.config ≡ config

-- a job of which was told whether it is cancelled
abbrev pub with_told : Bool → OwnJob → OwnJob
with_told true job = record job { cancelled = true }
with_told false job = job

-- ---- pieces

-- It has the stored bytes of a picture from a place on, and then zeros.
pub record IsPiece (at : ℕ) (picture : Picture) (piece : Piece) : Type 0 where
  pub count : piece.count ≡ length (piece_from at picture)
  pub bytes : piece.bytes ≡ piece_from at picture ++ replicate (4096 - piece.count) 0
