-- The calls that a caller makes for the job that it runs. That a job asks whether it is cancelled before it goes on is
-- Glide's (DecodeJob); that it asks before each bitmap that it takes, and the histories, are this project's own.
use Rattle.std.specs.Prelude.{◌≡◌, ℕ, Bool, true, false, List, [], ◌∷◌, ◌++◌, ⊤}
use Rattle.state_machine.specs.declared.entry.Entry.{Entry}
use Rattle.state_machine.specs.Histories.{own}
use Rattle.engine_world.specs.declared.events.Event.{Event}
use Rattle.engine_world.specs.declared.events.Event.TheVariants as events
use Rattle.engine_world.specs.declared.events.NotedReply.{NotedReply}
use Rattle.engine_world.specs.declared.events.NotedReply.TheVariants as replies
use Rattle.engine_world.specs.declared.events.Note.{Note}
use Rattle.engine_world.specs.Knowledge.{OwnJob}
use Rattle.engine_world.specs.Permits.{IsOwnReady}
use Rattle.engine_shared.specs.Caller.{Caller, knowledge_of, content_of, picture_held, Leads, RunsJob}

-- An event by which this job goes on. A bitmap is taken only right after its caller was told that the job
-- is not cancelled.
abbrev pub IsOfJob : ℕ → (told : Bool) → Event → Type 0
IsOfJob j told (events.IsCancelled i) = i ≡ j
IsOfJob j told (events.Take i width height config) = (i ≡ j) × (told ≡ true)
IsOfJob j told (events.GiveBack i bitmap) = i ≡ j
IsOfJob j told event = ⊥

-- whether a caller is told by this that its job is not cancelled
abbrev pub tells_not_cancelled : Event → NotedReply → Bool
tells_not_cancelled (events.IsCancelled i) (replies.Cancelled false) = true
tells_not_cancelled event reply = false

-- Each of these entries is such an event, where its caller was told so before the first or was not.
abbrev pub AreOfJob : ℕ → (told : Bool) → List (Entry Note) → Type 0
AreOfJob j told [] = ⊤
AreOfJob j told (e ∷ es) =
    IsOfJob j told e.note.event × AreOfJob j (tells_not_cancelled e.note.event e.note.reply) es

-- A caller has made some calls, each for this job, and others have made some steps. Its loads are as they
-- were, and show what they showed.
pub record MakesCalls (told : Bool) (old : Caller) (j : ℕ) (new : Caller) : Type 0 where
  pub later : List (Entry Note)
  pub who : new.who ≡ old.who
  pub seen : new.seen ≡ old.seen ++ later
  pub led : Leads old.world later new.world
  pub mine : AreOfJob j told (own old.who later)
  pub content : content_of new ≡ content_of old
  pub begun : (knowledge_of new).begun ≡ (knowledge_of old).begun
  pub loads : (knowledge_of new).loads ≡ (knowledge_of old).loads
  pub pictures : (n : ℕ) → IsOwnReady (knowledge_of old) n → picture_held new n ≡ picture_held old n

-- It has made them for its job, which it runs still.
pub record StillRuns (old : Caller) (before : OwnJob) (new : Caller) (now : OwnJob) : Type 0 where
  pub calls : MakesCalls false old before.number new
  pub runs : RunsJob new now
  pub number : now.number ≡ before.number
  pub spec : now.spec ≡ before.spec
