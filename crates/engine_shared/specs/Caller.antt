-- The engine as one of its callers sees it, and what a call does. It is this project's own.
use Rattle.std.specs.Prelude.{◌≡◌, ℕ, ◌<◌, true, List, [], ◌∷◌, ◌++◌, length, slice_index_or, Some, None}
use Rattle.std.specs.declared.option.Option.{Option}
use Rattle.std.specs.Option.{option_map}
use Rattle.std.specs.FinMap.{get}
use Rattle.outside.specs.Content.{Contents}
use Rattle.bitmap_kind.specs.Picture.{Picture}
use Rattle.state_machine.specs.declared.entry.Entry.{Entry}
use Rattle.state_machine.specs.declared.machine.Machine.{Ghosts}
use Rattle.state_machine.specs.Histories.{entry, own}
use Rattle.state_machine.specs.Legal as histories
use Rattle.load_table.specs.declared.loads.LoadState.TheVariants.{Ready}
use Rattle.engine_world.specs.declared.events.Event.{Event}
use Rattle.engine_world.specs.declared.events.NotedReply.{NotedReply}
use Rattle.engine_world.specs.declared.events.Note.{Note}
use Rattle.engine_world.specs.World.{LoadState, Resource, World, opening}
use Rattle.engine_world.specs.Steps.{Transition}
use Rattle.engine_world.specs.Knowledge.{OwnLoad, OwnJob, Knowledge, knowledge_in, updated}
use Rattle.engine_world.specs.Permits.{IsOwnReady, IsPicture}
use Rattle.engine_world.specs.EngineMachine.{engine_machine}
use Rattle.engine_world.specs.Laws.{IsRelease}
use Rattle.engine_core.specs.declared.replies.Reply.{Reply}
use Rattle.engine_core.specs.CoreView.{CoreValue, note_of}
use Rattle.engine_shared.specs.Tokens.{HoldValue}

-- A caller's seat, the history that it has seen, which ends with its last call, and the world that this
-- leads to.
pub record Caller : Type 0 where
  pub who : ℕ
  pub seen : List (Entry Note)
  pub world : World

-- what it knows from its own entries
abbrev pub knowledge_of : Caller → Knowledge
knowledge_of c = knowledge_in c.seen c.who

-- what the sources have, where they tell it
abbrev pub content_of : Caller → Option Contents
content_of c = c.world.content

-- how many loads it may have at a time
abbrev pub quota_of : Caller → ℕ
quota_of c = slice_index_or c.world.limits.quotas c.who 0

-- ---- pictures

abbrev pub shown_by : World → Option LoadState → Option Picture
shown_by w (Some (Ready r)) = option_map (λ (resource : Resource). resource.picture) (get w.resources r)
shown_by w state = None

-- the picture that one of its loads is ready on
abbrev pub picture_held : Caller → ℕ → Option Picture
picture_held c n = shown_by c.world (get c.world.loads (c.who, n))

-- ---- histories

abbrev pub noted : Event → NotedReply → Note
noted event reply = record { event = event; reply = reply }

-- the engine's steps, as a core makes them
abbrev pub engine : Ghosts CoreValue Event Reply Note
engine = engine_machine (λ core. core.world) (λ core. core.history) note_of

-- these steps lead from one world to the other
abbrev pub Leads : World → List (Entry Note) → World → Type 0
Leads = histories.Leads engine

-- a legal history that leads from the opening of this world's limits and content to this world
abbrev pub IsPast : World → List (Entry Note) → Type 0
IsPast w past = histories.IsLegal engine (opening w.limits w.content) past w

-- What a caller has seen is a legal history that leads to its world, and the engine has its seat.
pub record IsLegal (c : Caller) : Type 0 where
  pub past : IsPast c.world c.seen
  pub seat : c.who < length c.world.limits.quotas

-- ---- a call

-- the entry of a caller's event
abbrev pub entry_of : Caller → Event → NotedReply → Entry Note
entry_of c event reply = entry c.who (noted event reply)

-- A call was made: others made some steps, and then the caller made this one.
pub record IsCall (old : Caller) (event : Event) (reply : NotedReply) (new : Caller) : Type 0 where
  pub others : List (Entry Note)
  pub before : World
  pub who : new.who ≡ old.who
  pub seen : new.seen ≡ (old.seen ++ others) ++ entry_of old event reply ∷ []
  pub none_own : own old.who others ≡ []
  pub led : Leads old.world others before
  pub past : IsPast before (old.seen ++ others)
  pub step : Transition before old.who event reply new.world
  pub legal : IsLegal new
  -- and what follows from these, for callers
  pub content : content_of new ≡ content_of old
  pub knowledge : knowledge_of new ≡ updated event reply (knowledge_of old)
  pub pictures : (n : ℕ) → IsOwnReady (knowledge_of old) n → (IsRelease (old.who, n) old.who event → ⊥)
      → picture_held new n ≡ picture_held old n

-- ---- what a caller has

-- It runs this job.
abbrev pub RunsJob : Caller → OwnJob → Type 0
RunsJob c job = (knowledge_of c).job ≡ Some job

-- It has this load, which was made for the key that the hold shows.
pub record HasLoad (c : Caller) (hold : HoldValue) : Type 0 where
  pub load : OwnLoad
  pub is : get (knowledge_of c).loads hold.number ≡ Some load
  pub key : load.key ≡ hold.key
  pub below : hold.number < (knowledge_of c).begun

-- It was answered Ready for this load, which so shows a picture: that of its key, where the content is
-- known.
pub record HasReadyLoad (c : Caller) (hold : HoldValue) : Type 0 where
  pub load : OwnLoad
  pub is : get (knowledge_of c).loads hold.number ≡ Some load
  pub key : load.key ≡ hold.key
  pub ready : load.ready ≡ true
  pub below : hold.number < (knowledge_of c).begun
  pub picture : Picture
  pub shows : picture_held c hold.number ≡ Some picture
  pub right : IsPicture (content_of c) hold.key picture
