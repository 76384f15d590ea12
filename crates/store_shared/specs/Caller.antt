-- The disk store as one of its callers sees it, and what a step of the caller does. It is this project's own.
use Rattle.std.specs.Prelude.{◌≡◌, ℕ, List, [], ◌∷◌, ◌++◌}
use Rattle.std.specs.declared.option.Option.{Option}
use Rattle.outside.specs.Content.{Contents}
use Rattle.state_machine.specs.declared.entry.Entry.{Entry}
use Rattle.state_machine.specs.declared.machine.Machine.{Ghosts}
use Rattle.state_machine.specs.Histories.{entry, own}
use Rattle.state_machine.specs.Legal as histories
use Rattle.turn_lock.specs.Turns.{TurnState}
use Rattle.store_world.specs.declared.events.StoreEvent.{StoreEvent}
use Rattle.store_world.specs.declared.events.StoreReply.{StoreReply}
use Rattle.store_world.specs.declared.events.Note.{Note}
use Rattle.store_world.specs.World.{World}
use Rattle.store_world.specs.Steps.{Transition}
use Rattle.store_world.specs.Knowledge.{Knowledge, knowledge_in, updated}
use Rattle.store_world.specs.Sound.{Sound}
use Rattle.store_world.specs.StoreMachine.{store_machine}
use Rattle.store_world.specs.Laws.{SameSettings}
use Rattle.disk_store.specs.Kept.{StoreValue}

-- A caller's seat, the turn that it takes where it shares the store, the world that the store began with, and
-- the history that the caller has seen, which ends with its last step.
pub record Caller : Type 0 where
  pub who : ℕ
  pub turn : Option (TurnState StoreValue)
  pub opening : World
  pub seen : List (Entry Note)

-- what it knows from its own entries: the lock that it wants
abbrev pub knowledge_of : Caller → Knowledge
knowledge_of c = knowledge_in c.seen c.who

-- the content that the store speaks for, if any
abbrev pub content_of : Caller → Option Contents
content_of c = c.opening.content

-- ---- histories

-- the store's steps
abbrev pub store : Ghosts StoreValue StoreEvent StoreReply Note
store = store_machine (λ s. s.opening) (λ s. s.world) (λ s. s.history)

-- A legal history leads from the opening to this world, which is sound for what the seats know by it.
pub record IsMoment (opening : World) (past : List (Entry Note)) (w : World) : Type 0 where
  pub legal : histories.IsLegal store opening past w
  pub sound : Sound w (knowledge_in past)
  pub settings : SameSettings opening w

-- ---- steps

-- A step was made: others made some steps, and then the caller made this one, from one moment to the next.
pub record IsStep (old : Caller) (note : Note) (new : Caller) : Type 0 where
  pub others : List (Entry Note)
  pub who : new.who ≡ old.who
  pub turn : new.turn ≡ old.turn
  pub opening : new.opening ≡ old.opening
  pub seen : new.seen ≡ (old.seen ++ others) ++ entry old.who note ∷ []
  pub none_own : own old.who others ≡ []
  pub before : World
  pub after : World
  pub from : IsMoment old.opening (old.seen ++ others) before
  pub step : Transition before old.who note.event note.reply after
  pub to : IsMoment new.opening new.seen after
  -- and what follows from these, for callers
  pub known : knowledge_in (old.seen ++ others) old.who ≡ knowledge_of old
  pub knowledge : knowledge_of new ≡ updated note.event note.reply (knowledge_of old)

-- The caller made just these steps, one after the other.
abbrev pub AreSteps : Caller → List Note → Caller → Type 0
AreSteps old [] new = new ≡ old
AreSteps old (note ∷ notes) new = (between : Caller) × IsStep old note between × AreSteps between notes new

-- It made steps of which this holds.
abbrev pub MadeSteps : (List Note → Type 0) → Caller → Caller → Type 0
MadeSteps Holds old new = (notes : List Note) × Holds notes × AreSteps old notes new
