-- A store that several callers share, each with a seat of its own. It is this project's own.
use Rattle.std.specs.Prelude.{◌≡◌, false, List, [], ◌∷◌, Some, ⊤}
use Rattle.turn_lock.specs.Turns.{TurnState, SeatState, IsSeatOf}
use Rattle.store_world.specs.declared.events.StoreEvent.TheVariants as events
use Rattle.store_world.specs.declared.events.StoreReply.TheVariants as replies
use Rattle.store_world.specs.declared.events.Note.{Note}
use Rattle.store_world.specs.Knowledge.{no_knowledge}
use Rattle.store_world.specs.Sound.{Sound}
use Rattle.store_world.specs.StoreMachine.{noted}
use Rattle.disk_store.specs.Kept.{StoreValue}
use Rattle.store_shared.specs.Caller.{Caller, AreSteps, knowledge_of}

-- the caller that has a seat of a turn
abbrev pub caller_at : TurnState StoreValue → SeatState StoreValue Note → Caller
caller_at turn seat = record { who = seat.number; turn = Some turn; opening = turn.start.opening; seen = seat.seen }

-- The seat is one of the turn, and what the turn's store began with is sound.
pub record IsSeated (turn : TurnState StoreValue) (seat : SeatState StoreValue Note) : Type 0 where
  pub of : IsSeatOf turn seat
  pub sound : Sound turn.start.opening (λ who. no_knowledge)

-- ---- waiting

-- Each of these is an answer that the caller has not got the lock yet.
abbrev pub AreRefusals : List Note → Type 0
AreRefusals [] = ⊤
AreRefusals (note ∷ notes) = (note ≡ noted events.Granted (replies.Front false)) × AreRefusals notes

-- A caller has been told some times that it has not got the lock that it wants.
pub record Waited (old new : Caller) : Type 0 where
  pub notes : List Note
  pub refused : AreRefusals notes
  pub steps : AreSteps old notes new
  pub same : knowledge_of new ≡ knowledge_of old
