-- What an event asks of what its caller knows, and of the content. That a caller keeps to what it was told
-- is this project's own.
use Rattle.std.specs.Prelude.{◌≡◌, ◌+◌, ◌<◌, ◌^◌, true, false, length, Some, None, ⊤}
use Rattle.std.specs.declared.option.Option.{Option}
use Rattle.outside.specs.Content.{Contents}
use Rattle.store_world.specs.declared.events.StoreEvent.{StoreEvent}
use Rattle.store_world.specs.declared.events.StoreEvent.TheVariants as events
use Rattle.store_world.specs.Right.{IsRightIn}
use Rattle.store_world.specs.World.{SeatEdit, Request}
use Rattle.store_world.specs.Knowledge.{Knowledge}

-- it wants a lock
abbrev pub HasRequest : Knowledge → Type 0
HasRequest known = (request : Request) × (known ≡ Some request)

-- it was told that it has the lock, and has made no Begin
pub record MayBegin (known : Knowledge) : Type 0 where
  pub request : Request
  pub knows : known ≡ Some request
  pub granted : request.granted ≡ true
  pub first : request.begun ≡ false

-- it has an edit
pub record HasEdit (known : Knowledge) : Type 0 where
  pub request : Request
  pub edit : SeatEdit
  pub knows : known ≡ Some request
  pub has : request.edit ≡ Some edit

-- and no write to it failed
pub record HasOpenEdit (known : Knowledge) : Type 0 where
  pub holds : HasEdit known
  pub open_ : holds.edit.closed ≡ false

-- it wants a lock, and has no edit
pub record MayLeave (known : Knowledge) : Type 0 where
  pub request : Request
  pub knows : known ≡ Some request
  pub none : request.edit ≡ None

-- With this content, what the caller knows permits the event.
abbrev pub Permits : Option Contents → Knowledge → StoreEvent → Type 0
Permits content known (events.Fetch key) = ⊤
Permits content known (events.Want key length payload) = known ≡ None
Permits content known events.Granted = HasRequest known
Permits content known events.Begin = MayBegin known
Permits content known (events.Write bytes) =
    (may : HasOpenEdit known) × (length may.holds.edit.written + length bytes < 2 ^ 40)
Permits content known events.Commit =
    (may : HasOpenEdit known) × IsRightIn content (may.holds.request.key, may.holds.edit.written)
Permits content known events.GiveUp = HasEdit known
Permits content known events.Done = MayLeave known
