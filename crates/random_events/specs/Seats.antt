-- When a seat's record is what the seat knows from its own entries. It is this project's own.
use Rattle.std.specs.Prelude.{◌≡◌, ℕ, ◌+◌, ◌<◌, ◌≤◌, Bool, true, List, [], ◌∷◌, ◌++◌, length, All, Some, None}
use Rattle.std.specs.declared.option.Option.{Option}
use Rattle.std.specs.FinMap.{get}
use Rattle.bitmap_kind.specs.Picture.{BitmapValue}
use Rattle.engine_world.specs.declared.events.Lent.{Lent}
use Rattle.engine_world.specs.Knowledge.{OwnLoad, OwnJob, Knowledge, knowledge_in}
use Rattle.engine_world.specs.Permits.{IsLent}
use Rattle.engine_core.specs.CoreView.{CoreValue}
use Rattle.random_events.specs.declared.seats.ListedLoad.{ListedLoad}
use Rattle.random_events.specs.declared.seats.Taken.{Taken}
use Rattle.random_events.specs.declared.seats.Taken.TheVariants.{Nothing, One, Two}
use Rattle.random_events.specs.declared.seats.RunningJob.{RunningJob}
use Rattle.random_events.specs.SeatValue.{SeatValue}

-- nothing is written down yet
abbrev pub no_record : SeatValue
no_record = record { begun = 0; loads = []; job = None }

-- a load more
abbrev pub listed_more : Bool → SeatValue → SeatValue
listed_more ready seat = record seat {
  begun = seat.begun + 1;
  loads = seat.loads ++ record { number = seat.begun; ready = ready } ∷ [];
}

-- The seat made this load, has not released it, and was answered Ready for it where that is written down.
pub record IsListed (known : Knowledge) (load : ListedLoad) : Type 0 where
  pub own : OwnLoad
  pub is : get known.loads load.number ≡ Some own
  pub ready : load.ready ≡ true → own.ready ≡ true
  pub below : load.number < known.begun

-- A bitmap is as it was lent, whatever its bytes are by now.
pub record IsAsLent (bitmap : BitmapValue) (lent : Lent) : Type 0 where
  pub same : IsLent bitmap lent
  pub wide : bitmap.picture.width ≡ lent.width
  pub high : bitmap.picture.height ≡ lent.height
  pub config : bitmap.picture.config ≡ lent.config

-- These are the bitmaps that were lent.
abbrev pub AreLent : Taken → List Lent → Type 0
AreLent Nothing out = out ≡ []
AreLent (One bitmap) out = (lent : Lent) × (out ≡ lent ∷ []) × IsAsLent bitmap lent
AreLent (Two first second) out =
    (a : Lent) × (b : Lent) × (out ≡ a ∷ b ∷ []) × IsAsLent first a × IsAsLent second b

-- What is written down of a job is what the seat knows of it.
pub record IsWritten (job : RunningJob) (own : OwnJob) : Type 0 where
  pub number : own.number ≡ job.number
  pub takes : own.takes ≡ job.takes
  pub few : length own.out ≤ own.takes
  pub out : AreLent job.taken own.out
  pub told : job.cancelled ≡ true → own.cancelled ≡ true

abbrev pub JobIs : Option RunningJob → Option OwnJob → Type 0
JobIs None known = known ≡ None
JobIs (Some job) known = (own : OwnJob) × (known ≡ Some own) × IsWritten job own

-- What is written down is what the seat knows, as far as it is written down.
pub record IsRecord (seat : SeatValue) (known : Knowledge) : Type 0 where
  pub begun : known.begun ≡ seat.begun
  pub loads : All (IsListed known) seat.loads
  pub job : JobIs seat.job known.job

-- The core serves this seat, no content is known, and this is the seat's record.
pub record IsSeatOf (core : CoreValue) (who : ℕ) (seat : SeatValue) : Type 0 where
  pub served : who < length core.world.limits.quotas
  pub untold : core.world.content ≡ None
  pub is : IsRecord seat (knowledge_in core.history who)

-- The core serves whom it served, and other seats know what they knew.
pub record IsActOf (who : ℕ) (old new : CoreValue) : Type 0 where
  pub quotas : length new.world.limits.quotas ≡ length old.world.limits.quotas
  pub content : new.world.content ≡ old.world.content
  pub others : (k : ℕ) → (who ≡ k → ⊥) → knowledge_in new.history k ≡ knowledge_in old.history k
