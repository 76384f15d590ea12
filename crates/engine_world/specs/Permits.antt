-- What an event asks of what its caller knows, and of the content. That a caller keeps to what it was
-- told is this project's own; Glide's callers hold objects in its place.
use Rattle.std.specs.Prelude.{◌≡◌, ℕ, ◌<◌, ◌⊎◌, true, List, [], ◌∷◌, Some, None, Ok, Err, ⊤}
use Rattle.std.specs.declared.option.Option.{Option}
use Rattle.std.specs.FinMap.{get}
use Rattle.outside.specs.Content.{Contents}
use Rattle.bitmap_kind.specs.Picture.{Picture, BitmapValue, IsSize}
use Rattle.cache_key.specs.Key.{Key}
use Rattle.load_cause.specs.declared.causes.Cause.{Cause}
use Rattle.load_cause.specs.declared.causes.Cause.TheVariants as causes
use Rattle.load_cause.specs.Ends.{end_in}
use Rattle.engine_world.specs.declared.events.Event.{Event}
use Rattle.engine_world.specs.declared.events.Event.TheVariants as events
use Rattle.engine_world.specs.declared.events.Lent.{Lent}
use Rattle.engine_world.specs.Knowledge.{OwnLoad, OwnJob, Knowledge}

-- how many loads a seat may make that are not Full
abbrev pub load_limit : ℕ
load_limit = 1099511627776

-- The load is the caller's, and it has not released it.
abbrev pub IsOwn : Knowledge → ℕ → Type 0
IsOwn known n = (load : OwnLoad) × (get known.loads n ≡ Some load)

-- And it was answered Ready for it.
abbrev pub IsOwnReady : Knowledge → ℕ → Type 0
IsOwnReady known n = (load : OwnLoad) × (get known.loads n ≡ Some load) × (load.ready ≡ true)

-- The job is the caller's.
pub record IsRunning (known : Knowledge) (j : ℕ) : Type 0 where
  pub job : OwnJob
  pub is : known.job ≡ Some job
  pub number : job.number ≡ j

-- A bitmap is one that was lent, whatever its picture is by now.
pub record IsLent (bitmap : BitmapValue) (lent : Lent) : Type 0 where
  pub number : bitmap.number ≡ lent.number
  pub allocation : bitmap.allocation ≡ lent.allocation

-- It is one of those that were lent.
abbrev pub IsAmongLent : BitmapValue → List Lent → Type 0
IsAmongLent bitmap [] = ⊥
IsAmongLent bitmap (lent ∷ out) = IsLent bitmap lent ⊎ IsAmongLent bitmap out

-- It is the only one that was lent, and has the sides and config that it was taken with.
pub record IsResult (bitmap : BitmapValue) (out : List Lent) : Type 0 where
  pub lent : Lent
  pub only : out ≡ lent ∷ []
  pub same : IsLent bitmap lent
  pub wide : bitmap.picture.width ≡ lent.width
  pub high : bitmap.picture.height ≡ lent.height
  pub config : bitmap.picture.config ≡ lent.config

-- Where the content is known, this is the picture of the key.
abbrev pub IsPicture : Option Contents → Key → Picture → Type 0
IsPicture None key found = ⊤
IsPicture (Some content) key found = end_in content key ≡ Ok found

-- Missing and Refused come only where the content says so; of the other causes it says nothing.
abbrev pub IsCauseOf : Contents → Key → Cause → Type 0
IsCauseOf content key causes.Missing = end_in content key ≡ Err causes.Missing
IsCauseOf content key (causes.Refused refusal) = end_in content key ≡ Err (causes.Refused refusal)
IsCauseOf content key cause = ⊤

-- This holds where the content is known.
abbrev pub IsCause : Option Contents → Key → Cause → Type 0
IsCause None key cause = ⊤
IsCause (Some content) key cause = IsCauseOf content key cause

-- With this content, what the caller knows permits the event.
abbrev pub Permits : Option Contents → Knowledge → Event → Type 0
Permits content known (events.Load spec) = known.begun < load_limit
Permits content known (events.Collect n) = IsOwn known n
Permits content known (events.Look n) = IsOwnReady known n
Permits content known (events.Read n at) = IsOwnReady known n
Permits content known (events.Release n) = IsOwn known n
Permits content known (events.NextJob room) = known.job ≡ None
Permits content known (events.Take j width height config) =
    (run : IsRunning known j) × (run.job.takes < 2) × IsSize width height
Permits content known (events.GiveBack j bitmap) =
    (run : IsRunning known j) × IsAmongLent bitmap run.job.out
Permits content known (events.Finish j bitmap) =
    (run : IsRunning known j) × IsResult bitmap run.job.out
    × IsPicture content run.job.spec.key bitmap.picture
Permits content known (events.Fail j cause) =
    (run : IsRunning known j) × (run.job.out ≡ []) × IsCause content run.job.spec.key cause
Permits content known (events.Quit j) =
    (run : IsRunning known j) × (run.job.out ≡ []) × (run.job.cancelled ≡ true)
Permits content known (events.IsCancelled j) = IsRunning known j
Permits content known event = ⊤
