-- Why a job has no picture, as far as each step of it knows.
use Rattle.std.specs.Prelude.{◌≡◌, true, Err, Ok, None, Result, ⊤}
use Rattle.std.specs.declared.option.Option.{Option}
use Rattle.outside.specs.Content.{Contents}
use Rattle.bitmap_kind.specs.Picture.{Picture}
use Rattle.cache_key.specs.Key.{Key}
use Rattle.cache_key.specs.declared.load_spec.LoadSpec.{LoadSpec}
use Rattle.image_format.specs.declared.refusal.Refusal.{Refusal}
use Rattle.image_format.specs.declared.decoding.DecodeFault.{DecodeFault}
use Rattle.image_format.specs.declared.decoding.DecodeFault.TheVariants as decode_faults
use Rattle.load_cause.specs.declared.causes.Cause.{Cause}
use Rattle.load_cause.specs.declared.causes.Cause.TheVariants as causes
use Rattle.engine_world.specs.Knowledge.{OwnJob}
use Rattle.engine_world.specs.Permits.{IsCause}
use Rattle.decode_job.specs.declared.ends.Stop.{Stop}
use Rattle.decode_job.specs.declared.ends.Stop.TheVariants as stops
use Rattle.decode_job.specs.declared.ends.JobEnd.{JobEnd}
use Rattle.decode_job.specs.declared.ends.JobEnd.TheVariants as ends
use Rattle.decode_job.specs.Sources.{SourceView, HasText, FailedAt}
use Rattle.decode_job.specs.Ends.{FailsFor}

-- Its caller was told that it is cancelled, or it fails for a cause that the content allows.
abbrev pub Stops : Option Contents → OwnJob → Stop → Type 0
Stops content job stops.Cancelled = job.cancelled ≡ true
Stops content job (stops.Failed cause) = IsCause content job.spec.key cause

-- A take stops so.
abbrev pub StopsTaking : OwnJob → Stop → Type 0
StopsTaking job stops.Cancelled = job.cancelled ≡ true
StopsTaking job (stops.Failed causes.Memory) = ⊤
StopsTaking job stop = ⊥

-- Decoding stops so, where this is the picture or the refusal.
abbrev pub StopsDecoding : Result Picture Refusal → OwnJob → Stop → Type 0
StopsDecoding picture job (stops.Failed (causes.Refused refusal)) = picture ≡ Err refusal
StopsDecoding picture job stops.Cancelled = job.cancelled ≡ true
StopsDecoding picture job (stops.Failed causes.Memory) = ⊤
StopsDecoding picture job stop = ⊥

-- why a job stops whose text can't be decoded
abbrev pub stop_by : DecodeFault → Stop
stop_by (decode_faults.Refused refusal) = stops.Failed (causes.Refused refusal)
stop_by decode_faults.Memory = stops.Failed causes.Memory

-- A fetch fails so.
abbrev pub FetchFailsFor : Key → SourceView → SourceView → Cause → Type 0
FetchFailsFor key old new causes.Missing = HasText old.content key None
FetchFailsFor key old new causes.Source = FailedAt key old new
FetchFailsFor key old new causes.Memory = ⊤
FetchFailsFor key old new cause = ⊥

-- The cause of a stop.
abbrev pub StopsFor : LoadSpec → SourceView → SourceView → Stop → Type 0
StopsFor spec old new stops.Cancelled = ⊤
StopsFor spec old new (stops.Failed cause) = FailsFor spec old new cause

-- A job ends as what was made for it says.
abbrev pub EndsAs : {A : Type 0} → Result A Stop → JobEnd → Type 0
EndsAs (Ok made) ends.Finished = ⊤
EndsAs (Ok made) ends.Discarded = ⊤
EndsAs (Err stops.Cancelled) ends.Quit = ⊤
EndsAs (Err (stops.Failed cause)) (ends.Failed why) = cause ≡ why
EndsAs made end = ⊥
