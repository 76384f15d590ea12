-- The jobs of a history that ended without a picture, and why. This project's own.
use Rattle.std.specs.Prelude.{◌≡◌, ℕ, ◌⊎◌, Bool, List, [], ◌∷◌, ◌++◌, Some, None}
use Rattle.std.specs.declared.option.Option.{Option}
use Rattle.outside.specs.Content.{Address}
use Rattle.cache_key.specs.Key.{Key}
use Rattle.cache_key.specs.KeyBytes.{address_of}
use Rattle.cache_key.specs.declared.load_spec.LoadSpec.{LoadSpec}
use Rattle.load_cause.specs.declared.causes.Cause.{Cause}
use Rattle.load_cause.specs.declared.causes.Cause.TheVariants as causes
use Rattle.state_machine.specs.declared.entry.Entry.{Entry}
use Rattle.engine_world.specs.declared.events.Event.{Event}
use Rattle.engine_world.specs.declared.events.Event.TheVariants as events
use Rattle.engine_world.specs.declared.events.Note.{Note}
use Rattle.engine_world.specs.Knowledge.{OwnJob, Knowledge, no_knowledge, knowledge_with}

-- A job that ended without a picture: what its starter asked for, and the cause.
pub record FailedJob : Type 0 where
  pub spec : LoadSpec
  pub cause : Cause

-- the job that a seat has, where this cause ends it
abbrev pub failed_job : Option OwnJob → Cause → List FailedJob
failed_job None cause = []
failed_job (Some job) cause = record { spec = job.spec; cause = cause } ∷ []

-- the job that an event of the seat ends so
abbrev pub fails_by : Knowledge → Event → List FailedJob
fails_by known (events.Fail j cause) = failed_job known.job cause
fails_by known event = []

-- all jobs that end so, in order, where each seat knows this to begin with
abbrev pub fails_from : (ℕ → Knowledge) → List (Entry Note) → List FailedJob
fails_from known [] = []
fails_from known (e ∷ es) =
    fails_by (known e.by) e.note.event
    ++ fails_from (knowledge_with known e.by e.note.event e.note.reply) es

abbrev pub fails_in : List (Entry Note) → List FailedJob
fails_in history = fails_from (λ who. no_knowledge) history

-- ---- what failed

-- The job was one of this key and kind, by whether it asked the caches alone, and this is its cause.
abbrev pub IsFailureOf : Key → (cached : Bool) → Cause → FailedJob → Type 0
IsFailureOf key cached cause job =
    (job.spec.key ≡ key) × (job.spec.cached ≡ cached) × (job.cause ≡ cause)

-- One of these jobs is such a one.
abbrev pub HasFailed : Key → (cached : Bool) → Cause → List FailedJob → Type 0
HasFailed key cached cause [] = ⊥
HasFailed key cached cause (job ∷ jobs) =
    IsFailureOf key cached cause job ⊎ HasFailed key cached cause jobs

-- ---- jobs whose source failed

abbrev pub address_if_source : Cause → Address → List Address
address_if_source causes.Source address = address ∷ []
address_if_source cause address = []

-- the addresses of those that failed by their source
abbrev pub source_addresses : List FailedJob → List Address
source_addresses [] = []
source_addresses (job ∷ jobs) =
    address_if_source job.cause (address_of job.spec.key) ++ source_addresses jobs
