-- The live jobs of the engine by their numbers, and what the calls of their table answer. That loads of one key share a
-- job, and that a job of higher priority starts first, is Glide's (its Jobs, EngineJob and Priority). Numbers, and that a
-- queued job that is cancelled goes at once, are this project's own.
use Rattle.std.specs.Prelude.{◌≡◌, ℕ, ◌<◌, ◌≤◌, ◌⊎◌, Bool, true, false, not, ◌&&◌, ◌==◌, Some, None, if◌then◌else◌}
use Rattle.std.specs.declared.option.Option.{Option}
use Rattle.std.specs.Option.{is_none}
use Rattle.std.specs.Ordering.{nat_cmp}
use Rattle.std.specs.FinMap.{FinMap, get, remove}
use Rattle.cache_key.specs.Key.{Key, same_key}
use Rattle.cache_key.specs.declared.load_spec.LoadSpec.{LoadSpec}
use Rattle.cache_key.specs.declared.load_spec.Priority.{Priority}
use Rattle.cache_key.specs.declared.load_spec.Priority.TheVariants.{Immediate, High, Normal, Low}
use Rattle.finite_maps.specs.Maps.{first_key, modify, passes}
use Rattle.job_table.specs.declared.jobs.Job.{Job}

-- a job for each of finitely many numbers
abbrev pub Jobs : Type 0
Jobs = FinMap nat_cmp Job

-- what contracts see of a table: how many jobs it has room for, how many were added, and those that are live
pub record JobTableValue : Type 0 where
  pub room : ℕ
  pub added : ℕ
  pub jobs : Jobs

-- ---- a job's changes

-- what is added
abbrev pub queued_job : LoadSpec → Job
queued_job spec = record { spec = spec; seat = None; cancelled = false }

abbrev pub run_on : ℕ → Job → Job
run_on seat job = record job { seat = Some seat }

abbrev pub marked : Job → Job
marked job = record job { cancelled = true }

-- ---- the job that a load may join

-- both may ask the source, or neither may
abbrev pub same_kind : Bool → Bool → Bool
same_kind true b = b
same_kind false b = not b

abbrev pub serves : Key → Bool → Job → Bool
serves key cached job =
    same_key job.spec.key key && same_kind job.spec.cached cached && not job.cancelled

abbrev pub job_for : Key → Bool → Jobs → Option ℕ
job_for key cached jobs = first_key (λ number job. serves key cached job) jobs

-- A live job of this key and kind has this number, and is not cancelled.
pub record IsJobFor (key : Key) (cached : Bool) (jobs : Jobs) (number : ℕ) : Type 0 where
  pub job : Job
  pub live : get jobs number ≡ Some job
  pub same_key : job.spec.key ≡ key
  pub same_kind : job.spec.cached ≡ cached
  pub wanted : job.cancelled ≡ false

-- ---- the job that starts next

abbrev pub is_queued : Job → Bool
is_queued job = is_none job.seat

-- whether the number's job is live and queued
abbrev pub queued_in : Jobs → ℕ → Bool
queued_in jobs number = passes (λ n job. is_queued job) number (get jobs number)

-- priorities in their order, the first one least
abbrev pub rank : Priority → ℕ
rank Immediate = 0
rank High = 1
rank Normal = 2
rank Low = 3

abbrev pub is_queued_at : Priority → Job → Bool
is_queued_at priority job = is_queued job && rank job.spec.priority == rank priority

-- the queued job of a priority with the least number
abbrev pub queued_at : Priority → Jobs → Option ℕ
queued_at priority jobs = first_key (λ number job. is_queued_at priority job) jobs

-- the first of two, if there is one
abbrev pub or_else : Option ℕ → Option ℕ → Option ℕ
or_else None second = second
or_else (Some number) second = Some number

-- the queued job of first priority, and of these the one of least number
abbrev pub next_queued : Jobs → Option ℕ
next_queued jobs =
    or_else (queued_at Immediate jobs) (or_else (queued_at High jobs)
    (or_else (queued_at Normal jobs) (queued_at Low jobs)))

-- One stands before another by its priority, and with the same priority by its number.
abbrev pub Precedes : Priority → ℕ → Priority → ℕ → Type 0
Precedes priority number other_priority other =
    (rank priority < rank other_priority) ⊎ ((rank priority ≡ rank other_priority) × (number ≤ other))

-- The job of this number is queued, and stands before each queued one.
pub record IsNext (jobs : Jobs) (number : ℕ) : Type 0 where
  pub job : Job
  pub live : get jobs number ≡ Some job
  pub queued : is_queued job ≡ true
  pub first : (other : ℕ) (rival : Job) → get jobs other ≡ Some rival → is_queued rival ≡ true
      → Precedes job.spec.priority number rival.spec.priority other

-- ---- a job on which no load waits any more

-- A queued job goes, and a running one is marked.
abbrev pub after_cancel : Jobs → ℕ → Jobs
after_cancel jobs number =
    if queued_in jobs number then remove jobs number else modify jobs number marked
