-- The laws of loads that start no job, and of how many jobs a walk costs. They are this project's own.
use Rattle.std.specs.Prelude.{◌≡◌, ℕ, ◌+◌, ◌≤◌, true, List, [], ◌++◌, length, count_by, slice_index_or, Some, ⊤}
use Rattle.std.specs.declared.option.Option.{Option}
use Rattle.std.specs.Option.{is_some}
use Rattle.std.specs.FinMap.{get}
use Rattle.outside.specs.Content.{Address, Contents}
use Rattle.cache_key.specs.Key.{Key}
use Rattle.cache_key.specs.declared.load_spec.LoadSpec.{LoadSpec}
use Rattle.load_cause.specs.declared.causes.Cause.{Cause}
use Rattle.load_cause.specs.declared.causes.Cause.TheVariants as causes
use Rattle.load_cause.specs.Ends.{end_in}
use Rattle.request_tracker.specs.Limits.{views_limit}
use Rattle.script_lines.specs.Script.{Numbered}
use Rattle.state_machine.specs.declared.entry.Entry.{Entry}
use Rattle.state_machine.specs.Legal.{Leads, IsLegal}
use Rattle.load_table.specs.declared.loads.LoadState.TheVariants.{Failed}
use Rattle.load_table.specs.Loads.{owned}
use Rattle.engine_world.specs.declared.events.Event.{Event}
use Rattle.engine_world.specs.declared.events.NotedReply.{NotedReply}
use Rattle.engine_world.specs.declared.events.Note.{Note}
use Rattle.engine_world.specs.World.{Limits, World, opening}
use Rattle.engine_world.specs.Steps.{load, Transition}
use Rattle.engine_world.specs.Knowledge.{OwnLoad, Knowledge}
use Rattle.engine_world.specs.Permits.{Permits}
use Rattle.engine_world.specs.Sound.{Sound}
use Rattle.engine_world.specs.EngineMachine.{engine_machine}
use Rattle.script_walk.specs.Walk.{Outcome, TraceEvent, trace}
use Rattle.script_walk.specs.Marks.{Mark, Marks, Source, cause_of, begins_in, same_address, failed_fetches}
use Rattle.script_walk.specs.Starts.{Walked, starts}
use Rattle.fetch_bounds.specs.Findable.{AsksAll, LoadsAskAll, IsFindable}
use Rattle.fetch_bounds.specs.InMemory.{AllFit, LoadedAmong, LoadsAmong, TrimsNothing, IsInMemory}
use Rattle.fetch_bounds.specs.Follows.{Follows}
use Rattle.fetch_bounds.specs.Costs.{cached_begins, source_starts, source_runs, failed_jobs}

-- ---- loads that start no job

-- A load of this key, of which its seat knows, has not failed: it has its picture, or waits for it.
pub record IsLive (w : World) (known : ℕ → Knowledge) (key : Key) : Type 0 where
  pub seat : ℕ
  pub number : ℕ
  pub load : OwnLoad
  pub is : get (known seat).loads number ≡ Some load
  pub key_is : load.key ≡ key
  pub live : (cause : Cause) → get w.loads (seat, number) ≡ Some (Failed cause) → ⊥

-- A load of a key that another load has, or waits for, starts no job.
abbrev pub SharedLoadsStartNoJob : Type 0
SharedLoadsStartNoJob = (w : World) (known : ℕ → Knowledge) (seat : ℕ) (spec : LoadSpec)
    → Sound w known → IsFindable spec.key w → AsksAll spec.key spec → IsLive w known spec.key
    → (load w seat spec).1.counts.started ≡ w.counts.started

-- An engine begins with nothing, so each key is findable, and is so after each event where loads ask for it all.
abbrev pub OpensFindable : Type 0
OpensFindable =
    (key : Key) (limits : Limits) (content : Option Contents) → IsFindable key (opening limits content)

abbrev pub KeepsFindable : Event → Type 0
KeepsFindable event = (key : Key) (w z : World) (known : ℕ → Knowledge) (who : ℕ) (reply : NotedReply)
    → Sound w known → Permits w.content (known who) event → LoadsAskAll key event
    → Transition w who event reply z → IsFindable key w → IsFindable key z

-- ---- pictures that stay in memory

-- All that is loaded is of these keys, the content is known, and the pictures of all keys fit into the memory cache.
pub record AllRemembered (keys : List Key) (w : World) : Type 0 where
  pub content : Contents
  pub told : w.content ≡ Some content
  pub among : LoadedAmong keys w
  pub fit : AllFit (end_in content) w.limits.memory keys

abbrev pub KeepsAllRemembered : Event → Type 0
KeepsAllRemembered event = (keys : List Key) (w z : World) (who : ℕ) (reply : NotedReply)
    → LoadsAmong keys event → Transition w who event reply z → AllRemembered keys w → AllRemembered keys z

-- Where that is so, a picture that is in memory stays there through each event but a trim.
abbrev pub KeepsPictures : Event → Type 0
KeepsPictures event =
    (key : Key) (keys : List Key) (w z : World) (known : ℕ → Knowledge) (who : ℕ) (reply : NotedReply)
    → Sound w known → Permits w.content (known who) event → TrimsNothing event
    → Transition w who event reply z → AllRemembered keys w → IsFindable key w
    → IsInMemory key w → IsInMemory key z

-- ---- runs

-- An engine with these limits, which knows the content, had this history, which led to this world, while seat 0 walked through
-- these commands. Its begins came to what the outcome says, and these are marked.
pub record Run : Type 0 where
  pub limits : Limits
  pub content : Contents
  pub commands : List Numbered
  pub outcome : Outcome
  pub marks : Marks
  pub history : List (Entry Note)
  pub world : World

abbrev pub start_of : Run → World
start_of run = opening run.limits (Some run.content)

abbrev pub events_of : Run → List TraceEvent
events_of run = trace run.outcome run.commands

-- the walk as it is counted
abbrev pub walked : Run → Walked
walked run =
    record {
      results = end_in run.content;
      marks = run.marks;
      memory = run.limits.memory;
      events = events_of run;
    }

-- A cause that no content gives.
abbrev pub IsFree : Cause → Type 0
IsFree causes.Missing = ⊥
IsFree (causes.Refused refusal) = ⊥
IsFree cause = ⊤

-- The jobs that a run started are at most the starts of its walk, and the begins that ask the caches alone. Those that may
-- ask their source are at most the starts, and so are those of them that were run. Each begin is one load, and no load is left.
pub record IsBounded (run : Run) : Type 0 where
  pub started :
      run.world.counts.started ≤ starts (walked run) + cached_begins (events_of run)
  pub source_starts : source_starts run.history ≤ starts (walked run)
  pub source_runs : source_runs run.history ≤ starts (walked run)
  pub loads : run.world.counts.loads ≡ length (begins_in (events_of run))
  pub ended : (who : ℕ) → owned who run.world.loads ≡ 0

-- for each kind of engine, by how it shows its world and its history, and what it notes of a reply
module _ {M Reply : Type 0} (world : M → World) (history : M → List (Entry Note))
    (note : Event → Reply → Note) where
  -- The history is legal, and follows the walk; and seat 0 may have a load for each view.
  pub record IsRun (run : Run) : Type 0 where
    pub legal : IsLegal (engine_machine world history note) (start_of run) run.history run.world
    pub follows : Follows [] (events_of run) run.history
    pub room : views_limit ≤ slice_index_or run.limits.quotas 0 0

  -- The run comes through this world.
  pub record ComesThrough (run : Run) (w : World) : Type 0 where
    pub before : List (Entry Note)
    pub after : List (Entry Note)
    pub parts : run.history ≡ before ++ after
    pub leads : Leads (engine_machine world history note) (start_of run) before w

  -- Wherever a load of seat 0 has failed for what no content gives, its begin is marked.
  abbrev pub FailuresAreMarked : Run → Type 0
  FailuresAreMarked run = (w : World) (n : ℕ) (cause : Cause) → ComesThrough run w
      → get w.loads (0, n) ≡ Some (Failed cause) → IsFree cause → is_some (run.marks (n + 1)) ≡ true

  -- A begin is marked as failed by its source only where its load has failed so.
  abbrev pub SourceMarksAreFailures : Run → Type 0
  SourceMarksAreFailures run = (n : ℕ) → run.marks (n + 1) ≡ Some Source
      → (w : World) × ComesThrough run w × (get w.loads (0, n) ≡ Some (Failed causes.Source))

  -- The same for each mark: a begin is marked only where its load has failed for the cause of the mark.
  abbrev pub MarksAreFailures : Run → Type 0
  MarksAreFailures run = (n : ℕ) (mark : Mark) → run.marks (n + 1) ≡ Some mark
      → (w : World) × ComesThrough run w × (get w.loads (0, n) ≡ Some (Failed (cause_of mark)))

-- ---- what a run costs

abbrev pub RunsAreBounded : (M Reply : Type 0) → Type 0
RunsAreBounded M Reply =
    (world : M → World) (history : M → List (Entry Note)) (note : Event → Reply → Note) (run : Run)
    → IsRun world history note run → FailuresAreMarked world history note run → IsBounded run

-- Of each url and signature, the marks need no more failed fetches than jobs failed by their source: one failed job fails
-- begins of one key between two gathers.
abbrev pub FailedJobsSuffice : (M Reply : Type 0) → Type 0
FailedJobsSuffice M Reply =
    (world : M → World) (history : M → List (Entry Note)) (note : Event → Reply → Note) (run : Run)
    → IsRun world history note run → SourceMarksAreFailures world history note run
    → (address : Address)
    → failed_fetches run.marks (begins_in (events_of run)) address
    ≤ count_by (λ a. same_address a address) (failed_jobs run.history)
