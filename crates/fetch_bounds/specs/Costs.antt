-- What a history shows of the jobs that may ask a source: how many were started and how many were run, and whose sources
-- failed. This project's own.
use Rattle.std.specs.Prelude.{ℕ, ◌+◌, Bool, true, false, not, ◌&&◌, List, [], ◌∷◌}
use Rattle.outside.specs.Content.{Address}
use Rattle.state_machine.specs.declared.entry.Entry.{Entry}
use Rattle.engine_world.specs.declared.events.Event.{Event}
use Rattle.engine_world.specs.declared.events.Event.TheVariants as events
use Rattle.engine_world.specs.declared.events.NotedReply.{NotedReply}
use Rattle.engine_world.specs.declared.events.NotedReply.TheVariants as replies
use Rattle.engine_world.specs.declared.events.Note.{Note}
use Rattle.script_walk.specs.Walk.{TraceEvent, Begun}
use Rattle.script_walk.specs.Starts.{one_if}
use Rattle.fetch_bounds.specs.Failures.{fails_in, source_addresses}

-- the begins of a trace that ask the caches alone
abbrev pub cached_begins : List TraceEvent → ℕ
cached_begins [] = 0
cached_begins (Begun begin others ∷ events) = one_if begin.spec.cached + cached_begins events
cached_begins (event ∷ events) = cached_begins events

-- ---- jobs that are started

abbrev pub is_started : NotedReply → Bool
is_started (replies.Started job) = true
is_started reply = false

-- 1 where the entry starts a job that may ask its source
abbrev pub source_start : Event → NotedReply → ℕ
source_start (events.Load spec) reply = one_if (not spec.cached && is_started reply)
source_start event reply = 0

-- how many jobs a history starts that may ask their source: all but those that ask the caches alone
abbrev pub source_starts : List (Entry Note) → ℕ
source_starts [] = 0
source_starts (e ∷ es) = source_start e.note.event e.note.reply + source_starts es

-- ---- jobs that are run

abbrev pub asks_source : NotedReply → ℕ
asks_source (replies.Job job spec) = one_if (not spec.cached)
asks_source reply = 0

-- 1 where the entry gives a seat a job to run that may ask its source
abbrev pub source_run : Event → NotedReply → ℕ
source_run (events.NextJob room) reply = asks_source reply
source_run event reply = 0

-- how many such jobs are run in a history; a run of a job asks its source once at most
abbrev pub source_runs : List (Entry Note) → ℕ
source_runs [] = 0
source_runs (e ∷ es) = source_run e.note.event e.note.reply + source_runs es

-- ---- jobs whose source failed

-- the addresses of all jobs that ended since their source failed
abbrev pub failed_jobs : List (Entry Note) → List Address
failed_jobs history = source_addresses (fails_in history)
