-- What the top call promises. Statuses and texts are this project's own.
use Rattle.std.specs.Prelude.{◌≡◌, ◌≢◌, ℕ, ◌+◌, ◌-◌, ◌<◌, ◌≤◌, ◌⊎◌, true, List, [], ◌++◌, ◌∷◌, length, map, None, IfSome, IsSomeAnd, codes}
use Rattle.std.specs.declared.option.Option.{Option}
use Rattle.std.specs.List.{list_any}
use Rattle.std.specs.Io.KnownBytes.{Appends}
use Rattle.outside.specs.Causes.{Rose}
use Rattle.outside.specs.Content.{Address, Contents}
use Rattle.load_cause.specs.Ends.{end_in}
use Rattle.request_tracker.specs.Limits.{views_limit}
use Rattle.script_lines.specs.Script.{Numbered, Script, script_of}
use Rattle.printed_lines.specs.Printed.{lines_text, says_failed_source}
use Rattle.script_walk.specs.Walk.{Outcome, TraceEvent, trace}
use Rattle.script_walk.specs.Ends.{lines_in, bad_line, exit_status}
use Rattle.script_walk.specs.Marks.{Marks, no_marks, outcome_of, begins_in, IsLicensed}
use Rattle.script_walk.specs.Starts.{Walked, starts}
use Rattle.script_walk.specs.Laws.{EachEnd}
use Rattle.load_table.specs.Loads.{owned}
use Rattle.engine_world.specs.World.{Limits, opening}
use Rattle.engine_world.specs.Places.{times_out}
use Rattle.engine_world.specs.Balance.{Balance, totals}
use Rattle.engine_core.specs.CoreView.{CoreValue}
use Rattle.engine_shared.specs.Caller.{engine}
use Rattle.state_machine.specs.Legal as histories
use Rattle.fetch_bounds.specs.Follows.{IsEndOf}
use Rattle.fetch_bounds.specs.Answered.{orders_in, orders_of, HasEntry, IsAnswered, EachPicture}
use Rattle.fetch_bounds.specs.Costs.{cached_begins}
use Rattle.glide_run.specs.Built.{built}
use Rattle.glide_run.specs.Handed.{Handed, Meanings, IsWritten, IsFlushed, IsStill}
use Rattle.glide_run.specs.Stats.{ending_text}
use Rattle.glide_run.specs.declared.settings.Settings.{Settings}
use Rattle.glide_run.specs.declared.stats.Stats.{Stats}

-- The exit statuses: 0 and 1 for a script that was obeyed whole, 2 for refused words, 3 for a bad line, 4 for want of memory,
-- 5 for a failed read and 6 for a failed write. On 0 to 3 all that the run prints was written.

-- this status, or that of want of memory or of a failed write in its place
abbrev pub IsOrStops : ℕ → ℕ → Type 0
IsOrStops wanted status = (status ≡ wanted) ⊎ ((status ≡ 4) ⊎ (status ≡ 6))

-- the line for refused words
abbrev pub usage_text : List ℕ
usage_text = codes "glide: bad usage" ++ 10 ∷ []

-- what each begin comes to where nothing fails
abbrev pub answer : Contents → Outcome
answer content = outcome_of (end_in content) no_marks

-- ---- the engine

-- the limits of a run's engine: those of the words, and one seat that may have a load for each view
abbrev pub limits_of : Settings → Limits
limits_of settings = record { pool = settings.pool; memory = settings.memory; quotas = views_limit ∷ [] }

-- The engine that the run used, after its end. Its history is legal from the limits of the words and from this content, or from
-- none, and is that of these events of a walk: its loads and trims are the begins and trims, in order; each end was answered so;
-- the size and the bytes of each picture that a line shows were answered of its load. No load is left, and no bitmap is out.
pub record IsEngineOf (settings : Settings) (content : Option Contents) (events : List TraceEvent)
    (core : CoreValue) : Type 0 where
  pub legal : histories.IsLegal engine (opening (limits_of settings) content) core.history core.world
  pub orders : orders_of core.history ≡ map (λ order. (0, order)) (orders_in events)
  pub ends : EachEnd (λ begin result. HasEntry (IsEndOf begin result) core.history) events
  pub lines : EachPicture (IsAnswered (begins_in events) core.history) (lines_in events)
  pub no_load : (who : ℕ) → owned who core.world.loads ≡ 0
  pub no_bitmap : (bitmap : ℕ) → times_out core.world.jobs bitmap ≡ 0

-- ---- runs

-- What a run obeyed: these commands, on status 4 to 6 with the one at which it stopped, and what their begins came to. `left` were
-- not obeyed. After the lines of the views it printed this.
pub record Done : Type 0 where
  pub commands : List Numbered
  pub left : List Numbered
  pub outcome : Outcome
  pub ending : List ℕ

abbrev pub events_of : Done → List TraceEvent
events_of done = trace done.outcome done.commands

abbrev pub text_of : Done → List ℕ
text_of done = lines_text (lines_in (events_of done)) ++ done.ending

-- the walk as its fetches are counted, under this content and these marks
abbrev pub walked : Settings → Contents → Marks → Done → Walked
walked settings content marks done = record {
  results = end_in content;
  marks = marks;
  memory = settings.memory;
  events = events_of done;
}

module _ {I W S : Type 0} (m : Meanings I W S) where
  -- All commands were obeyed, and the text ends with the number of the bad line, if one is, or else with the totals where the
  -- words ask for them: the engine's, which add up, and how many fetches there were.
  pub record ReachesEnd (settings : Settings) (script : Script) (done : Done) (core : Option CoreValue)
      (old new : S) : Type 0 where
    pub none_left : done.left ≡ []
    pub stats : Stats
    pub ending_is : done.ending ≡ ending_text settings (bad_line script) stats
    pub balance : Balance stats.totals
    pub loads : stats.totals.loads ≡ length (begins_in (events_of done))
    pub none_decoding : stats.totals.decoding ≡ 0
    pub none_held : stats.totals.held ≡ 0
    pub fetches : stats.fetches ≡ m.source.fetched new - m.source.fetched old
    pub engine : IfSome core (λ c. stats.totals ≡ totals c.world)

  -- The run stopped before that.
  pub record StopsShort (done : Done) (status : ℕ) : Type 0 where
    pub status_is : 3 < status
    pub no_ending : done.ending ≡ []

  -- Under this content each begin came to what its key does, but for marks that the run's faults license. Where fetches failed
  -- the source's count of faults rose. There were no more fetches than the walk has starts, and no more jobs than these and the
  -- begins that ask the caches alone.
  pub record IsLicensedRun (settings : Settings) (content : Contents) (done : Done) (status : ℕ)
      (core : Option CoreValue) (old new : S) : Type 0 where
    pub marks : Marks
    pub outcome_is : done.outcome ≡ outcome_of (end_in content) marks
    pub failed : List Address
    pub failed_is : m.source.failed new ≡ m.source.failed old ++ failed
    pub caused : failed ≢ [] → Rose (m.source.faults old) (m.source.faults new)
    pub licensed : IsLicensed (record { failed = failed; status = status }) (begins_in (events_of done)) marks
    pub fetches : m.source.fetched new ≤ m.source.fetched old + starts (walked settings content marks done)
    pub started : IfSome core (λ c. c.world.counts.started
        ≤ starts (walked settings content marks done) + cached_begins (events_of done))

  -- The headline. What was written is what the walk of the obeyed commands prints, for what its begins came to, with the ending;
  -- and the status is that walk's; on 4 to 6 a prefix of it was written. There were no more fetches than begins, and a line blames
  -- the source only where its count of faults rose. The engine's history is that of the walk. Where the content is known, what the
  -- begins came to is the content's, under licensed marks.
  pub record IsRun (settings : Settings) (status : ℕ) (core : Option CoreValue)
      (old new : Handed I W S) : Type 0 where
    pub script : Script
    pub script_is : IfSome (m.input.left old.input) (λ text. script ≡ built (script_of text))
    pub done : Done
    pub parts : script.commands ≡ done.commands ++ done.left
    pub end : ReachesEnd settings script done core old.source new.source ⊎ StopsShort done status
    pub written : IsWritten m.sink old.out new.out (text_of done) (status ≤ 3)
    pub status_is : status ≤ 3 → status ≡ exit_status done.outcome script
    pub fetches : m.source.fetched new.source
        ≤ m.source.fetched old.source + length (begins_in (events_of done))
    pub blames : list_any says_failed_source (lines_in (events_of done)) ≡ true
        → Rose (m.source.faults old.source) (m.source.faults new.source)
    pub engine : status ≤ 3
        → IsSomeAnd core (IsEngineOf settings (m.source.content old.source) (events_of done))
    pub licensed : IfSome (m.source.content old.source)
        (λ content. IsLicensedRun settings content done status core old.source new.source)

  -- All that the walk with no marks prints was written, with an ending of the totals where the words ask for them, and the status is
  -- that walk's; or memory was wanting.
  pub record IsWhole (settings : Settings) (content : Contents) (script : Script) (status : ℕ)
      (old new : W) : Type 0 where
    pub stats : Stats
    pub written : Appends (m.sink.written old) (m.sink.written new)
        (lines_text (lines_in (trace (answer content) script.commands))
        ++ ending_text settings (bad_line script) stats)
    pub status_is : status ≡ exit_status (answer content) script

  abbrev pub IsAnswer : Settings → Contents → Script → ℕ → W → W → Type 0
  IsAnswer settings content script status old new =
      (status ≡ 4) ⊎ IsWhole settings content script status old new

  -- A run that no fault disturbs is the answer, where script and content are known.
  abbrev pub IsComplete : Settings → ℕ → Handed I W S → Handed I W S → Type 0
  IsComplete settings status old new = IsStill m old new
      → IfSome (m.input.left old.input) (λ text. IfSome (m.source.content old.source)
      (λ content. IsAnswer settings content (built (script_of text)) status old.out new.out))

  -- Words were refused: their line was written with status 2, or a prefix of it. Nothing was read, and nothing fetched, and no
  -- engine was made.
  pub record IsRefused (status : ℕ) (core : Option CoreValue) (old new : Handed I W S) : Type 0 where
    pub status_is : IsOrStops 2 status
    pub written : IsWritten m.sink old.out new.out usage_text (status ≤ 3)
    pub unread : new.input ≡ old.input
    pub unasked : new.source ≡ old.source
    pub no_engine : core ≡ None

  -- Each status has its cause, and on 0 to 3 all that was written is flushed.
  pub record IsStatus (asked : Option Settings) (status : ℕ) (old new : Handed I W S) : Type 0 where
    pub known : status ≤ 6
    pub usage : status ≡ 2 → asked ≡ None
    pub flushed : status ≤ 3 → IsFlushed m.sink new.out
    pub input_fault : status ≡ 5 → Rose (m.input.faults old.input) (m.input.faults new.input)
    pub write_fault : status ≡ 6 → Rose (m.sink.faults old.out) (m.sink.faults new.out)
