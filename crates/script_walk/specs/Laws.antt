-- The laws of the walk. They are this project's own.
use Rattle.std.specs.Prelude.{◌≡◌, ◌≢◌, ℕ, ◌+◌, ◌<◌, ◌≤◌, ◌⊎◌, Bool, true, false, List, [], ◌∷◌, ◌++◌, length, count_by, take, slice_get, ⊤, Some, None, Err, Result}
use Rattle.std.specs.declared.option.Option.{Option}
use Rattle.std.specs.List.{list_any}
use Rattle.std.specs.Option.{option_map}
use Rattle.outside.specs.Content.{Address}
use Rattle.bitmap_kind.specs.Picture.{Picture}
use Rattle.cache_key.specs.KeyBytes.{address_of}
use Rattle.load_cause.specs.declared.causes.Cause.{Cause}
use Rattle.load_cause.specs.declared.causes.Cause.TheVariants as causes
use Rattle.script_lines.specs.declared.commands.Command.{Command}
use Rattle.script_lines.specs.declared.commands.Command.TheVariants.{Load}
use Rattle.script_lines.specs.Script.{Numbered}
use Rattle.printed_lines.specs.Printed.{says_failed_source}
use Rattle.script_walk.specs.Walk.{Begin, WalkView, Outcome, Stage, TraceEvent, Dropped, Begun, Ended, Trimmed, Printed, running, opening, names_of, then_step, walk, trace}
use Rattle.script_walk.specs.Ends.{lines_in, bad_command_from, bad_command}
use Rattle.script_walk.specs.Marks.{Marks, Mark, KeyResults, no_marks, cause_of, outcome_of, begins_in, same_address, failed_fetches}
use Rattle.script_walk.specs.Orderly.{IsOrderly, In}

-- Each begin that came to its end came to this.
abbrev pub EachEnd : (Begin → Result Picture Cause → Type 0) → List TraceEvent → Type 0
EachEnd P [] = ⊤
EachEnd P (Ended begin result ∷ events) = P begin result × EachEnd P events
EachEnd P (Dropped begin ∷ events) = EachEnd P events
EachEnd P (Begun begin others ∷ events) = EachEnd P events
EachEnd P (Trimmed level ∷ events) = EachEnd P events
EachEnd P (Printed line ∷ events) = EachEnd P events

-- Without marks a walk is the answer: each begin comes to what its key does.
abbrev pub NoMarksNoFailures : Type 0
NoMarksNoFailures = (results : KeyResults) (commands : List Numbered)
    → trace (outcome_of results no_marks) commands ≡ trace (λ begin. results begin.spec.key) commands

-- Outcomes that agree on what came to its end make one walk.
abbrev pub EndsDecide : Type 0
EndsDecide = (p o : Outcome) (commands : List Numbered)
    → EachEnd (λ begin result. p begin ≡ result) (walk o opening commands).events
    → walk p opening commands ≡ walk o opening commands

abbrev pub TracesAreOrderly : Type 0
TracesAreOrderly = (outcome : Outcome) (commands : List Numbered) → IsOrderly 0 [] (trace outcome commands)

-- how many begins came to their ends
abbrev pub ends_in : List TraceEvent → ℕ
ends_in [] = 0
ends_in (Ended begin result ∷ events) = 1 + ends_in events
ends_in (event ∷ events) = ends_in events

-- No more come to their ends than begin: where an end costs a fetch, a begin costs one at most.
abbrev pub EndsAreBegun : Type 0
EndsAreBegun = (outcome : Outcome) (commands : List Numbered)
    → ends_in (walk outcome opening commands).events ≤ length (begins_in (walk outcome opening commands).events)

-- Where the first command that cannot be obeyed is that of line n, a walk is that of the commands before it, and each of
-- these can be.
pub record StopsAt (outcome : Outcome) (commands : List Numbered) (n : ℕ) : Type 0 where
  pub before : ℕ
  pub line_is : option_map (λ first. first.line) (slice_get commands before) ≡ Some n
  pub walk_is : walk outcome opening commands ≡ walk outcome opening (take before commands)
  pub none_bad : bad_command (take before commands) ≡ None

abbrev pub StopsAtBadCommand : Type 0
StopsAtBadCommand = (outcome : Outcome) (commands : List Numbered) (n : ℕ)
    → bad_command commands ≡ Some n → StopsAt outcome commands n

-- Where each of these commands can be obeyed, a walk goes on after them from where they leave it.
pub record GoesOn (outcome : Outcome) (done left : List Numbered) : Type 0 where
  pub walk_is :
      let so_far = walk outcome opening done in
      walk outcome opening (done ++ left) ≡ then_step so_far (walk outcome so_far.stage left)
  pub bad_is :
      bad_command (done ++ left) ≡ bad_command_from (names_of (walk outcome opening done).stage.views) left

abbrev pub WalksGoOn : Type 0
WalksGoOn = (outcome : Outcome) (done left : List Numbered) → bad_command done ≡ None → GoesOn outcome done left

-- ---- marks

-- A begin came to what its key does, or failed for a cause that a mark may stand for.
abbrev pub IsAllowed : KeyResults → Begin → Result Picture Cause → Type 0
IsAllowed results begin result =
    (result ≡ results begin.spec.key) ⊎ ((mark : Mark) × (result ≡ Err (cause_of mark)))

-- The begin of this number came to its end in these events, and failed for what this mark stands for.
abbrev pub IsFailedBy : Mark → ℕ → List TraceEvent → Type 0
IsFailedBy mark number [] = ⊥
IsFailedBy mark number (Ended begin result ∷ events) =
    ((begin.number ≡ number) × (result ≡ Err (cause_of mark))) ⊎ IsFailedBy mark number events
IsFailedBy mark number (Dropped begin ∷ events) = IsFailedBy mark number events
IsFailedBy mark number (Begun begin others ∷ events) = IsFailedBy mark number events
IsFailedBy mark number (Trimmed level ∷ events) = IsFailedBy mark number events
IsFailedBy mark number (Printed line ∷ events) = IsFailedBy mark number events

-- the fetches that failed, if each begin that failed by its source had one of its own
abbrev pub source_failures : List TraceEvent → List Address
source_failures [] = []
source_failures (Ended begin (Err causes.Source) ∷ events) =
    address_of begin.spec.key ∷ source_failures events
source_failures (event ∷ events) = source_failures events

-- These events are those of a walk under marks, each of which stands for such a failure of its own begin.
pub record IsMarkedWalk (results : KeyResults) (commands : List Numbered) (events : List TraceEvent) : Type 0 where
  pub marks : Marks
  pub walk_is : events ≡ trace (outcome_of results marks) commands
  pub owed : (number : ℕ) (mark : Mark) → marks number ≡ Some mark → IsFailedBy mark number events
  pub licensed : (address : Address)
      → failed_fetches marks (begins_in events) address
      ≤ count_by (λ a. same_address a address) (source_failures events)

abbrev pub RunsAreWalks : Type 0
RunsAreWalks = (results : KeyResults) (outcome : Outcome) (commands : List Numbered)
    → EachEnd (IsAllowed results) (trace outcome commands) → IsMarkedWalk results commands (trace outcome commands)

-- ---- ends at gathers

-- A begin that runs was made after the last gather.
abbrev pub IsCurrent : ℕ → Option Begin → Type 0
IsCurrent gathers None = ⊤
IsCurrent gathers (Some begin) = begin.gathers ≡ gathers

abbrev pub AreCurrent : ℕ → List WalkView → Type 0
AreCurrent gathers [] = ⊤
AreCurrent gathers (v ∷ vs) = IsCurrent gathers (running v) × AreCurrent gathers vs

-- A begin was made with so many gathers before it, and fewer than so many, and came to what the outcome says.
abbrev pub IsEndBetween : Outcome → (from to : ℕ) → Begin → Result Picture Cause → Type 0
IsEndBetween outcome from to begin result =
    (from ≤ begin.gathers) × (begin.gathers < to) × (outcome begin ≡ result)

-- Between a stage and the one that some commands lead to, just the begins came to their ends that were made between.
pub record EndsBetween (outcome : Outcome) (s : Stage) (commands : List Numbered) : Type 0 where
  pub current :
      let after = (walk outcome s commands).stage in AreCurrent after.gathers after.views
  pub later : s.gathers ≤ (walk outcome s commands).stage.gathers
  pub ends : EachEnd (IsEndBetween outcome s.gathers (walk outcome s commands).stage.gathers)
      (walk outcome s commands).events

-- Each begin that comes to its end does so at the first gather after it.
abbrev pub EndsAtNextGather : Type 0
EndsAtNextGather = (outcome : Outcome) (s : Stage) (commands : List Numbered)
    → AreCurrent s.gathers s.views → EndsBetween outcome s commands

-- A line that says failed source is printed only where a begin came to that end.
abbrev pub BlamesAreEnds : Type 0
BlamesAreEnds = (outcome : Outcome) (commands : List Numbered)
    → list_any says_failed_source (lines_in (trace outcome commands)) ≡ true
    → source_failures (trace outcome commands) ≢ []

-- ---- begins that ask the caches alone

-- whether a command is a load that says `cached`
abbrev pub says_cached : Command → Bool
says_cached (Load view spec sized) = spec.cached
says_cached command = false

-- Where no load says `cached`, no begin does.
abbrev pub NoneCached : Type 0
NoneCached = (outcome : Outcome) (commands : List Numbered)
    → list_any (λ first. says_cached first.command) commands ≡ false
    → (begin : Begin) → In begin (begins_in (trace outcome commands)) → begin.spec.cached ≡ false
