-- Worked histories, on which the definitions are computed. This project's own.
use Rattle.std.specs.Prelude.{List, [], ◌∷◌, ◌++◌}
use Rattle.bitmap_kind.specs.Picture.{BitmapValue}
use Rattle.bitmap_kind.specs.declared.bitmaps.Config.TheVariants.{Argb8888}
use Rattle.cache_key.specs.Room.{empty_spec}
use Rattle.cache_key.specs.declared.load_spec.LoadSpec.{LoadSpec}
use Rattle.load_cause.specs.declared.causes.Cause.TheVariants as causes
use Rattle.script_lines.specs.declared.commands.Command.TheVariants.{Dump}
use Rattle.state_machine.specs.declared.entry.Entry.{Entry}
use Rattle.engine_world.specs.declared.events.Event.{Event}
use Rattle.engine_world.specs.declared.events.Event.TheVariants as events
use Rattle.engine_world.specs.declared.events.NotedReply.{NotedReply}
use Rattle.engine_world.specs.declared.events.NotedReply.TheVariants as replies
use Rattle.engine_world.specs.declared.events.Note.{Note}
use Rattle.engine_world.specs.declared.events.Lent.{Lent}
use Rattle.engine_world.specs.Steps.{shape_of}
use Rattle.script_walk.specs.Walk.{TraceEvent, trace}
use Rattle.script_walk.specs.Marks.{no_marks, outcome_of}
use Rattle.script_walk.specs.Worked as script
use Rattle.script_walk.specs.Worked.{a, red_a, red_b, says, results, asked}
use Rattle.fetch_bounds.specs.Failures.{FailedJob}

-- a load of `red`
abbrev pub red_spec : LoadSpec
red_spec = script.spec (114 ∷ 101 ∷ 100 ∷ []) 2 1

-- an entry of seat 0, and one of seat 1
abbrev pub mine : Event → NotedReply → Entry Note
mine event reply = record { by = 0; note = record { event = event; reply = reply } }

abbrev pub theirs : Event → NotedReply → Entry Note
theirs event reply = record { by = 1; note = record { event = event; reply = reply } }

abbrev pub red_bitmap : BitmapValue
red_bitmap = record { number = 0; allocation = 8; picture = script.red; spare = [] }

abbrev pub red_lent : Lent
red_lent = record { number = 0; allocation = 8; width = 2; height = 1; config = Argb8888 }

-- ---- two views load `red`, and one is dumped

abbrev pub dump_events : List TraceEvent
dump_events = trace (outcome_of results no_marks) (asked (red_a ∷ red_b ∷ says (Dump a ∷ []))).commands

-- the second load joins the job of the first, which seat 1 runs
abbrev pub two_loads : List (Entry Note)
two_loads =
    mine (events.Load red_spec) (replies.Started 0) ∷ mine (events.Load red_spec) (replies.Joined 0)
    ∷ theirs (events.NextJob empty_spec) (replies.Job 0 red_spec) ∷ []

abbrev pub picture_made : List (Entry Note)
picture_made =
    theirs (events.Take 0 2 1 Argb8888) (replies.Taken red_lent)
    ∷ theirs (events.Finish 0 red_bitmap) replies.Done ∷ []

abbrev pub dump_history : List (Entry Note)
dump_history =
    two_loads ++ picture_made
    ++ mine (events.Collect 0) replies.Ready ∷ mine (events.Collect 1) replies.Ready
    ∷ mine (events.Look 0) (replies.Shape (shape_of script.red))
    ∷ mine (events.Read 0 0) (replies.Piece script.red.bytes)
    ∷ mine (events.Release 0) replies.Done ∷ mine (events.Release 1) replies.Done ∷ []

-- ---- the same loads, whose source fails

abbrev pub failed_history : List (Entry Note)
failed_history = two_loads ++ theirs (events.Fail 0 causes.Source) replies.Done ∷ []

abbrev pub red_failure : FailedJob
red_failure = record { spec = red_spec; cause = causes.Source }
