-- That a run marks itself: the begins whose loads failed in its history for what no content gives are marks with which its
-- walk is the content's, and which its own failures account for. This project's own.
use Rattle.std.specs.Prelude.{◌≡◌, List, Ok}
use Rattle.bitmap_kind.specs.Picture.{Picture}
use Rattle.load_cause.specs.Ends.{end_in}
use Rattle.state_machine.specs.declared.entry.Entry.{Entry}
use Rattle.engine_world.specs.declared.events.Event.{Event}
use Rattle.engine_world.specs.declared.events.Note.{Note}
use Rattle.engine_world.specs.World.{World}
use Rattle.script_walk.specs.Walk.{trace}
use Rattle.script_walk.specs.Marks.{Marks, outcome_of}
use Rattle.script_walk.specs.Laws.{EachEnd}
use Rattle.fetch_bounds.specs.Laws.{Run, events_of, IsRun, FailuresAreMarked, MarksAreFailures}

-- The pictures that begins came to are those that the content gives their keys.
abbrev pub PicturesAreRight : Run → Type 0
PicturesAreRight run = EachEnd
    (λ begin result. (picture : Picture) → result ≡ Ok picture
    → end_in run.content begin.spec.key ≡ Ok picture)
    (events_of run)

module _ {M Reply : Type 0} (world : M → World) (history : M → List (Entry Note))
    (note : Event → Reply → Note) where
  -- With these marks each failure is marked, each mark is a failure, and the walk is the content's under them.
  pub record IsMarkedBy (run : Run) (marks : Marks) : Type 0 where
    pub failures : FailuresAreMarked world history note (record run { marks = marks })
    pub failed : MarksAreFailures world history note (record run { marks = marks })
    pub walk_is : events_of run ≡ trace (outcome_of (end_in run.content) marks) run.commands

-- Each run whose pictures are right has such marks.
abbrev pub RunsMarkThemselves : (M Reply : Type 0) → Type 0
RunsMarkThemselves M Reply =
    (world : M → World) (history : M → List (Entry Note)) (note : Event → Reply → Note) (run : Run)
    → IsRun world history note run → PicturesAreRight run
    → (marks : Marks) × IsMarkedBy world history note run marks
