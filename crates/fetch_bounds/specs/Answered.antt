-- What a history that follows a trace has of it, without its order: which loads and trims it has, and that what came to an end
-- or was printed was answered so. This project's own.
use Rattle.std.specs.Prelude.{◌≡◌, ℕ, ◌+◌, ◌⊎◌, List, [], ◌∷◌, ◌++◌, length, map, ⊤}
use Rattle.bitmap_kind.specs.Picture.{Picture}
use Rattle.cache_key.specs.declared.load_spec.LoadSpec.{LoadSpec}
use Rattle.printed_lines.specs.Printed.{PrintedLine, PixelsLine, ShownLine}
use Rattle.state_machine.specs.declared.entry.Entry.{Entry}
use Rattle.engine_world.specs.declared.events.Event.{Event}
use Rattle.engine_world.specs.declared.events.Event.TheVariants as events
use Rattle.engine_world.specs.declared.events.Note.{Note}
use Rattle.script_walk.specs.Walk.{Begin, TraceEvent, Begun, Trimmed}
use Rattle.script_walk.specs.Ends.{lines_in}
use Rattle.script_walk.specs.Marks.{begins_in}
use Rattle.script_walk.specs.Laws.{EachEnd}
use Rattle.script_walk.specs.Orderly.{In}
use Rattle.fetch_bounds.specs.Follows.{IsLoadOf, IsEndOf, IsLookAt, IsPieceOf, joined, Follows}

-- ---- loads and trims

-- what the engine is asked for that changes what it loads or keeps
pub data Order : Type 0 where
  LoadOrder : (spec : LoadSpec) → Order
  TrimOrder : (level : ℕ) → Order

-- the begins and trims of a trace
abbrev pub orders_in : List TraceEvent → List Order
orders_in [] = []
orders_in (Begun begin others ∷ events) = LoadOrder begin.spec ∷ orders_in events
orders_in (Trimmed level ∷ events) = TrimOrder level ∷ orders_in events
orders_in (event ∷ events) = orders_in events

abbrev pub order_of : ℕ → Event → List (ℕ × Order)
order_of who (events.Load spec) = (who, LoadOrder spec) ∷ []
order_of who (events.Trim level) = (who, TrimOrder level) ∷ []
order_of who event = []

-- the loads and trims of a history, with the seats that made them
abbrev pub orders_of : List (Entry Note) → List (ℕ × Order)
orders_of [] = []
orders_of (e ∷ es) = order_of e.by e.note.event ++ orders_of es

-- They are seat 0's, and those of the trace in its order.
abbrev pub OrdersAreTheTraces : Type 0
OrdersAreTheTraces = (events : List TraceEvent) (history : List (Entry Note)) → Follows [] events history
    → orders_of history ≡ map (λ order. (0, order)) (orders_in events)

-- ---- what was answered

-- Some entry of seat 0 is such a one.
abbrev pub HasEntry : (Entry Note → Type 0) → List (Entry Note) → Type 0
HasEntry Is [] = ⊥
HasEntry Is (e ∷ es) = ((e.by ≡ 0) × Is e) ⊎ HasEntry Is es

-- Each begin that came to its end was answered so.
abbrev pub EndsAreAnswered : Type 0
EndsAreAnswered = (events : List TraceEvent) (history : List (Entry Note)) → Follows [] events history
    → EachEnd (λ begin result. HasEntry (IsEndOf begin result) history) events

-- Each piece was answered, of the place where the one before it ends.
abbrev pub PiecesAreAnswered : List (Entry Note) → ℕ → (at : ℕ) → List (List ℕ) → Type 0
PiecesAreAnswered history n at [] = ⊤
PiecesAreAnswered history n at (piece ∷ pieces) =
    HasEntry (IsPieceOf n at piece) history × PiecesAreAnswered history n (at + length piece) pieces

-- The picture's size and all its bytes were answered of the load of one of these begins, which is of this view.
pub record IsAnswered (begins : List Begin) (history : List (Entry Note)) (view : List ℕ)
    (picture : Picture) : Type 0 where
  pub begin : Begin
  pub begun : In begin begins
  pub of_view : begin.view ≡ view
  pub load : ℕ
  pub load_of : IsLoadOf begin load
  pub looked : HasEntry (IsLookAt load picture) history
  pub pieces : List (List ℕ)
  pub whole : joined pieces ≡ picture.bytes
  pub read : PiecesAreAnswered history load 0 pieces

-- This holds of each line that shows a picture.
abbrev pub EachPicture : (List ℕ → Picture → Type 0) → List PrintedLine → Type 0
EachPicture P [] = ⊤
EachPicture P (ShownLine view picture ∷ lines) = P view picture × EachPicture P lines
EachPicture P (PixelsLine view picture ∷ lines) = P view picture × EachPicture P lines
EachPicture P (line ∷ lines) = EachPicture P lines

-- Each picture that a line shows was answered so.
abbrev pub LinesAreAnswered : Type 0
LinesAreAnswered = (events : List TraceEvent) (history : List (Entry Note)) → Follows [] events history
    → EachPicture (IsAnswered (begins_in events) history) (lines_in events)
