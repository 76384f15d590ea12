-- When a history of the engine is that of a walk: seat 0 makes the entries that the walk's trace asks for, in order, and
-- between them stand only entries that neither load nor release nor trim. This project's own.
use Rattle.std.specs.Prelude.{◌≡◌, ℕ, ◌+◌, ◌⊎◌, List, [], ◌∷◌, ◌++◌, length, Some, None, Ok, Err, Result, if◌then◌else◌, ⊤}
use Rattle.std.specs.declared.option.Option.{Option}
use Rattle.std.specs.Str.{bytes_eq}
use Rattle.bitmap_kind.specs.Picture.{Picture}
use Rattle.load_cause.specs.declared.causes.Cause.{Cause}
use Rattle.printed_lines.specs.Printed.{PrintedLine, PixelsLine, ShownLine}
use Rattle.state_machine.specs.declared.entry.Entry.{Entry}
use Rattle.engine_world.specs.declared.events.Event.{Event}
use Rattle.engine_world.specs.declared.events.Event.TheVariants as events
use Rattle.engine_world.specs.declared.events.NotedReply.{NotedReply}
use Rattle.engine_world.specs.declared.events.NotedReply.TheVariants as replies
use Rattle.engine_world.specs.declared.events.Note.{Note}
use Rattle.engine_world.specs.Steps.{shape_of}
use Rattle.script_walk.specs.Walk.{Begin, TraceEvent, Dropped, Begun, Ended, Trimmed, Printed}

-- ---- entries

-- The event is none that a walk tells of for certain: jobs, and what asks how things stand.
abbrev pub IsWork : Event → Type 0
IsWork (events.Load spec) = ⊥
IsWork (events.Release n) = ⊥
IsWork (events.Trim level) = ⊥
IsWork event = ⊤

abbrev pub AllWork : List (Entry Note) → Type 0
AllWork [] = ⊤
AllWork (e ∷ es) = IsWork e.note.event × AllWork es

-- The load of this number is that of the begin: begins are numbered from 1, loads from 0.
abbrev pub IsLoadOf : Begin → ℕ → Type 0
IsLoadOf begin n = begin.number ≡ n + 1

-- what a load is answered that came to this
abbrev pub reply_of : Result Picture Cause → NotedReply
reply_of (Ok picture) = replies.Ready
reply_of (Err cause) = replies.Failed cause

-- Seat 0 releases the load of a begin, loads what a begin asks for, is told what the load of a begin came to, or trims.
abbrev pub IsReleaseOf : Begin → Entry Note → Type 0
IsReleaseOf begin e = (n : ℕ) × IsLoadOf begin n × (e.note.event ≡ events.Release n)

abbrev pub IsLoadBy : Begin → Entry Note → Type 0
IsLoadBy begin e = e.note.event ≡ events.Load begin.spec

abbrev pub IsEndOf : Begin → Result Picture Cause → Entry Note → Type 0
IsEndOf begin result e =
    (n : ℕ) × IsLoadOf begin n × (e.note.event ≡ events.Collect n) × (e.note.reply ≡ reply_of result)

abbrev pub IsTrimTo : ℕ → Entry Note → Type 0
IsTrimTo level e = e.note.event ≡ events.Trim level

-- Seat 0 is told the size and the config of a load's picture, or a piece of its stored bytes from a place on.
abbrev pub IsLookAt : ℕ → Picture → Entry Note → Type 0
IsLookAt n picture e =
    (e.note.event ≡ events.Look n) × (e.note.reply ≡ replies.Shape (shape_of picture))

abbrev pub IsPieceOf : ℕ → (at : ℕ) → (piece : List ℕ) → Entry Note → Type 0
IsPieceOf n at piece e = (e.note.event ≡ events.Read n at) × (e.note.reply ≡ replies.Piece piece)

-- ---- entries in order

-- what is said of the entries that are left
abbrev pub Rest : Type 1
Rest = List (Entry Note) → Type 0

-- After some work comes such an entry of seat 0, and this is said of those after it.
abbrev pub Next : (Entry Note → Type 0) → Rest → Rest
Next Is rest [] = ⊥
Next Is rest (e ∷ es) = (IsWork e.note.event × Next Is rest es) ⊎ ((e.by ≡ 0) × Is e × rest es)

-- ---- lines that show pictures

-- the pieces, one after another
abbrev pub joined : List (List ℕ) → List ℕ
joined [] = []
joined (piece ∷ pieces) = piece ++ joined pieces

-- Each piece of a load's picture is read where the one before it ends.
abbrev pub Reads : ℕ → (at : ℕ) → (pieces : List (List ℕ)) → Rest → Rest
Reads n at [] rest = rest
Reads n at (piece ∷ pieces) rest = Next (IsPieceOf n at piece) (Reads n (at + length piece) pieces rest)

-- Its stored bytes are read from the first on, in pieces.
abbrev pub ReadsWhole : ℕ → Picture → Rest → Rest
ReadsWhole n picture rest es =
    (pieces : List (List ℕ)) × (joined pieces ≡ picture.bytes) × Reads n 0 pieces rest es

-- The picture is that of the begin's load: its size was told, and its bytes were read.
abbrev pub Shows : Option Begin → Picture → Rest → Rest
Shows None picture rest es = ⊥
Shows (Some begin) picture rest es =
    (n : ℕ) × IsLoadOf begin n × Next (IsLookAt n picture) (ReadsWhole n picture rest) es

-- the last begin of a view, where the last of all stands first
abbrev pub last_of : List ℕ → List Begin → Option Begin
last_of view [] = None
last_of view (begin ∷ begun) = if bytes_eq begin.view view then Some begin else last_of view begun

-- A line that shows a picture shows that of its view's last begin; for another line nothing is asked.
abbrev pub Prints : List Begin → PrintedLine → Rest → Rest
Prints begun (ShownLine view picture) rest = Shows (last_of view begun) picture rest
Prints begun (PixelsLine view picture) rest = Shows (last_of view begun) picture rest
Prints begun line rest = rest

-- ---- a walk

-- The entries are those of the trace that is left. `begun` are the begins so far, the last one first.
abbrev pub Follows : (begun : List Begin) → List TraceEvent → Rest
Follows begun [] = AllWork
Follows begun (Dropped begin ∷ events) = Next (IsReleaseOf begin) (Follows begun events)
Follows begun (Begun begin others ∷ events) = Next (IsLoadBy begin) (Follows (begin ∷ begun) events)
Follows begun (Ended begin result ∷ events) = Next (IsEndOf begin result) (Follows begun events)
Follows begun (Trimmed level ∷ events) = Next (IsTrimTo level) (Follows begun events)
Follows begun (Printed line ∷ events) = Prints begun line (Follows begun events)
