-- What a seat writes down of a reply. It is this project's own.
use Rattle.std.specs.Prelude.{ℕ, ◌+◌, Bool, true, false, slice_set, Some, None}
use Rattle.std.specs.declared.option.Option.{Option}
use Rattle.bitmap_kind.specs.Picture.{BitmapValue}
use Rattle.engine_core.specs.declared.replies.Reply.{Reply}
use Rattle.engine_core.specs.declared.replies.Reply.TheVariants as replies
use Rattle.random_events.specs.declared.seats.Taken.{Taken}
use Rattle.random_events.specs.declared.seats.Taken.TheVariants.{Nothing, One, Two}
use Rattle.random_events.specs.declared.seats.RunningJob.{RunningJob}
use Rattle.random_events.specs.SeatValue.{SeatValue}
use Rattle.random_events.specs.Seats.{listed_more}

-- a load that was answered so
abbrev pub listed_by : Reply → SeatValue → SeatValue
listed_by replies.Full seat = seat
listed_by replies.Ready seat = listed_more true seat
listed_by reply seat = listed_more false seat

-- the load at a place of the list, which has this number, was collected and answered so
abbrev pub marked_by : (place number : ℕ) → Reply → SeatValue → SeatValue
marked_by place number replies.Ready seat =
    record seat { loads = slice_set seat.loads place (record { number = number; ready = true }) }
marked_by place number reply seat = seat

-- the job that a seat was answered
abbrev pub job_in : Reply → Option RunningJob
job_in (replies.Job j room) = Some (record { number = j; takes = 0; taken = Nothing; cancelled = false })
job_in reply = None

-- the bitmap that a job was answered
abbrev pub bitmap_in : Reply → Option BitmapValue
bitmap_in (replies.Taken bitmap) = Some bitmap
bitmap_in reply = None

-- whether a seat was answered that its job is cancelled
abbrev pub is_told_by : Reply → Bool
is_told_by (replies.Cancelled is) = is
is_told_by reply = false

-- There is no more than one bitmap.
abbrev pub IsBelowTwo : Taken → Type 0
IsBelowTwo Nothing = Unit {0}
IsBelowTwo (One bitmap) = Unit {0}
IsBelowTwo (Two first second) = ⊥

-- a bitmap more
abbrev pub with_bitmap : BitmapValue → Taken → Taken
with_bitmap bitmap Nothing = One bitmap
with_bitmap bitmap (One first) = Two first bitmap
with_bitmap bitmap (Two first second) = Two first second
