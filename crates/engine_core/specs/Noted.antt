-- What a history keeps of a reply. It is this project's own.
use Rattle.std.specs.Prelude.{take}
use Rattle.bitmap_kind.specs.Picture.{BitmapValue}
use Rattle.engine_world.specs.declared.events.Lent.{Lent}
use Rattle.engine_world.specs.declared.events.NotedReply.{NotedReply}
use Rattle.engine_world.specs.declared.events.NotedReply.TheVariants as notes
use Rattle.engine_core.specs.declared.replies.Reply.{Reply}
use Rattle.engine_core.specs.declared.replies.Reply.TheVariants as replies

-- a bitmap as it is when it is taken
abbrev pub lent_by : BitmapValue → Lent
lent_by bitmap = record {
  number = bitmap.number;
  allocation = bitmap.allocation;
  width = bitmap.picture.width;
  height = bitmap.picture.height;
  config = bitmap.picture.config;
}

abbrev pub noted : Reply → NotedReply
noted replies.Full = notes.Full
noted replies.Ready = notes.Ready
noted (replies.Joined j) = notes.Joined j
noted (replies.Started j) = notes.Started j
noted (replies.NotYet j) = notes.NotYet j
noted (replies.Failed cause) = notes.Failed cause
noted (replies.Shape shape) = notes.Shape shape
noted (replies.Piece piece) = notes.Piece (take piece.count piece.bytes)
noted (replies.Closed room) = notes.Closed
noted (replies.Idle room) = notes.Idle
noted (replies.Job j room) = notes.Job j room
noted (replies.Taken bitmap) = notes.Taken (lent_by bitmap)
noted replies.NoMemory = notes.NoMemory
noted replies.Discarded = notes.Discarded
noted (replies.Cancelled is) = notes.Cancelled is
noted (replies.Totals totals) = notes.Totals totals
noted replies.Done = notes.Done
