-- What is after the told bytes of a piece. It is this project's own.
use Rattle.std.specs.Prelude.{◌≡◌, ◌-◌, ◌≤◌, ◌++◌, length, take, replicate, ⊤}
use Rattle.engine_world.specs.declared.events.Event.{Event}
use Rattle.engine_world.specs.declared.events.Event.TheVariants as events
use Rattle.engine_core.specs.declared.replies.Piece.{Piece}
use Rattle.engine_core.specs.declared.replies.Reply.{Reply}
use Rattle.engine_core.specs.declared.replies.Reply.TheVariants as replies

-- Of 4,096 bytes those after the count are zeros.
pub record IsPadded (piece : Piece) : Type 0 where
  pub size : length piece.bytes ≡ 4096
  pub count : piece.count ≤ 4096
  pub zeros : piece.bytes ≡ take piece.count piece.bytes ++ replicate (4096 - piece.count) 0

-- This holds of a reply that is a piece.
abbrev pub IsPaddedReply : Reply → Type 0
IsPaddedReply (replies.Piece piece) = IsPadded piece
IsPaddedReply reply = ⊤

-- And so of what a read is replied.
abbrev pub PadsPiece : Event → Reply → Type 0
PadsPiece (events.Read n at) reply = IsPaddedReply reply
PadsPiece event reply = ⊤
