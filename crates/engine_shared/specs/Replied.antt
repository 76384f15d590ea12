-- Which replies an event can have, as far as the calls look at them. It is this project's own.
use Rattle.std.specs.Prelude.{⊤}
use Rattle.engine_world.specs.declared.events.NotedReply.{NotedReply}
use Rattle.engine_world.specs.declared.events.NotedReply.TheVariants as replies
use Rattle.engine_shared.specs.declared.answers.Next.{Next}
use Rattle.engine_shared.specs.declared.answers.Next.TheVariants as nexts
use Rattle.engine_shared.specs.Answers.{IsFresh}

abbrev pub RepliesToLoad : NotedReply → Type 0
RepliesToLoad replies.Full = ⊤
RepliesToLoad replies.Ready = ⊤
RepliesToLoad (replies.Joined j) = ⊤
RepliesToLoad (replies.Started j) = ⊤
RepliesToLoad reply = ⊥

abbrev pub RepliesToCollect : NotedReply → Type 0
RepliesToCollect replies.Ready = ⊤
RepliesToCollect (replies.NotYet j) = ⊤
RepliesToCollect (replies.Failed cause) = ⊤
RepliesToCollect reply = ⊥

abbrev pub RepliesToLook : NotedReply → Type 0
RepliesToLook (replies.Shape shape) = ⊤
RepliesToLook reply = ⊥

abbrev pub RepliesToRead : NotedReply → Type 0
RepliesToRead (replies.Piece piece) = ⊤
RepliesToRead reply = ⊥

abbrev pub RepliesToNextJob : NotedReply → Type 0
RepliesToNextJob (replies.Job j spec) = ⊤
RepliesToNextJob replies.Idle = ⊤
RepliesToNextJob replies.Closed = ⊤
RepliesToNextJob reply = ⊥

abbrev pub RepliesToTake : NotedReply → Type 0
RepliesToTake (replies.Taken lent) = ⊤
RepliesToTake replies.NoMemory = ⊤
RepliesToTake reply = ⊥

abbrev pub RepliesToFinish : NotedReply → Type 0
RepliesToFinish replies.Done = ⊤
RepliesToFinish replies.Discarded = ⊤
RepliesToFinish reply = ⊥

abbrev pub RepliesToIsCancelled : NotedReply → Type 0
RepliesToIsCancelled (replies.Cancelled is) = ⊤
RepliesToIsCancelled reply = ⊥

abbrev pub RepliesToTotals : NotedReply → Type 0
RepliesToTotals (replies.Totals sums) = ⊤
RepliesToTotals reply = ⊥

-- A job that there is to run has taken nothing yet.
abbrev pub IsFreshNext : Next → Type 0
IsFreshNext (nexts.Job pass) = IsFresh pass
IsFreshNext answer = ⊤
