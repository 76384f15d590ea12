-- Which replies an event can have. It is this project's own.
use Rattle.std.specs.Prelude.{⊤}
use Rattle.store_world.specs.declared.events.StoreEvent.{StoreEvent}
use Rattle.store_world.specs.declared.events.StoreEvent.TheVariants as events
use Rattle.store_world.specs.declared.events.StoreReply.{StoreReply}
use Rattle.store_world.specs.declared.events.StoreReply.TheVariants as replies

-- the bytes of an entry or none, or a failure
abbrev pub RepliesToFetch : StoreReply → Type 0
RepliesToFetch (replies.Bytes found) = ⊤
RepliesToFetch (replies.Fault fault) = ⊤
RepliesToFetch reply = ⊥

abbrev pub RepliesToWant : StoreReply → Type 0
RepliesToWant replies.Off = ⊤
RepliesToWant replies.TooLarge = ⊤
RepliesToWant replies.Done = ⊤
RepliesToWant reply = ⊥

abbrev pub RepliesToGranted : StoreReply → Type 0
RepliesToGranted (replies.Front first) = ⊤
RepliesToGranted reply = ⊥

abbrev pub RepliesToBegin : StoreReply → Type 0
RepliesToBegin replies.Already = ⊤
RepliesToBegin replies.Done = ⊤
RepliesToBegin (replies.Fault fault) = ⊤
RepliesToBegin reply = ⊥

-- it is done, or it failed
abbrev pub IsDone : StoreReply → Type 0
IsDone replies.Done = ⊤
IsDone (replies.Fault fault) = ⊤
IsDone reply = ⊥

abbrev pub IsLeft : StoreReply → Type 0
IsLeft replies.Done = ⊤
IsLeft reply = ⊥

abbrev pub RepliesTo : StoreEvent → StoreReply → Type 0
RepliesTo (events.Fetch key) reply = RepliesToFetch reply
RepliesTo (events.Want key length payload) reply = RepliesToWant reply
RepliesTo events.Granted reply = RepliesToGranted reply
RepliesTo events.Begin reply = RepliesToBegin reply
RepliesTo (events.Write bytes) reply = IsDone reply
RepliesTo events.Commit reply = IsDone reply
RepliesTo events.GiveUp reply = IsDone reply
RepliesTo events.Done reply = IsLeft reply
