-- What a seat knows from its own entries in a history: its request. That a caller keeps to what it was told
-- is this project's own.
use Rattle.std.specs.Prelude.{ℕ, true, List, [], ◌∷◌, Some, None, if◌then◌else◌, ◌==◌}
use Rattle.std.specs.declared.option.Option.{Option}
use Rattle.std.specs.Option.{option_map}
use Rattle.state_machine.specs.declared.entry.Entry.{Entry}
use Rattle.state_machine.specs.Histories.{own}
use Rattle.store_world.specs.declared.events.StoreEvent.{StoreEvent}
use Rattle.store_world.specs.declared.events.StoreEvent.TheVariants as events
use Rattle.store_world.specs.declared.events.StoreReply.{StoreReply}
use Rattle.store_world.specs.declared.events.StoreReply.TheVariants as replies
use Rattle.store_world.specs.declared.events.Note.{Note}
use Rattle.store_world.specs.World.{SeatEdit, Request}
use Rattle.store_world.specs.Steps.{new_request, granted, begun_with, with_edit, new_edit, more_written, closed_edit}

-- its request, where it wants a lock
abbrev pub Knowledge : Type 0
Knowledge = Option Request

abbrev pub no_knowledge : Knowledge
no_knowledge = None

-- ---- what an entry of its own adds

abbrev pub after_want : List ℕ → StoreReply → Knowledge → Knowledge
after_want key replies.Done known = Some (new_request key)
after_want key reply known = known

abbrev pub after_granted : StoreReply → Knowledge → Knowledge
after_granted (replies.Front true) known = option_map granted known
after_granted reply known = known

abbrev pub after_begin : StoreReply → Knowledge → Knowledge
after_begin replies.Done known = option_map (begun_with (Some new_edit)) known
after_begin reply known = option_map (begun_with None) known

abbrev pub after_write : List ℕ → StoreReply → SeatEdit → SeatEdit
after_write bytes replies.Done edit = more_written bytes edit
after_write bytes reply edit = closed_edit edit

-- what a seat knows after one entry more of its own
abbrev pub updated : StoreEvent → StoreReply → Knowledge → Knowledge
updated (events.Fetch key) reply known = known
updated (events.Want key length payload) reply known = after_want key reply known
updated events.Granted reply known = after_granted reply known
updated events.Begin reply known = after_begin reply known
updated (events.Write bytes) reply known =
    option_map (λ request. with_edit (option_map (after_write bytes reply) request.edit) request) known
updated events.Commit reply known = option_map (with_edit None) known
updated events.GiveUp reply known = option_map (with_edit None) known
updated events.Done reply known = None

-- what it knows after these entries of its own, in order
abbrev pub updated_by : Knowledge → List (Entry Note) → Knowledge
updated_by known [] = known
updated_by known (e ∷ es) = updated_by (updated e.note.event e.note.reply known) es

-- what it knows from all its own entries
abbrev pub learned : List (Entry Note) → Knowledge
learned own = updated_by no_knowledge own

-- what a seat knows in a history
abbrev pub knowledge_in : List (Entry Note) → ℕ → Knowledge
knowledge_in history who = learned (own who history)

-- what each seat knows after one entry more of one of them
unfoldable pub knowledge_with : (ℕ → Knowledge) → ℕ → StoreEvent → StoreReply → ℕ → Knowledge
knowledge_with known who event reply k = if who == k then updated event reply (known k) else known k
