-- What a caller knows of its lock while it stores an entry. It is this project's own.
use Rattle.std.specs.Prelude.{ℕ, false, List, Some, None, Ok, Err, Result, ⊤}
use Rattle.store_world.specs.declared.events.StoreReply.TheVariants as replies
use Rattle.store_world.specs.World.{SeatEdit}
use Rattle.store_world.specs.Steps.{new_request, granted, begun_with}
use Rattle.store_world.specs.Knowledge.{Knowledge}
use Rattle.store_shared.specs.declared.answers.Stored.{Stored}
use Rattle.store_shared.specs.declared.answers.Stored.TheVariants as answers
use Rattle.store_shared.specs.Caller.{Caller, IsStep}
use Rattle.store_shared.specs.Answers.{wants}

-- it wants the lock
abbrev pub wanting : List ℕ → Knowledge
wanting key = Some (new_request key)

-- it was told that it has the lock
abbrev pub holding : List ℕ → Knowledge
holding key = Some (granted (new_request key))

-- and it has this edit
abbrev pub editing : SeatEdit → List ℕ → Knowledge
editing edit key = Some (begun_with (Some edit) (granted (new_request key)))

-- an edit to which these bytes were written, and none before them
abbrev pub edit_of : List ℕ → SeatEdit
edit_of bytes = record { written = bytes; closed = false }

-- it made its Begin, and has no edit, or none any more
abbrev pub leaving : List ℕ → Knowledge
leaving key = Some (begun_with None (granted (new_request key)))

-- The lock of an entry was wanted: it is wanted from then on, or refused.
abbrev pub IsWanted : List ℕ → List ℕ → Result ⊤ Stored → Caller → Caller → Type 0
IsWanted bytes payload (Ok nothing) old new = IsStep old (wants bytes payload replies.Done) new
IsWanted bytes payload (Err answers.Off) old new = IsStep old (wants bytes payload replies.Off) new
IsWanted bytes payload (Err answers.TooLarge) old new = IsStep old (wants bytes payload replies.TooLarge) new
IsWanted bytes payload answer old new = ⊥
