-- Which histories a machine can have.
use Rattle.std.specs.Prelude.{◌≡◌, ◌<◌, List, [], ◌∷◌, ◌++◌}
use Rattle.state_machine.specs.declared.entry.Entry.{Entry}
use Rattle.state_machine.specs.declared.machine.Machine.{Ghosts}
use Rattle.state_machine.specs.Histories.{own}

module _ {M Event Reply Note : Type 0} (machine : Ghosts M Event Reply Note) where
  -- these steps, in order, lead from one world to the other
  abbrev pub Leads : machine.World → List (Entry Note) → machine.World → Type 0
  Leads from [] to = from ≡ to
  Leads from (e ∷ es) to = (next : machine.World) × machine.steps from e next × Leads next es to

  -- after this history the entry's seat may make its step: it is served, and the event asks no more than it may
  pub record MayFollow (opening : machine.World) (history : List (Entry Note)) (e : Entry Note) : Type 0 where
    pub seat : e.by < machine.seats opening
    pub asked : machine.asked opening e.by (own e.by history) e.note

  -- the steps lead from the opening world to this one, and each might be made after those before it
  pub record IsLegal (opening : machine.World) (history : List (Entry Note)) (now : machine.World) : Type 0 where
    pub leads : Leads opening history now
    pub asked : (before after : List (Entry Note)) (e : Entry Note) → history ≡ before ++ e ∷ after → MayFollow opening before e
