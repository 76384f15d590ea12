-- What holds of all histories of a machine.
use Rattle.std.specs.Prelude.{◌≡◌, ◌⊎◌, ℕ, List, [], ◌∷◌, ◌++◌}
use Rattle.state_machine.specs.declared.entry.Entry.{Entry}
use Rattle.state_machine.specs.declared.machine.Machine.{Ghosts}
use Rattle.state_machine.specs.Histories.{own}
use Rattle.state_machine.specs.Legal.{Leads, MayFollow, IsLegal}

-- a seat's own entries of two histories, one after the other, are those of the first and then those of the second
abbrev pub OwnEntriesAppend : Type 0 → Type 0
OwnEntriesAppend Note =
    (who : ℕ) (first second : List (Entry Note))
    → own who (first ++ second) ≡ own who first ++ own who second

module _ {M Event Reply Note : Type 0} (machine : Ghosts M Event Reply Note) where
  -- steps, one after the other, lead through a world between them
  abbrev pub StepsPart : Type 0
  StepsPart =
      (from to : machine.World) (first second : List (Entry Note))
      → Leads machine from (first ++ second) to
      → (between : machine.World) × Leads machine from first between × Leads machine between second to

  -- and where steps lead to such a world and on from it, they lead all the way
  abbrev pub StepsJoin : Type 0
  StepsJoin =
      (from between to : machine.World) (first second : List (Entry Note))
      → Leads machine from first between → Leads machine between second to
      → Leads machine from (first ++ second) to

  -- a legal history stays legal with one entry more that may follow, and leads where that step leads
  abbrev pub HistoriesGrow : Type 0
  HistoriesGrow =
      (opening world next : machine.World) (history : List (Entry Note)) (e : Entry Note)
      → IsLegal machine opening history world → MayFollow machine opening history e → machine.steps world e next
      → IsLegal machine opening (history ++ e ∷ []) next

  -- what a legal history begins with is legal, and the rest leads on from there
  abbrev pub HistoriesBegin : Type 0
  HistoriesBegin =
      (opening now : machine.World) (first second : List (Entry Note))
      → IsLegal machine opening (first ++ second) now
      → (between : machine.World) × IsLegal machine opening first between × Leads machine between second now

  -- the history ends with an entry that may follow what is before it, and with its step
  pub record EndsWithStep (opening : machine.World) (history : List (Entry Note)) (now : machine.World) : Type 0 where
    pub before : List (Entry Note)
    pub last : Entry Note
    pub world : machine.World
    pub history_is : history ≡ before ++ last ∷ []
    pub legal : IsLegal machine opening before world
    pub may : MayFollow machine opening before last
    pub step : machine.steps world last now

  -- a legal history is empty or ends with a step
  abbrev pub HistoriesEnd : Type 0
  HistoriesEnd =
      (opening now : machine.World) (history : List (Entry Note))
      → IsLegal machine opening history now
      → ((history ≡ []) × (now ≡ opening)) ⊎ EndsWithStep opening history now
