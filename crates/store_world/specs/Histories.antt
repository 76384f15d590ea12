-- What holds through each history of the store, and over any list of runs on one folder. It is this project's
-- own.
use Rattle.std.specs.Prelude.{◌≡◌, ◌≢◌, ℕ, zero, suc, true, List, ◌∷◌, ◌++◌, take, Some, []}
use Rattle.std.specs.declared.option.Option.{Option}
use Rattle.outside.specs.Content.{Contents}
use Rattle.outside.specs.Files.{Folder, FolderHistory, last_of, passed_through}
use Rattle.state_machine.specs.declared.entry.Entry.{Entry}
use Rattle.state_machine.specs.Histories.{entry}
use Rattle.state_machine.specs.Legal.{Leads, IsLegal}
use Rattle.cache_folder.specs.Images.{IfKnown, Runs}
use Rattle.cache_folder.specs.Offered.{offered}
use Rattle.cache_folder.specs.Allowed.{Pass}
use Rattle.disk_lru.specs.Past.{DiskState, is_among}
use Rattle.disk_lru.specs.Staying.{EntryStays}
use Rattle.store_world.specs.declared.events.Note.{Note}
use Rattle.store_world.specs.Right.{Pair, OffersRight, HoldsRightIn}
use Rattle.store_world.specs.World.{World}
use Rattle.store_world.specs.Knowledge.{no_knowledge, updated, knowledge_in}
use Rattle.store_world.specs.Sound.{Sound}
use Rattle.store_world.specs.Laws.{SameSettings, handed_by_event}
use Rattle.store_world.specs.StoreMachine.{IsOpening, BeganRight, store_machine}
use Rattle.store_world.specs.Staying.{MayTake}

-- ---- what seats learn

-- An entry more tells its own seat of its event and its reply.
abbrev pub OwnEntriesTell : Type 0
OwnEntriesTell = (past : List (Entry Note)) (who : ℕ) (note : Note)
    → knowledge_in (past ++ entry who note ∷ []) who
    ≡ updated note.event note.reply (knowledge_in past who)

-- It tells the other seats nothing.
abbrev pub OthersLearnNothing : Type 0
OthersLearnNothing = (past : List (Entry Note)) (who other : ℕ) (note : Note) → other ≢ who
    → knowledge_in (past ++ entry who note ∷ []) other ≡ knowledge_in past other

-- ---- what a history commits

-- the pairs that the later entries hand to `commit`, each by what its seat had written, after these earlier
-- ones
abbrev pub committed_after : List (Entry Note) → List (Entry Note) → List Pair
committed_after past [] = []
committed_after past (e ∷ later) =
    handed_by_event e.note.event (knowledge_in past e.by) ++ committed_after (past ++ e ∷ []) later

abbrev pub committed_in : List (Entry Note) → List Pair
committed_in history = committed_after [] history

-- the files passed only through contents that offer some of these pairs
abbrev pub OffersOnly : List Pair → FolderHistory → DiskState → Type 0
OffersOnly pairs before disk =
    Runs (λ c. Pass (is_among pairs) (offered c)) before disk.cache.history

-- for each kind of store, by how it shows its worlds and its history
module _ {M : Type 0} (opening now : M → World) (history : M → List (Entry Note)) where
  -- Whatever the seats were answered, by entries of which each asked no more than it might, the world is
  -- sound.
  abbrev pub AlwaysSound : Type 0
  AlwaysSound = (content : Option Contents) (before : Option FolderHistory) (w z : World)
      (past : List (Entry Note)) → IsOpening content before w → BeganRight content before w
      → IsLegal (store_machine opening now history) w past z → Sound z (knowledge_in past)

  -- From a sound opening, each legal history leads to a sound world with the settings of the opening.
  abbrev pub StaysSound : Type 0
  StaysSound = (w z : World) (past : List (Entry Note)) → Sound w (λ who. no_knowledge)
      → IsLegal (store_machine opening now history) w past z
      → Sound z (knowledge_in past) × SameSettings w z

  -- A store that is off stays as it opened.
  abbrev pub AlwaysOff : Type 0
  AlwaysOff = (content : Option Contents) (before : Option FolderHistory) (w z : World)
      (past : List (Entry Note)) → IsOpening content before w → w.off ≡ true
      → IsLegal (store_machine opening now history) w past z → z ≡ w

  -- Where the content is told, each moment since the start was called offers only what is right.
  abbrev pub AlwaysRight : Type 0
  AlwaysRight = (content : Contents) (before : Option FolderHistory) (w z : World)
      (past : List (Entry Note)) → IsOpening (Some content) before w → HoldsRightIn (Some content) before
      → IsLegal (store_machine opening now history) w past z
      → IfKnown before (λ h. Runs (OffersRight content) h z.disk.cache.history)

  -- Each moment since the start was called offers only pairs that were offered then, or that the history
  -- committed.
  abbrev pub AlwaysGiven : Type 0
  AlwaysGiven = (content : Option Contents) (before : Option FolderHistory) (w z : World)
      (past : List (Entry Note)) → IsOpening content before w → BeganRight content before w
      → IsLegal (store_machine opening now history) w past z
      → IfKnown before (λ h. OffersOnly (offered h.held ++ committed_in past) h z.disk)

  -- None of these steps may take the entry of the key.
  abbrev pub NoneTakes : List ℕ → World → List (Entry Note) → Type 0
  NoneTakes key w later = (xs ys : List (Entry Note)) (e : Entry Note) (between : World)
      → later ≡ xs ++ e ∷ ys → Leads (store_machine opening now history) w xs between
      → MayTake key between e.by e.note.event e.note.reply → ⊥

  -- An entry that is offered after a legal history is offered at each moment of each later one none of
  -- whose steps may take it, and after it.
  abbrev pub AlwaysOffered : Type 0
  AlwaysOffered = (content : Option Contents) (before : Option FolderHistory) (w between z : World)
      (past later : List (Entry Note)) (pair : Pair) → IsOpening content before w
      → BeganRight content before w → IsLegal (store_machine opening now history) w past between
      → IsLegal (store_machine opening now history) w (past ++ later) z
      → Leads (store_machine opening now history) between later z → NoneTakes pair.0 between later
      → EntryStays pair between.disk.cache z.disk.cache

  -- ---- runs

  -- A run on a folder, of any seats, ended or was stopped at any moment, and left this folder.
  pub record IsRun (content : Contents) (folder left : Folder) : Type 0 where
    pub before : FolderHistory
    pub found : before.held ≡ folder
    pub opened : World
    pub opens : IsOpening (Some content) (Some before) opened
    pub past : List (Entry Note)
    pub ended : World
    pub legal : IsLegal (store_machine opening now history) opened past ended
    -- the contents that its files passed through, and after how many of them it was stopped
    pub contents : List Folder
    pub history_is : ended.disk.cache.history ≡ Some (passed_through contents before)
    pub count : ℕ
    pub left_is : left ≡ last_of folder (take count contents)

  -- so many runs, one after the other
  abbrev pub AreRuns : Contents → ℕ → Folder → Folder → Type 0
  AreRuns content zero folder left = left ≡ folder
  AreRuns content (suc n) folder left =
      (between : Folder) × IsRun content folder between × AreRuns content n between left

  -- A folder that offers only what is right still does after any number of runs.
  abbrev pub RunsStayRight : Type 0
  RunsStayRight = (content : Contents) (n : ℕ) (folder left : Folder) → OffersRight content folder
      → AreRuns content n folder left → OffersRight content left

-- ---- the same, for each kind of store that is shown somehow

abbrev pub HistoriesAreSound : Type 0 → Type 0
HistoriesAreSound M =
    (opening now : M → World) (history : M → List (Entry Note)) → AlwaysSound opening now history

abbrev pub HistoriesStaySound : Type 0 → Type 0
HistoriesStaySound M =
    (opening now : M → World) (history : M → List (Entry Note)) → StaysSound opening now history

abbrev pub HistoriesKeepOff : Type 0 → Type 0
HistoriesKeepOff M =
    (opening now : M → World) (history : M → List (Entry Note)) → AlwaysOff opening now history

abbrev pub HistoriesAreRight : Type 0 → Type 0
HistoriesAreRight M =
    (opening now : M → World) (history : M → List (Entry Note)) → AlwaysRight opening now history

abbrev pub HistoriesOfferGiven : Type 0 → Type 0
HistoriesOfferGiven M =
    (opening now : M → World) (history : M → List (Entry Note)) → AlwaysGiven opening now history

abbrev pub HistoriesKeepEntries : Type 0 → Type 0
HistoriesKeepEntries M =
    (opening now : M → World) (history : M → List (Entry Note)) → AlwaysOffered opening now history

abbrev pub FoldersStayRight : Type 0 → Type 0
FoldersStayRight M =
    (opening now : M → World) (history : M → List (Entry Note)) → RunsStayRight opening now history
