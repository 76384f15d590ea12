-- What contracts see of a store, and what it keeps whatever its seats do. It is this project's own.
use Rattle.std.specs.Prelude.{◌≡◌, true, List, [], Some}
use Rattle.std.specs.declared.option.Option.{Option}
use Rattle.outside.specs.Files.{FolderHistory}
use Rattle.outside.specs.Content.{Contents}
use Rattle.state_machine.specs.declared.entry.Entry.{Entry}
use Rattle.cache_folder.specs.Images.{IfKnown, Runs}
use Rattle.store_world.specs.declared.events.Note.{Note}
use Rattle.store_world.specs.Right.{OffersRight, HoldsRightIn}
use Rattle.store_world.specs.World.{World}
use Rattle.store_world.specs.Knowledge.{knowledge_in}
use Rattle.store_world.specs.Sound.{Sound}
use Rattle.store_world.specs.StoreMachine.{IsOpening, BeganRight}
use Rattle.store_world.specs.Laws.{SameSettings}

pub record StoreValue : Type 0 where
  -- what the files held, and had held, when the store was made, where it is known
  pub before : Option FolderHistory
  -- the world that it began with, and its world now
  pub opening : World
  pub world : World
  -- the entries of its steps, the oldest first
  pub history : List (Entry Note)

-- Where the content is told, the files have offered only what is right since then, at each moment.
abbrev pub OffersRightSince : Option FolderHistory → World → Type 0
OffersRightSince before w = (content : Contents) → w.content ≡ Some content
    → IfKnown before (λ h. Runs (OffersRight content) h w.disk.cache.history)

-- What always holds of a store.
pub record IsStore (before : Option FolderHistory) (opening world : World) (history : List (Entry Note)) : Type 0 where
  -- it began with what the files offered
  pub opens : IsOpening opening.content before opening
  -- where it is not off, they offered only what is right
  pub began_right : BeganRight opening.content before opening
  pub settings : SameSettings opening world
  -- its world is sound with what the seats know by the history
  pub sound : Sound world (knowledge_in history)
  -- where they did, they have done so at each moment since
  pub right : HoldsRightIn opening.content before → OffersRightSince before world
  -- nothing of a store that is off has changed, nor have its files
  pub untouched : world.off ≡ true → world ≡ opening

-- A store that has made no step, in this world.
pub record IsFresh (before : Option FolderHistory) (world : World) (store : StoreValue) : Type 0 where
  pub before_is : store.before ≡ before
  pub opening_is : store.opening ≡ world
  pub world_is : store.world ≡ world
  pub no_steps : store.history ≡ []
