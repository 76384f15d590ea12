-- What holds of the engine's world in each moment, and through each history. It is this project's own.
use Rattle.std.specs.Prelude.{◌≡◌, ◌↔◌, ℕ, ◌<◌, true, false, List, ◌∷◌, ◌++◌, length, map, Some}
use Rattle.std.specs.declared.option.Option.{Option}
use Rattle.std.specs.FinMap.{get}
use Rattle.std.specs.FinSet as set
use Rattle.outside.specs.Content.{Contents}
use Rattle.bitmap_kind.specs.declared.bitmaps.Config.{Config}
use Rattle.cache_key.specs.Key.{Key}
use Rattle.state_machine.specs.declared.entry.Entry.{Entry}
use Rattle.state_machine.specs.Legal.{Leads, IsLegal}
use Rattle.load_table.specs.declared.loads.LoadState.TheVariants.{Ready}
use Rattle.load_table.specs.Loads.{LoadName}
use Rattle.active_resources.specs.Actives.{Numbers}
use Rattle.engine_world.specs.declared.events.Event.{Event}
use Rattle.engine_world.specs.declared.events.Event.TheVariants as events
use Rattle.engine_world.specs.declared.events.NotedReply.{NotedReply}
use Rattle.engine_world.specs.declared.events.NotedReply.TheVariants as replies
use Rattle.engine_world.specs.declared.events.Note.{Note}
use Rattle.engine_world.specs.declared.events.Lent.{Lent}
use Rattle.engine_world.specs.World.{Loads, Resource, Resources, Limits, World, opening}
use Rattle.engine_world.specs.Places.{occurrences, is_held, times_out, Place, IsAt}
use Rattle.engine_world.specs.Moves.{has_key, active_of, cached_of}
use Rattle.engine_world.specs.Balance.{totals, Balance}
use Rattle.engine_world.specs.Steps.{Transition}
use Rattle.engine_world.specs.Knowledge.{OwnLoad, Knowledge, knowledge_in, knowledge_with}
use Rattle.engine_world.specs.Permits.{IsRunning, IsPicture, Permits}
use Rattle.engine_world.specs.Sound.{ActiveAre, CachedAre, Sound}
use Rattle.engine_world.specs.EngineMachine.{opening_of, engine_machine}

-- ---- one event

-- From a sound world, an event that its seat is permitted leaves a sound one, with what the seat knows by
-- then.
abbrev pub KeepsSound : Event → Type 0
KeepsSound event = (w z : World) (known : ℕ → Knowledge) (who : ℕ) (reply : NotedReply)
    → who < length w.limits.quotas → Sound w known → Permits w.content (known who) event
    → Transition w who event reply z → Sound z (knowledge_with known who event reply)

-- It leaves the limits and the content as they are, and so the world that the engine opened with.
abbrev pub KeepsOpening : Event → Type 0
KeepsOpening event =
    (w z : World) (who : ℕ) (reply : NotedReply) → Transition w who event reply z
    → opening_of z ≡ opening_of w

-- ---- a load that is ready

-- A load is ready on a resource, which is this one.
pub record IsHold (w : World) (load : LoadName) (r : ℕ) (resource : Resource) : Type 0 where
  pub ready : get w.loads load ≡ Some (Ready r)
  pub there : get w.resources r ≡ Some resource

-- A seat's event is the owner's release of this load.
abbrev pub IsRelease : LoadName → ℕ → Event → Type 0
IsRelease load who (events.Release n) = load ≡ (who, n)
IsRelease load who event = ⊥

-- A load that is ready stays so, on the same resource with the same picture, through every event but its
-- owner's release of it.
abbrev pub KeepsHolds : Event → Type 0
KeepsHolds event = (w z : World) (known : ℕ → Knowledge) (who : ℕ) (reply : NotedReply)
    → who < length w.limits.quotas → Sound w known → Permits w.content (known who) event
    → Transition w who event reply z
    → (load : LoadName) (r : ℕ) (resource : Resource) → IsHold w load r resource
    → (IsRelease load who event → ⊥) → IsHold z load r resource

-- A load that its owner was answered Ready for is ready on a resource of its key, which has the key's
-- picture where the content is known.
pub record ShowsItsKey (w : World) (load : LoadName) (key : Key) : Type 0 where
  pub number : ℕ
  pub resource : Resource
  pub hold : IsHold w load number resource
  pub key_is : resource.key ≡ key
  pub picture_is : IsPicture w.content key resource.picture

abbrev pub ReadyShowsItsKey : Type 0
ReadyShowsItsKey = (w : World) (known : ℕ → Knowledge) (who n : ℕ) (load : OwnLoad)
    → Sound w known → get (known who).loads n ≡ Some load → load.ready ≡ true
    → ShowsItsKey w (who, n) load.key

-- ---- places

-- A bitmap that was made is in one place, and in no other.
abbrev pub HasOnePlace : Type 0
HasOnePlace = (w : World) (known : ℕ → Knowledge) → Sound w known
    → (b : ℕ) → b < w.next → (place : Place) × IsAt w b place
    × ((other : Place) → IsAt w b other → other ≡ place)

-- And what is in a place was made.
abbrev pub OnlyMadeHasPlace : Type 0
OnlyMadeHasPlace =
    (w : World) (known : ℕ → Knowledge) → Sound w known → (b : ℕ) (place : Place) → IsAt w b place
    → b < w.next

-- A number that is neither out nor held nor cached.
pub record IsFree (w : World) (b : ℕ) : Type 0 where
  pub not_out : times_out w.jobs b ≡ 0
  pub not_held : is_held w.loads w.resources b ≡ false
  pub not_cached : occurrences b w.cached ≡ 0

-- What a take answers was free, and so its number is not that of a bitmap that the job has.
abbrev pub TakesFree : Type 0
TakesFree = (w z : World) (known : ℕ → Knowledge) (who j width height : ℕ) (config : Config) (lent : Lent)
    → Sound w known → Transition w who (events.Take j width height config) (replies.Taken lent) z
    → IsFree w lent.number

abbrev pub TakesAnother : Type 0
TakesAnother =
    (w z : World) (known : ℕ → Knowledge) (who j width height : ℕ) (config : Config) (lent : Lent)
    → Sound w known → (run : IsRunning (known who) j)
    → Transition w who (events.Take j width height config) (replies.Taken lent) z
    → occurrences lent.number (map (λ (a : Lent). a.number) run.job.out) ≡ 0

-- ---- looking

-- The active resource of a key is the one that is active and has the key.
abbrev pub FindsActive : Type 0
FindsActive =
    (loads : Loads) (resources : Resources) (active : Numbers) → ActiveAre loads resources active
    → (key : Key) (r : ℕ) → (active_of resources active key ≡ Some r)
    ↔ ((set.contains active r ≡ true) × (has_key resources key r ≡ true))

-- And so is the cached one.
abbrev pub FindsCached : Type 0
FindsCached = (maximum : ℕ) (resources : Resources) (cached : List ℕ) → CachedAre maximum resources cached
    → (key : Key) (r : ℕ) → (cached_of resources cached key ≡ Some r)
    ↔ ((0 < occurrences r cached) × (has_key resources key r ≡ true))

-- ---- histories

-- None of these entries is the owner's release of this load.
abbrev pub NoRelease : LoadName → List (Entry Note) → Type 0
NoRelease load later =
    (xs ys : List (Entry Note)) (e : Entry Note) → later ≡ xs ++ e ∷ ys
    → IsRelease load e.by e.note.event → ⊥

-- for each kind of engine, by how it shows its world and its history, and what it notes of a reply
module _ {M Reply : Type 0} (world : M → World) (history : M → List (Entry Note))
    (note : Event → Reply → Note) where
  -- Whatever the seats were answered, by entries of which each asked no more than it might, the world is
  -- sound.
  abbrev pub AlwaysSound : Type 0
  AlwaysSound = (limits : Limits) (content : Option Contents) (past : List (Entry Note)) (w : World)
      → IsLegal (engine_machine world history note) (opening limits content) past w
      → Sound w (knowledge_in past)

  -- And the totals add up.
  abbrev pub AlwaysBalanced : Type 0
  AlwaysBalanced = (limits : Limits) (content : Option Contents) (past : List (Entry Note)) (w : World)
      → IsLegal (engine_machine world history note) (opening limits content) past w → Balance (totals w)

  -- A load that is ready is so, on the same resource with the same picture, after each later history
  -- without its owner's release of it.
  abbrev pub AlwaysHeld : Type 0
  AlwaysHeld =
      (limits : Limits) (content : Option Contents) (past later : List (Entry Note)) (w z : World)
      → IsLegal (engine_machine world history note) (opening limits content) past w
      → IsLegal (engine_machine world history note) (opening limits content) (past ++ later) z
      → Leads (engine_machine world history note) w later z
      → (load : LoadName) (r : ℕ) (resource : Resource) → IsHold w load r resource → NoRelease load later
      → IsHold z load r resource

-- ---- the same, for each kind of engine that is shown somehow

abbrev pub HistoriesAreSound : (M Reply : Type 0) → Type 0
HistoriesAreSound M Reply =
    (world : M → World) (history : M → List (Entry Note)) (note : Event → Reply → Note)
    → AlwaysSound world history note

abbrev pub HistoriesBalance : (M Reply : Type 0) → Type 0
HistoriesBalance M Reply =
    (world : M → World) (history : M → List (Entry Note)) (note : Event → Reply → Note)
    → AlwaysBalanced world history note

abbrev pub HistoriesKeepHolds : (M Reply : Type 0) → Type 0
HistoriesKeepHolds M Reply =
    (world : M → World) (history : M → List (Entry Note)) (note : Event → Reply → Note)
    → AlwaysHeld world history note
