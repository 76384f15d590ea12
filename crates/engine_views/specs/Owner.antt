-- The caller that has the engine to itself, and the loads that it has. This project's own.
use Rattle.std.specs.Prelude.{◌≡◌, ◌≢◌, ℕ, ◌+◌, ◌≤◌, false, List, [], ◌∷◌, ◌++◌, length, None, ⊤}
use Rattle.std.specs.FinMap.{len}
use Rattle.request_tracker.specs.Limits.{views_limit}
use Rattle.state_machine.specs.declared.entry.Entry.{Entry}
use Rattle.engine_world.specs.declared.events.Note.{Note}
use Rattle.engine_world.specs.Permits.{load_limit}
use Rattle.engine_world.specs.EngineMachine.{opening_of}
use Rattle.engine_shared.specs.Tokens.{HoldValue}
use Rattle.engine_shared.specs.Caller.{Caller, knowledge_of, quota_of, IsLegal, HasLoad}
use Rattle.script_walk.specs.Walk.{Begin, TraceEvent}
use Rattle.fetch_bounds.specs.Follows as followed

-- ---- the engine's only caller

-- The engine has one seat, which is the caller's, with a quota of a load for each view, and is open.
pub record IsOwner (c : Caller) : Type 0 where
  pub legal : IsLegal c
  pub who : c.who ≡ 0
  pub seats : length c.world.limits.quotas ≡ 1
  pub room : views_limit ≤ quota_of c
  pub is_open : c.world.closed ≡ false

-- It may make a load for each view, and more.
abbrev pub MayLoad : Caller → Type 0
MayLoad c = (knowledge_of c).begun + views_limit ≤ load_limit

-- ---- the loads that it has

abbrev pub AllLoads : Caller → List HoldValue → Type 0
AllLoads c [] = ⊤
AllLoads c (load ∷ loads) = HasLoad c load × AllLoads c loads

-- None of these loads has this number.
abbrev pub IsNone : ℕ → List HoldValue → Type 0
IsNone number [] = ⊤
IsNone number (load ∷ loads) = (load.number ≢ number) × IsNone number loads

abbrev pub AreApart : List HoldValue → Type 0
AreApart [] = ⊤
AreApart (load ∷ loads) = IsNone load.number loads × AreApart loads

-- The engine's only caller has just these loads, and runs no job.
pub record HasJust (c : Caller) (loads : List HoldValue) : Type 0 where
  pub owner : IsOwner c
  pub each : AllLoads c loads
  pub apart : AreApart loads
  pub count : len (knowledge_of c).loads ≡ length loads
  pub idle : (knowledge_of c).job ≡ None

-- ---- what it added to the history

-- Its calls between two moments follow these events of a walk, before which these begins were made, the last one first.
pub record Adds (old new : Caller) (begun : List Begin) (events : List TraceEvent) : Type 0 where
  pub later : List (Entry Note)
  pub seen : new.seen ≡ old.seen ++ later
  pub follows : followed.Follows begun events later
  pub opening : opening_of new.world ≡ opening_of old.world
