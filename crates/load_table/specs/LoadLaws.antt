-- How the counts of loads follow the changes of their finite map.
use Rattle.std.specs.Prelude.{◌≡◌, ◌≢◌, ℕ, ◌+◌, Bool, Some, None, if◌then◌else◌}
use Rattle.std.specs.Cmp.{IsTotalOrder}
use Rattle.std.specs.FinMap.{IsAntisymmetric, get, insert, remove}
use Rattle.finite_maps.specs.Maps.{map_values}
use Rattle.load_table.specs.declared.loads.LoadState.{LoadState}
use Rattle.load_table.specs.declared.loads.Settle.{Settle}
use Rattle.load_table.specs.Loads.{LoadName, load_cmp, Loads, count_where, ready_on, state_of, settled, waiting, holders, owned}

abbrev pub OrderIsTotal : Type 0
OrderIsTotal = IsTotalOrder load_cmp

abbrev pub OnlyEqualNamesTie : Type 0
OnlyEqualNamesTie = IsAntisymmetric load_cmp

-- A new load counts one more, where it passes.
abbrev pub CountsOneMore : (C : Type 0) → Type 0
CountsOneMore C = (p : LoadName → LoadState C → Bool) (loads : Loads C)
    (name : LoadName) (state : LoadState C)
    → get loads name ≡ None
    → count_where p (insert loads name state) ≡ count_where p loads + (if p name state then 1 else 0)

-- A load that goes counts one less, where it passed.
abbrev pub CountsOneLess : (C : Type 0) → Type 0
CountsOneLess C = (p : LoadName → LoadState C → Bool) (loads : Loads C)
    (name : LoadName) (state : LoadState C)
    → get loads name ≡ Some state
    → count_where p loads ≡ count_where p (remove loads name) + (if p name state then 1 else 0)

-- No load waits on a job that has ended.
abbrev pub NoneWaits : (C : Type 0) → Type 0
NoneWaits C = (job : ℕ) (to : Settle C) (loads : Loads C)
    → waiting job (map_values (settled job to) loads) ≡ 0

-- As many as before wait on another.
abbrev pub OthersWait : (C : Type 0) → Type 0
OthersWait C = (job other : ℕ) (to : Settle C) (loads : Loads C) → other ≢ job
    → waiting other (map_values (settled job to) loads) ≡ waiting other loads

-- Those that waited hold the resource that the job has ended with, besides those that held it.
abbrev pub HoldersJoin : (C : Type 0) → Type 0
HoldersJoin C = (job resource : ℕ) (to : Settle C) (loads : Loads C)
    → holders resource (map_values (settled job to) loads) ≡
    holders resource loads + (if ready_on resource (state_of to) then waiting job loads else 0)

-- Each owner has as many loads as before.
abbrev pub OwnersKeep : (C : Type 0) → Type 0
OwnersKeep C = (job owner : ℕ) (to : Settle C) (loads : Loads C)
    → owned owner (map_values (settled job to) loads) ≡ owned owner loads
