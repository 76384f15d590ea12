-- The loads as a finite map by owner and number. The states are those that Glide's EngineJob leaves its callbacks in;
-- that a failed load keeps its cause, and the numbers, are this project's own.
use Rattle.std.specs.Prelude.{ℕ, Bool, false, ◌==◌, if◌then◌else◌}
use Rattle.std.specs.declared.cmp.Ordering.{Ordering}
use Rattle.std.specs.Ordering.{nat_cmp, ordering_then}
use Rattle.std.specs.FinMap.{FinMap}
use Rattle.load_table.specs.declared.loads.LoadState.{LoadState}
use Rattle.load_table.specs.declared.loads.LoadState.TheVariants.{Waiting, Ready, Failed}
use Rattle.load_table.specs.declared.loads.Settle.{Settle}
use Rattle.load_table.specs.declared.loads.Settle.TheVariants as settles
use Rattle.finite_maps.specs.Maps.{total}

-- a load: its owner's seat, and its number among its owner's loads
abbrev pub LoadName : Type 0
LoadName = ℕ × ℕ

-- the order of loads in a finite map: by owner, and then by number
abbrev pub load_cmp : LoadName → LoadName → Ordering
load_cmp a b = ordering_then (nat_cmp a.0 b.0) (nat_cmp a.1 b.1)

abbrev pub Loads : (C : Type 0) → Type 0
Loads C = FinMap load_cmp (LoadState C)

-- whether a load waits on a job
abbrev pub waits_on : {C : Type 0} → ℕ → LoadState C → Bool
waits_on job (Waiting waited) = waited == job
waits_on job (Ready resource) = false
waits_on job (Failed cause) = false

-- whether it is ready on a resource
abbrev pub ready_on : {C : Type 0} → ℕ → LoadState C → Bool
ready_on resource (Waiting job) = false
ready_on resource (Ready ready) = ready == resource
ready_on resource (Failed cause) = false

-- what a load that waited has come to
abbrev pub state_of : {C : Type 0} → Settle C → LoadState C
state_of (settles.Ready resource) = Ready resource
state_of (settles.Failed cause) = Failed cause

-- what a load in this state comes to when a job has ended so
abbrev pub settled : {C : Type 0} → ℕ → Settle C → LoadState C → LoadState C
settled job to state = if waits_on job state then state_of to else state

-- ---- the counts

-- how many entries of a finite map pass
abbrev pub count_where : {K X : Type 0} {R : K → K → Ordering} → (K → X → Bool) → FinMap R X → ℕ
count_where p m = total (λ k x. if p k x then 1 else 0) m

-- how many loads wait on a job
abbrev pub waiting : {C : Type 0} → ℕ → Loads C → ℕ
waiting job loads = count_where (λ name state. waits_on job state) loads

-- how many are ready on a resource
abbrev pub holders : {C : Type 0} → ℕ → Loads C → ℕ
holders resource loads = count_where (λ name state. ready_on resource state) loads

-- how many an owner has
abbrev pub owned : {C : Type 0} → ℕ → Loads C → ℕ
owned owner loads = count_where (λ name state. name.0 == owner) loads

-- what contracts see of the table: how many loads it has room for, and the loads
pub record LoadsValue (C : Type 0) : Type 0 where
  pub room : ℕ
  pub loads : Loads C
