-- Worked examples of loads. They are this project's own.
use Rattle.std.specs.Prelude.{◌≡◌, ℕ, List, map}
use Rattle.load_table.specs.declared.loads.LoadState.{LoadState}
use Rattle.load_table.specs.declared.loads.Settle.{Settle}
use Rattle.load_table.specs.declared.loads.Settle.TheVariants as settles
use Rattle.load_table.specs.Loads.{settled}

-- Where a job has ended so, loads in these states come to those; a failure is known by a number.
abbrev pub Ends : ℕ → Settle ℕ → List (LoadState ℕ) → List (LoadState ℕ) → Type 0
Ends job to before after = map (settled job to) before ≡ after

abbrev pub with_resource : ℕ → Settle ℕ
with_resource resource = settles.Ready resource

abbrev pub with_cause : ℕ → Settle ℕ
with_cause cause = settles.Failed cause
