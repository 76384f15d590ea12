-- A job with a bitmap more or less. It is this project's own.
use Rattle.std.specs.Prelude.{ℕ, ◌+◌, [], ◌∷◌, ◌++◌, true, Some, None, if◌then◌else◌}
use Rattle.std.specs.declared.option.Option.{Option}
use Rattle.std.specs.Option.{is_none}
use Rattle.std.specs.FinMap.{get, insert, remove}
use Rattle.engine_world.specs.declared.events.Lent.{Lent}
use Rattle.engine_world.specs.World.{Job, Jobs}
use Rattle.engine_world.specs.Moves.{without_lent}

-- a bitmap is lent to it
abbrev pub with_lent : Lent → Job → Job
with_lent lent job = record job { takes = job.takes + 1; out = job.out ++ lent ∷ [] }

-- it gives one back
abbrev pub less_lent : ℕ → Job → Job
less_lent number job = record job { out = without_lent number job.out }

-- no load waits on it any more
abbrev pub left_by : Option Job → ℕ → Jobs → Jobs
left_by None j jobs = jobs
left_by (Some job) j jobs =
    if is_none job.seat then remove jobs j else insert jobs j (record job { cancelled = true })

abbrev pub left : Jobs → ℕ → Jobs
left jobs j = left_by (get jobs j) j jobs
