-- Which stop of a run a fault of a call is, and which status an end is.
use Rattle.std.specs.Prelude.{ℕ, Bool, if◌then◌else◌, Some, None, Ok, Err, Result}
use Rattle.std.specs.declared.option.Option.{Option}
use Rattle.outside.specs.declared.sinks.WriteFault.{WriteFault}
use Rattle.outside.specs.declared.sinks.WriteFault.TheVariants as faults
use Rattle.script_lines.specs.declared.commands.ScriptFault.{ScriptFault}
use Rattle.script_lines.specs.declared.commands.ScriptFault.TheVariants as scripts
use Rattle.glide_run.specs.declared.run.Ended.{Ended}
use Rattle.glide_run.specs.declared.run.Stop.{Stop}
use Rattle.glide_run.specs.declared.run.Stop.TheVariants.{Memory, Input, Write}
use Rattle.glide_run.specs.declared.run.Troubles.{Troubles}

abbrev pub stop_of_write : WriteFault → Stop
stop_of_write faults.Failed = Write
stop_of_write faults.Memory = Memory

-- the status of a script that ended, by its bad line and by whether a printed line says failed
abbrev pub bad_status : Option ℕ → Bool → ℕ
bad_status None failing = if failing then 1 else 0
bad_status (Some number) failing = 3

abbrev pub ended_status : Ended → ℕ
ended_status ended = bad_status ended.bad ended.troubles.failing

-- how a script ends where no command was read
abbrev pub ended_by : ScriptFault → Troubles → Result Ended Stop
ended_by (scripts.Bad number) troubles = Ok record { bad = Some number; troubles = troubles }
ended_by scripts.Input troubles = Err Input
ended_by scripts.Memory troubles = Err Memory
