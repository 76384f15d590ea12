-- Faults of files as faults of the cache, and which answers come from a call that went to its files.
use Rattle.std.specs.Prelude.{Bool, true, false, Ok, Err, Result, Some, None}
use Rattle.std.specs.declared.option.Option.{Option}
use Rattle.outside.specs.declared.files.FileFault.{FileFault}
use Rattle.outside.specs.declared.files.FileFault.TheVariants as files
use Rattle.disk_lru.specs.declared.refusals.DiskFault.{DiskFault}
use Rattle.disk_lru.specs.declared.refusals.DiskFault.TheVariants as disk
use Rattle.disk_lru.specs.declared.refusals.BeginRefused.{BeginRefused}
use Rattle.disk_lru.specs.declared.refusals.BeginRefused.TheVariants as begins
use Rattle.disk_lru.specs.declared.refusals.RemoveRefused.{RemoveRefused}
use Rattle.disk_lru.specs.declared.refusals.RemoveRefused.TheVariants as removes

abbrev pub disk_fault : FileFault → DiskFault
disk_fault files.Failed = disk.Failed
disk_fault files.Memory = disk.Memory

abbrev pub begin_fault : FileFault → BeginRefused
begin_fault files.Failed = begins.Failed
begin_fault files.Memory = begins.Memory

abbrev pub remove_fault : FileFault → RemoveRefused
remove_fault files.Failed = removes.Failed
remove_fault files.Memory = removes.Memory

-- ---- whether a call went to its files: one that did not has changed nothing

abbrev pub get_acts : {T : Type 0} → Result (Option T) DiskFault → Bool
get_acts (Ok None) = false
get_acts (Ok (Some bytes)) = true
get_acts (Err fault) = true

abbrev pub begin_acts : {T : Type 0} → Result T BeginRefused → Bool
begin_acts (Ok edit) = true
begin_acts (Err (begins.Busy number)) = false
begin_acts (Err begins.TooMany) = false
begin_acts (Err begins.Failed) = true
begin_acts (Err begins.Memory) = true

abbrev pub remove_acts : Result Bool RemoveRefused → Bool
remove_acts (Ok removed) = removed
remove_acts (Err (removes.Busy number)) = false
remove_acts (Err removes.Failed) = true
remove_acts (Err removes.Memory) = true

abbrev pub trim_acts : Result Bool DiskFault → Bool
trim_acts (Ok gone) = gone
trim_acts (Err fault) = true

-- ---- answers after a file call failed, or for want of memory

abbrev pub begin_failed : {T : Type 0} → Result T BeginRefused → Bool
begin_failed (Ok edit) = false
begin_failed (Err (begins.Busy number)) = false
begin_failed (Err begins.TooMany) = false
begin_failed (Err begins.Failed) = true
begin_failed (Err begins.Memory) = true

abbrev pub remove_failed : Result Bool RemoveRefused → Bool
remove_failed (Ok removed) = false
remove_failed (Err (removes.Busy number)) = false
remove_failed (Err removes.Failed) = true
remove_failed (Err removes.Memory) = true
