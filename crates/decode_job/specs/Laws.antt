-- What a job leaves of its caller's loads. It is this project's own.
use Rattle.std.specs.Prelude.{◌≡◌}
use Rattle.engine_world.specs.Knowledge.{OwnJob}
use Rattle.engine_shared.specs.Tokens.{HoldValue}
use Rattle.engine_shared.specs.Caller.{Caller, picture_held, HasLoad, HasReadyLoad}
use Rattle.decode_job.specs.declared.ends.JobEnd.{JobEnd}
use Rattle.decode_job.specs.Ends.{RunsToEnd}

-- A job that its caller ran leaves the caller its loads.
abbrev pub JobsLeaveLoads : Type 0
JobsLeaveLoads =
    (old new : Caller) (job : OwnJob) (end : JobEnd) (hold : HoldValue) → RunsToEnd old job end new
    → HasLoad old hold → HasLoad new hold

-- Those that showed a picture show the same one.
abbrev pub JobsLeavePictures : Type 0
JobsLeavePictures =
    (old new : Caller) (job : OwnJob) (end : JobEnd) (hold : HoldValue) → RunsToEnd old job end new
    → HasReadyLoad old hold
    → HasReadyLoad new hold × (picture_held new hold.number ≡ picture_held old hold.number)
