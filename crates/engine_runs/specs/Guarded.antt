-- What the tests keep of an engine's only caller. It is this project's own.
use Rattle.std.specs.Prelude.{◌≡◌, ℕ, List, [], length, slice_get, Some, None, IfSome}
use Rattle.std.specs.declared.option.Option.{Option}
use Rattle.engine_world.specs.Knowledge.{OwnJob}
use Rattle.engine_shared.specs.Tokens.{HoldValue}
use Rattle.engine_shared.specs.Caller.{Caller, knowledge_of, content_of, HasLoad}

-- The load is the caller's, and has this number.
pub record IsNumbered (c : Caller) (number : ℕ) (hold : HoldValue) : Type 0 where
  pub load : HasLoad c hold
  pub is : hold.number ≡ number

-- The caller made as many loads as there are places, those that it has stand at the places of their
-- numbers, and no content is told.
pub record HasLoads (c : Caller) (holds : List (Option HoldValue)) : Type 0 where
  pub begun : (knowledge_of c).begun ≡ length holds
  pub each : (n : ℕ) (hold : HoldValue) → slice_get holds n ≡ Some (Some hold) → IsNumbered c n hold
  pub untold : content_of c ≡ None

-- The job took no bitmap yet.
pub record IsUnused (job : OwnJob) : Type 0 where
  pub takes : job.takes ≡ 0
  pub out : job.out ≡ []

-- And it runs just this job, which took no bitmap yet, or none.
pub record IsGuarded (c : Caller) (holds : List (Option HoldValue)) (job : Option OwnJob) : Type 0 where
  pub loads : HasLoads c holds
  pub is : (knowledge_of c).job ≡ job
  pub unused : IfSome job IsUnused
