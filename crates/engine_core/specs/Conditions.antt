-- What the moves of the tables ask of the world. It is this project's own.
use Rattle.std.specs.Prelude.{◌≡◌, ℕ, Some}
use Rattle.std.specs.FinMap.{get}
use Rattle.load_table.specs.declared.loads.LoadState.TheVariants.{Ready}
use Rattle.engine_world.specs.World.{Job, Resource, World}

-- A load is ready on a resource that is there.
pub record IsShown (w : World) (who number : ℕ) : Type 0 where
  pub r : ℕ
  pub resource : Resource
  pub ready : get w.loads (who, number) ≡ Some (Ready r)
  pub there : get w.resources r ≡ Some resource

-- A job is there.
pub record IsLive (w : World) (j : ℕ) : Type 0 where
  pub job : Job
  pub there : get w.jobs j ≡ Some job
