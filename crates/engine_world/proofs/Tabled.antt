-- The jobs as their table has them: what is found among them is a job without its bitmaps.
use Rattle.std.proofs.Common.{◌≡◌, ℕ, Some, None, Option, refl, ap, sym, ◌∙◌}
use Rattle.std.specs.Option.{option_map}
use Rattle.std.specs.Ordering.{nat_cmp}
use Rattle.std.specs.FinMap.{get}
use Rattle.finite_maps.specs.MapLaws.{not_Some, same_Some, get-map_values}
use Rattle.job_table.specs.declared.jobs.Job as table
use Rattle.engine_world.specs.World.{Job, Jobs}
use Rattle.engine_world.specs.Moves.{table_job, table_jobs}

pub get-table_jobs : (jobs : Jobs) (j : ℕ) → get (table_jobs jobs) j ≡ option_map table_job (get jobs j)
get-table_jobs jobs j = get-map_values nat_cmp table_job jobs j

mapped : (o : Option Job) (job : table.Job) → option_map table_job o ≡ Some job → (real : Job) × (o ≡ Some real) × (table_job real ≡ job)
mapped None job e = absurd (not_Some e)
mapped (Some real) job e = (real, refl, same_Some _ _ e)

-- a job of the table is one of the world
pub table_job-found : (jobs : Jobs) (j : ℕ) (job : table.Job) → get (table_jobs jobs) j ≡ Some job → (real : Job) × (get jobs j ≡ Some real) × (table_job real ≡ job)
table_job-found jobs j job is = mapped (get jobs j) job (sym (get-table_jobs jobs j) ∙ is)

-- and the other way round
pub table_job-there : (jobs : Jobs) (j : ℕ) (job : Job) → get jobs j ≡ Some job → get (table_jobs jobs) j ≡ Some (table_job job)
table_job-there jobs j job is = get-table_jobs jobs j ∙ ap (option_map table_job) is
