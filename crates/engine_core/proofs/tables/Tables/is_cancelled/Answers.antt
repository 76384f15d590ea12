use Rattle.std.proofs.Common.{◌≡◌, Some, ap, sym, ◌∙◌}
use Rattle.std.specs.Prelude.{is_some}
use Rattle.std.specs.Option.{option_map}
use Rattle.finite_maps.specs.MapLaws.{same_Some}
use Rattle.job_table.specs.declared.jobs.Job.{Job}
use Rattle.engine_world.specs.Steps.{is_cancelled}
use Rattle.engine_core.proofs.Joins.{tabled}
use Rattle.engine_core.proofs.tables.Tables.is_cancelled.Goals as goal

pub is_cancelled-requires : goal.is_cancelled-requires
is_cancelled-requires c = ap is_some (tabled c.self.inside c.args.self.now c.args.job c.self.invariant c.self.view_is c.requires)

pub returns : goal.returns
returns c =
    let told : Some c.requires.job.cancelled ≡ Some c.is_cancelled.result =
    sym (ap (option_map (λ (live : Job). live.cancelled)) (tabled c.self.inside c.args.self.now c.args.job c.self.invariant c.self.view_is c.requires)) ∙ c.is_cancelled.ensures in
    sym (same_Some _ _ told) ∙ sym (ap is_cancelled c.requires.there)
