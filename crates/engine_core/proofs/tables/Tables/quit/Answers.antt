use Rattle.std.proofs.Common.{length, ap, sym, ◌∙◌}
use Rattle.std.specs.Prelude.{is_some}
use Rattle.std.specs.FinMap.{remove}
use Rattle.finite_maps.specs.Maps.{total}
use Rattle.job_table.specs.Jobs.{JobTableValue}
use Rattle.engine_world.specs.World.{Jobs}
use Rattle.engine_world.specs.Moves.{table_jobs}
use Rattle.engine_core.proofs.Joins.{tabled, live_in, jobs_ended, out_ended}
use Rattle.engine_core.proofs.tables.Tables.quit.Goals as goal

pub end-requires : goal.end-requires
end-requires c = ap is_some (tabled c.self.inside c.args.self.now c.args.job c.self.invariant c.self.view_is c.requires.live)

pub invariant_of-self : goal.invariant_of-self
invariant_of-self c = record {
  jobs = ap (λ (v : JobTableValue). v.jobs) c.end.ensures.gone ∙ ap (λ m. remove m c.args.job) c.self.invariant.jobs ∙ jobs_ended c.self.inside.live.value c.args.job
      ∙ sym (ap table_jobs c.update_snapshot.ensures);
  out = c.self.invariant.out ∙ out_ended c.self.inside.live.value c.args.job c.requires.live.job (live_in c.self.inside c.args.self.now c.args.job c.self.view_is c.requires.live) (c.requires.none_out c.requires.live.job c.requires.live.there)
      ∙ sym (ap (λ (m : Jobs). total (λ j job. length job.out) m) c.update_snapshot.ensures);
  counts = c.self.invariant.counts;
  sizes = c.self.invariant.sizes;
  seats = c.self.invariant.seats;
  loads_room = c.self.invariant.loads_room;
  jobs_room = ap (λ (v : JobTableValue). v.room) c.end.ensures.gone ∙ c.self.invariant.jobs_room;
  resources_room = c.self.invariant.resources_room;
  active_room = c.self.invariant.active_room;
}
