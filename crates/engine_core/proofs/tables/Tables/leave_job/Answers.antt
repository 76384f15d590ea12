use Rattle.std.proofs.Common.{length, ap, sym, ◌∙◌}
use Rattle.std.specs.Prelude.{is_some}
use Rattle.finite_maps.specs.Maps.{total}
use Rattle.job_table.specs.Jobs.{JobTableValue, after_cancel}
use Rattle.engine_world.specs.World.{Job, Jobs}
use Rattle.engine_world.specs.Moves.{table_jobs}
use Rattle.engine_core.proofs.Joins.{tabled, live_in}
use Rattle.engine_core.proofs.Leaving.{left_in_table, left_out}
use Rattle.engine_core.proofs.tables.Tables.leave_job.Goals as goal

pub cancel-requires : goal.cancel-requires
cancel-requires c = ap is_some (tabled c.self.inside c.args.self.now c.args.job c.self.invariant c.self.view_is c.requires.live)

pub invariant_of-self : goal.invariant_of-self
invariant_of-self c =
    let job : Job = c.requires.live.job in
    let is = live_in c.self.inside c.args.self.now c.args.job c.self.view_is c.requires.live in
    record {
      jobs = ap (λ (v : JobTableValue). v.jobs) c.cancel.ensures.cancelled ∙ ap (λ m. after_cancel m c.args.job) c.self.invariant.jobs
          ∙ left_in_table c.self.inside.live.value c.args.job job is ∙ sym (ap table_jobs c.update_snapshot.ensures);
      out = c.self.invariant.out ∙ left_out c.self.inside.live.value c.args.job job is (c.requires.none_out job c.requires.live.there)
          ∙ sym (ap (λ (m : Jobs). total (λ j job. length job.out) m) c.update_snapshot.ensures);
      counts = c.self.invariant.counts;
      sizes = c.self.invariant.sizes;
      seats = c.self.invariant.seats;
      loads_room = c.self.invariant.loads_room;
      jobs_room = ap (λ (v : JobTableValue). v.room) c.cancel.ensures.cancelled ∙ c.self.invariant.jobs_room;
      resources_room = c.self.invariant.resources_room;
      active_room = c.self.invariant.active_room;
    }
