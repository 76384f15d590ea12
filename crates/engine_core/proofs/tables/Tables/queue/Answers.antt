use Rattle.std.proofs.Common.{◌≡◌, ◌+◌, ◌≤◌, length, ap, sym, subst, ◌∙◌, arith}
use Rattle.std.specs.FinMap.{insert, len, nat_cmp-IsAntisymmetric}
use Rattle.std.proofs.lemmas.Cmp.{nat_cmp_total}
use Rattle.finite_maps.specs.Maps.{total}
use Rattle.finite_maps.specs.MapLaws.{total-insert_new}
use Rattle.job_table.specs.Jobs.{JobTableValue}
use Rattle.engine_world.specs.World.{Job, Jobs, World}
use Rattle.engine_world.specs.Moves.{table_job, table_jobs}
use Rattle.engine_world.specs.Steps.{queued}
use Rattle.engine_world.specs.Rooms.{quota_sum}
use Rattle.engine_core.proofs.Finding.{len-map_values, unused_job, zero_more}
use Rattle.engine_core.proofs.MovedMaps.{moved_insert}
use Rattle.engine_core.proofs.tables.Tables.queue.Goals as goal

pub add-job-requires-clause-room : goal.add-job-requires-clause-room
add-job-requires-clause-room c =
    let fits = c.rooms_suffice.ensures c.args.self.now c.requires.order.known c.requires.order.sound c.requires.order.within in
    let few : len c.self.inside.live.value ≤ quota_sum c.self.inside.quotas.items + length c.self.inside.quotas.items =
    subst (λ (w : World). len w.jobs ≤ quota_sum w.limits.quotas + length w.limits.quotas) (sym c.self.view_is) fits.jobs in
    omega (arith, few, ap len c.self.invariant.jobs, len-map_values table_job c.self.inside.live.value, c.self.invariant.jobs_room)

pub invariant_of-self : goal.invariant_of-self
invariant_of-self c =
    let live = c.self.inside.live.value in
    let unused = unused_job c.self.inside c.args.self.now c.requires.order.known c.self.view_is c.requires.order.sound in
    let same : c.update_snapshot.new._shot.value ≡ insert live c.self.inside.jobs.added (queued c.args.spec) =
    c.update_snapshot.ensures ∙ ap (λ n. insert live n (queued c.of-wanted.result.value)) c.add-job.ensures.number ∙ ap (λ s. insert live c.self.inside.jobs.added (queued s)) c.of-wanted.ensures in
    record {
      jobs = ap (λ (v : JobTableValue). v.jobs) c.add-job.ensures.added ∙ ap (λ m. insert m c.self.inside.jobs.added (table_job (queued c.args.spec))) c.self.invariant.jobs
          ∙ sym (moved_insert nat_cmp_total nat_cmp-IsAntisymmetric table_job live c.self.inside.jobs.added (queued c.args.spec)) ∙ sym (ap table_jobs same);
      out = c.self.invariant.out ∙ sym (ap (λ (m : Jobs). total (λ j job. length job.out) m) same
          ∙ total-insert_new nat_cmp_total nat_cmp-IsAntisymmetric (λ j (job : Job). length job.out) live c.self.inside.jobs.added (queued c.args.spec) unused ∙ zero_more (total (λ j (job : Job). length job.out) live));
      counts = c.self.invariant.counts;
      sizes = c.self.invariant.sizes;
      seats = c.self.invariant.seats;
      loads_room = c.self.invariant.loads_room;
      jobs_room = ap (λ (v : JobTableValue). v.room) c.add-job.ensures.added ∙ c.self.invariant.jobs_room;
      resources_room = c.self.invariant.resources_room;
      active_room = c.self.invariant.active_room;
    }
