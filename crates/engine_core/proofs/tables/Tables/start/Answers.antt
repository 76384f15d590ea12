use Rattle.std.proofs.Common.{◌≡◌, length, Some, refl, ap, sym, ◌∙◌, arith}
use Rattle.std.specs.Option.{option_map}
use Rattle.std.specs.FinMap.{get, nat_cmp-IsAntisymmetric}
use Rattle.std.proofs.lemmas.Cmp.{nat_cmp_total}
use Rattle.finite_maps.specs.Maps.{total, modify}
use Rattle.finite_maps.specs.MapLaws.{same_Some}
use Rattle.job_table.specs.Jobs.{JobTableValue}
use Rattle.engine_world.specs.declared.events.NotedReply.TheVariants as notes
use Rattle.engine_world.specs.World.{Jobs, World}
use Rattle.engine_world.specs.Moves.{table_job, table_jobs}
use Rattle.engine_world.specs.Steps.{run_on, start_job}
use Rattle.engine_core.proofs.MovedMaps.{moved_modify}
use Rattle.engine_core.proofs.Joins.{tabled, live_in, queued_live, out_changed, started_is}
use Rattle.engine_core.proofs.tables.Tables.start.Goals as goal

pub invariant_of-self : goal.invariant_of-self
invariant_of-self c =
    let live = queued_live c.args.self.now c.args.job c.requires in
    let is = live_in c.self.inside c.args.self.now c.args.job c.self.view_is live in
    let changed = out_changed c.self.inside.live.value c.args.job live.job (run_on c.args.who) is in
    record {
      jobs = ap (λ (v : JobTableValue). v.jobs) c.start.ensures.started ∙ ap (λ m. modify m c.args.job (Rattle.job_table.specs.Jobs.run_on c.args.who)) c.self.invariant.jobs
          ∙ sym (moved_modify nat_cmp_total nat_cmp-IsAntisymmetric table_job c.self.inside.live.value c.args.job live.job (run_on c.args.who) (Rattle.job_table.specs.Jobs.run_on c.args.who) is refl)
          ∙ sym (ap table_jobs c.update_snapshot.ensures);
      out = c.self.invariant.out ∙ (let same : total (λ j job. length job.out) c.self.inside.live.value ≡ total (λ j job. length job.out) (modify c.self.inside.live.value c.args.job (run_on c.args.who)) = omega (arith, changed) in same) ∙ sym (ap (λ (m : Jobs). total (λ j job. length job.out) m) c.update_snapshot.ensures);
      counts = c.self.invariant.counts;
      sizes = c.self.invariant.sizes;
      seats = c.self.invariant.seats;
      loads_room = c.self.invariant.loads_room;
      jobs_room = ap (λ (v : JobTableValue). v.room) c.start.ensures.started ∙ c.self.invariant.jobs_room;
      resources_room = c.self.invariant.resources_room;
      active_room = c.self.invariant.active_room;
    }

pub returns-clause-reply : goal.returns-clause-reply
returns-clause-reply c =
    let live = queued_live c.args.self.now c.args.job c.requires in
    let spec : Some c.start.new.room ≡ Some live.job.spec =
    sym c.start.ensures.copied ∙ ap (option_map (λ (job : Rattle.job_table.specs.declared.jobs.Job.Job). job.spec)) (tabled c.self.inside c.args.self.now c.args.job c.self.invariant c.self.view_is live) in
    ap (notes.Job c.args.job) (same_Some _ _ spec) ∙ sym (ap (λ v. (start_job c.args.self.now c.args.who c.args.job v).0) live.there)

pub returns-clause-left : goal.returns-clause-left
returns-clause-left c =
    let live = queued_live c.args.self.now c.args.job c.requires in
    started_is c.self.inside c.args.job c.args.who live.job c.start.new.self c.update_snapshot.new._shot.value (live_in c.self.inside c.args.self.now c.args.job c.self.view_is live)
    (ap (λ (v : JobTableValue). v.added) c.start.ensures.started) c.update_snapshot.ensures
    ∙ ap (λ (w : World). (start_job w c.args.who c.args.job (get w.jobs c.args.job)).1) c.self.view_is
