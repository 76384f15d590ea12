use Rattle.std.proofs.Common.{◌≡◌, ℕ, ◌-◌, ◌≤◌, length, refl, ap, sym, ◌∙◌, arith}
use Rattle.std.specs.FinMap.{get, nat_cmp-IsAntisymmetric}
use Rattle.std.proofs.lemmas.Cmp.{nat_cmp_total}
use Rattle.finite_maps.specs.Maps.{total, modify}
use Rattle.finite_maps.specs.MapLaws.{le-total}
use Rattle.engine_world.specs.World.{Job, Jobs, World}
use Rattle.engine_world.specs.Moves.{table_job, table_jobs, take_back}
use Rattle.engine_core.specs.LiveJobs.{less_lent}
use Rattle.engine_core.proofs.MovedMaps.{moved_same}
use Rattle.engine_core.proofs.Joins.{live_in, out_changed}
use Rattle.engine_core.proofs.Lending.{taken_back_is}
use Rattle.engine_core.proofs.tables.Tables.take_back.Goals as goal

pub overflow_sub-self : goal.overflow_sub-self
overflow_sub-self c =
    let is = live_in c.self.inside c.args.self.now c.args.job c.self.view_is c.requires.live in
    let most : length c.requires.live.job.out ≤ total (λ (j : ℕ) (job : Job). length job.out) c.self.inside.live.value =
    le-total nat_cmp_total nat_cmp-IsAntisymmetric (λ j job. length job.out) c.self.inside.live.value c.args.job c.requires.live.job is in
    let one = c.requires.lent c.requires.live.job c.requires.live.there in
    omega (arith, most, one, c.self.invariant.out)

pub invariant_of-self : goal.invariant_of-self
invariant_of-self c =
    let is = live_in c.self.inside c.args.self.now c.args.job c.self.view_is c.requires.live in
    let changed = out_changed c.self.inside.live.value c.args.job c.requires.live.job (less_lent c.args.number) is in
    let one = c.requires.lent c.requires.live.job c.requires.live.there in
    let less : c.self.inside.out - 1 ≡ total (λ (j : ℕ) (job : Job). length job.out) (modify c.self.inside.live.value c.args.job (less_lent c.args.number)) =
    omega (arith, changed, one, c.self.invariant.out) in
    record {
      jobs = c.self.invariant.jobs ∙ sym (moved_same nat_cmp_total nat_cmp-IsAntisymmetric table_job c.self.inside.live.value c.args.job c.requires.live.job (less_lent c.args.number) is refl)
          ∙ sym (ap table_jobs c.update_snapshot.ensures);
      out = less ∙ sym (ap (λ (m : Jobs). total (λ j job. length job.out) m) c.update_snapshot.ensures);
      counts = c.self.invariant.counts;
      sizes = c.self.invariant.sizes;
      seats = c.self.invariant.seats;
      loads_room = c.self.invariant.loads_room;
      jobs_room = c.self.invariant.jobs_room;
      resources_room = c.self.invariant.resources_room;
      active_room = c.self.invariant.active_room;
    }

pub returns : goal.returns
returns c =
    taken_back_is c.self.inside c.args.job c.requires.live.job c.args.number c.update_snapshot.new._shot.value (live_in c.self.inside c.args.self.now c.args.job c.self.view_is c.requires.live) c.update_snapshot.ensures
    ∙ ap (λ (w : World). take_back c.args.job (get w.jobs c.args.job) c.args.number w) c.self.view_is
