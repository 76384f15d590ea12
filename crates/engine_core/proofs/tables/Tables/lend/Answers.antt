use Rattle.std.proofs.Common.{◌≡◌, ℕ, ◌+◌, [], ◌∷◌, length, length-append, refl, ap, sym, ◌∙◌, arith}
use Rattle.std.specs.FinMap.{get, nat_cmp-IsAntisymmetric}
use Rattle.std.proofs.lemmas.Cmp.{nat_cmp_total}
use Rattle.finite_maps.specs.Maps.{total, modify}
use Rattle.engine_world.specs.declared.events.Lent.{Lent}
use Rattle.engine_world.specs.World.{Job, Jobs, World}
use Rattle.engine_world.specs.Moves.{table_job, table_jobs, lend}
use Rattle.engine_world.specs.Balance.{out_count}
use Rattle.engine_core.specs.LiveJobs.{with_lent}
use Rattle.engine_core.proofs.MovedMaps.{moved_same}
use Rattle.engine_core.proofs.Joins.{live_in, out_changed}
use Rattle.engine_core.proofs.Lending.{lent_is}
use Rattle.engine_core.proofs.tables.Tables.lend.Goals as goal

pub overflow_add-self : goal.overflow_add-self
overflow_add-self c =
    let seen = ap (λ (w : World). out_count w) c.self.view_is in
    omega (arith, seen, c.self.invariant.out, c.requires.few)

pub invariant_of-self : goal.invariant_of-self
invariant_of-self c =
    let job : Job = c.requires.live.job in
    let lent : Lent = c.lent_by-lent.result in
    let is = live_in c.self.inside c.args.self.now c.args.job c.self.view_is c.requires.live in
    let changed = out_changed c.self.inside.live.value c.args.job job (with_lent lent) is in
    let more : c.self.inside.out + 1 ≡ total (λ (j : ℕ) (job : Job). length job.out) (modify c.self.inside.live.value c.args.job (with_lent lent)) =
    omega (arith, changed, c.self.invariant.out, length-append job.out (lent ∷ [])) in
    record {
      jobs = c.self.invariant.jobs ∙ sym (moved_same nat_cmp_total nat_cmp-IsAntisymmetric table_job c.self.inside.live.value c.args.job job (with_lent lent) is refl)
          ∙ sym (ap table_jobs c.update_snapshot.ensures);
      out = more ∙ sym (ap (λ (m : Jobs). total (λ j job. length job.out) m) c.update_snapshot.ensures);
      counts = c.self.invariant.counts;
      sizes = c.self.invariant.sizes;
      seats = c.self.invariant.seats;
      loads_room = c.self.invariant.loads_room;
      jobs_room = c.self.invariant.jobs_room;
      resources_room = c.self.invariant.resources_room;
      active_room = c.self.invariant.active_room;
    }

pub returns : goal.returns
returns c =
    lent_is c.self.inside c.args.job c.requires.live.job c.lent_by-lent.result c.update_snapshot.new._shot.value (live_in c.self.inside c.args.self.now c.args.job c.self.view_is c.requires.live) c.update_snapshot.ensures
    ∙ ap (λ (w : World). lend c.args.job (get w.jobs c.args.job) c.lent_by-lent.result w) c.self.view_is
    ∙ ap (λ lent. lend c.args.job (get c.args.self.now.jobs c.args.job) lent c.args.self.now) c.lent_by-lent.ensures
