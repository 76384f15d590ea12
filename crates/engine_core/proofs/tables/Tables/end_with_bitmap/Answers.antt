use Rattle.std.proofs.Common.{◌≡◌, ℕ, ◌-◌, length, ap, sym, ◌∙◌, arith}
use Rattle.std.specs.Prelude.{is_some}
use Rattle.std.specs.Option.{option_map}
use Rattle.std.specs.FinMap.{remove}
use Rattle.finite_maps.specs.Maps.{total}
use Rattle.job_table.specs.declared.jobs.Job.{Job as TableJob}
use Rattle.job_table.specs.Jobs.{JobTableValue}
use Rattle.engine_world.specs.World.{Job, Jobs}
use Rattle.engine_world.specs.Moves.{table_jobs}
use Rattle.engine_core.proofs.Joins.{tabled, live_in, jobs_ended}
use Rattle.engine_core.proofs.Lending.{out_less}
use Rattle.engine_core.proofs.tables.Tables.end_with_bitmap.Goals as goal

pub overflow_sub-self : goal.overflow_sub-self
overflow_sub-self c =
    let less = out_less c.self.inside.live.value c.args.job c.requires.live.job (live_in c.self.inside c.args.self.now c.args.job c.self.view_is c.requires.live) (c.requires.one c.requires.live.job c.requires.live.there) in
    omega (arith, less, c.self.invariant.out)

pub end-requires : goal.end-requires
end-requires c = ap is_some (tabled c.self.inside c.args.self.now c.args.job c.self.invariant c.self.view_is c.requires.live)

pub invariant_of-self : goal.invariant_of-self
invariant_of-self c =
    let less = out_less c.self.inside.live.value c.args.job c.requires.live.job (live_in c.self.inside c.args.self.now c.args.job c.self.view_is c.requires.live) (c.requires.one c.requires.live.job c.requires.live.there) in
    let out : c.self.inside.out - 1 ≡ total (λ (j : ℕ) (job : Job). length job.out) (remove c.self.inside.live.value c.args.job) = omega (arith, less, c.self.invariant.out) in
    record {
      jobs = ap (λ (v : JobTableValue). v.jobs) c.end.ensures.gone ∙ ap (λ m. remove m c.args.job) c.self.invariant.jobs ∙ jobs_ended c.self.inside.live.value c.args.job
          ∙ sym (ap table_jobs c.update_snapshot.ensures);
      out = out ∙ sym (ap (λ (m : Jobs). total (λ j job. length job.out) m) c.update_snapshot.ensures);
      counts = c.self.invariant.counts;
      sizes = c.self.invariant.sizes;
      seats = c.self.invariant.seats;
      loads_room = c.self.invariant.loads_room;
      jobs_room = ap (λ (v : JobTableValue). v.room) c.end.ensures.gone ∙ c.self.invariant.jobs_room;
      resources_room = c.self.invariant.resources_room;
      active_room = c.self.invariant.active_room;
    }

pub returns-clause-spec : goal.returns-clause-spec
returns-clause-spec c =
    ap (option_map (λ (live : Job). live.spec)) c.requires.live.there
    ∙ sym (ap (option_map (λ (live : TableJob). live.spec)) (tabled c.self.inside c.args.self.now c.args.job c.self.invariant c.self.view_is c.requires.live))
    ∙ c.end.ensures.spec
