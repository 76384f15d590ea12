use Rattle.std.proofs.Common.{◌≡◌, ℕ, Some, ap, sym, ◌∙◌, arith}
use Rattle.std.specs.Prelude.{slice_get}
use Rattle.std.specs.Option.{option_map}
use Rattle.std.specs.FinMap.{get}
use Rattle.std.proofs.lemmas.Option.{slice_get_within}
use Rattle.job_table.specs.declared.jobs.Job.{Job}
use Rattle.job_table.specs.Jobs.{JobTableValue}
use Rattle.job_table.specs.JobTableView.{jobs_of}
use Rattle.job_table.proofs.Edits.{stands, read_is}
use Rattle.job_table.proofs.jobs.JobTable.is_cancelled.Goals as goal

pub index-requires : goal.index-requires
index-requires c =
    let at : (job : Job) × (get (jobs_of c.self.inside) c.args.job ≡ Some job) × (slice_get c.self.inside.jobs.items c.place_of-place.result ≡ Some (c.args.job, job)) =
    stands c.self.inside c.self.invariant c.args.self.now c.args.job c.place_of-place.result c.deref.result.now c.self.view_is c.deref.ensures.value c.place_of-place.ensures c.requires in
    omega (arith, slice_get_within c.self.inside.jobs.items c.place_of-place.result (c.args.job, at.0) at.2, c.self.inside.jobs.ok)

pub returns : goal.returns
returns c =
    let at : (job : Job) × (get (jobs_of c.self.inside) c.args.job ≡ Some job) × (slice_get c.self.inside.jobs.items c.place_of-place.result ≡ Some (c.args.job, job)) =
    stands c.self.inside c.self.invariant c.args.self.now c.args.job c.place_of-place.result c.deref.result.now c.self.view_is c.deref.ensures.value c.place_of-place.ensures c.requires in
    let is : c.index.result.now ≡ (c.args.job, at.0) = read_is c.self.inside.jobs.items c.place_of-place.result c.args.job at.0 c.index.result.now at.2 c.index.ensures in
    ap (λ (v : JobTableValue). option_map (λ (j : Job). j.cancelled) (get v.jobs c.args.job)) (sym c.self.view_is) ∙ ap (option_map (λ (j : Job). j.cancelled)) at.1
    ∙ sym (ap (λ (e : ℕ × Job). Some e.1.cancelled) is)
