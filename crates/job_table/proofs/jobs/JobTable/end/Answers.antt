use Rattle.std.proofs.Common.{◌≡◌, ℕ, Some, ap, sym, ◌∙◌, arith}
use Rattle.std.specs.Prelude.{slice_get}
use Rattle.std.specs.Option.{option_map}
use Rattle.std.specs.FinMap.{get, remove}
use Rattle.std.proofs.lemmas.Option.{slice_get_within}
use Rattle.job_table.specs.declared.jobs.Job.{Job}
use Rattle.job_table.specs.Jobs.{Jobs, JobTableValue}
use Rattle.job_table.specs.JobTableView.{jobs_of}
use Rattle.job_table.proofs.Edits.{stands, read_is, removed_at}
use Rattle.job_table.proofs.jobs.JobTable.end.Goals as goal

pub remove-live-requires : goal.remove-live-requires
remove-live-requires c =
    let at : (job : Job) × (get (jobs_of c.self.inside) c.args.job ≡ Some job) × (slice_get c.self.inside.jobs.items c.place_of-place.result ≡ Some (c.args.job, job)) =
    stands c.self.inside c.self.invariant c.args.self.now c.args.job c.place_of-place.result c.deref.result.now c.self.view_is c.deref.ensures.value c.place_of-place.ensures c.requires in
    omega (arith, slice_get_within c.self.inside.jobs.items c.place_of-place.result (c.args.job, at.0) at.2, c.self.inside.jobs.ok)

pub invariant_of-self : goal.invariant_of-self
invariant_of-self c =
    let at : (job : Job) × (get (jobs_of c.self.inside) c.args.job ≡ Some job) × (slice_get c.self.inside.jobs.items c.place_of-place.result ≡ Some (c.args.job, job)) =
    stands c.self.inside c.self.invariant c.args.self.now c.args.job c.place_of-place.result c.deref.result.now c.self.view_is c.deref.ensures.value c.place_of-place.ensures c.requires in
    let k = removed_at c.self.inside c.self.invariant c.args.job c.place_of-place.result at.0 c.remove-live.new.self.items at.2 c.remove-live.ensures.items in
    record { sorted = k.sorted; below = k.below; few = k.few; reserved = omega (arith, c.self.invariant.reserved, c.remove-live.ensures.capacity); one = k.one }

pub returns-clause-spec : goal.returns-clause-spec
returns-clause-spec c =
    let at : (job : Job) × (get (jobs_of c.self.inside) c.args.job ≡ Some job) × (slice_get c.self.inside.jobs.items c.place_of-place.result ≡ Some (c.args.job, job)) =
    stands c.self.inside c.self.invariant c.args.self.now c.args.job c.place_of-place.result c.deref.result.now c.self.view_is c.deref.ensures.value c.place_of-place.ensures c.requires in
    let is : c.remove-live.result ≡ (c.args.job, at.0) = read_is c.self.inside.jobs.items c.place_of-place.result c.args.job at.0 c.remove-live.result at.2 c.remove-live.ensures.value in
    ap (λ (v : JobTableValue). option_map (λ (j : Job). j.spec) (get v.jobs c.args.job)) (sym c.self.view_is) ∙ ap (option_map (λ (j : Job). j.spec)) at.1
    ∙ sym (ap (λ (e : ℕ × Job). Some e.1.spec) is)

pub returns-clause-gone : goal.returns-clause-gone
returns-clause-gone c =
    let at : (job : Job) × (get (jobs_of c.self.inside) c.args.job ≡ Some job) × (slice_get c.self.inside.jobs.items c.place_of-place.result ≡ Some (c.args.job, job)) =
    stands c.self.inside c.self.invariant c.args.self.now c.args.job c.place_of-place.result c.deref.result.now c.self.view_is c.deref.ensures.value c.place_of-place.ensures c.requires in
    let k = removed_at c.self.inside c.self.invariant c.args.job c.place_of-place.result at.0 c.remove-live.new.self.items at.2 c.remove-live.ensures.items in
    ap (λ (j : Jobs). record { room = c.self.inside.room; added = c.self.inside.added; jobs = j }) k.is
    ∙ ap (λ (v : JobTableValue). record v { jobs = remove v.jobs c.args.job }) c.self.view_is
