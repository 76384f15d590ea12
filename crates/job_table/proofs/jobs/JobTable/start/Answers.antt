use Rattle.std.proofs.Common.{◌≡◌, ℕ, Some, refl, ap, sym, ◌∙◌, arith}
use Rattle.std.specs.Prelude.{slice_get}
use Rattle.std.specs.Option.{option_map}
use Rattle.std.specs.FinMap.{get}
use Rattle.std.proofs.lemmas.Option.{slice_get_within}
use Rattle.finite_maps.specs.Maps.{modify}
use Rattle.job_table.specs.declared.jobs.Job.{Job}
use Rattle.job_table.specs.Jobs.{Jobs, JobTableValue, run_on}
use Rattle.job_table.specs.JobTableView.{jobs_of}
use Rattle.job_table.proofs.Edits.{stands, read_is, queued_live, changed_at}
use Rattle.job_table.proofs.jobs.JobTable.start.Goals as goal

pub index-requires : goal.index-requires
index-requires c =
    let at : (job : Job) × (get (jobs_of c.self.inside) c.args.job ≡ Some job) × (slice_get c.self.inside.jobs.items c.place_of-place.result ≡ Some (c.args.job, job)) =
    stands c.self.inside c.self.invariant c.args.self.now c.args.job c.place_of-place.result c.deref.result.now c.self.view_is c.deref.ensures.value c.place_of-place.ensures
    (queued_live c.args.self.now.jobs c.args.job c.requires) in
    omega (arith, slice_get_within c.self.inside.jobs.items c.place_of-place.result (c.args.job, at.0) at.2, c.self.inside.jobs.ok)

pub index_mut-requires : goal.index_mut-requires
index_mut-requires c =
    let at : (job : Job) × (get (jobs_of c.self.inside) c.args.job ≡ Some job) × (slice_get c.self.inside.jobs.items c.place_of-place.result ≡ Some (c.args.job, job)) =
    stands c.self.inside c.self.invariant c.args.self.now c.args.job c.place_of-place.result c.deref.result.now c.self.view_is c.deref.ensures.value c.place_of-place.ensures
    (queued_live c.args.self.now.jobs c.args.job c.requires) in
    omega (arith, slice_get_within c.self.inside.jobs.items c.place_of-place.result (c.args.job, at.0) at.2, c.self.inside.jobs.ok)

pub invariant_of-self : goal.invariant_of-self
invariant_of-self c =
    let at : (job : Job) × (get (jobs_of c.self.inside) c.args.job ≡ Some job) × (slice_get c.self.inside.jobs.items c.place_of-place.result ≡ Some (c.args.job, job)) =
    stands c.self.inside c.self.invariant c.args.self.now c.args.job c.place_of-place.result c.deref.result.now c.self.view_is c.deref.ensures.value c.place_of-place.ensures
    (queued_live c.args.self.now.jobs c.args.job c.requires) in
    let k = changed_at c.self.inside c.self.invariant c.args.job c.place_of-place.result at.0 c.index_mut.result.now (run_on c.args.seat) at.1 at.2 c.index_mut.ensures.value (λ j. refl) (λ j w. w) in
    record { sorted = k.sorted; below = k.below; few = k.few; reserved = c.self.invariant.reserved; one = k.one }

pub returns-clause-started : goal.returns-clause-started
returns-clause-started c =
    let at : (job : Job) × (get (jobs_of c.self.inside) c.args.job ≡ Some job) × (slice_get c.self.inside.jobs.items c.place_of-place.result ≡ Some (c.args.job, job)) =
    stands c.self.inside c.self.invariant c.args.self.now c.args.job c.place_of-place.result c.deref.result.now c.self.view_is c.deref.ensures.value c.place_of-place.ensures
    (queued_live c.args.self.now.jobs c.args.job c.requires) in
    let k = changed_at c.self.inside c.self.invariant c.args.job c.place_of-place.result at.0 c.index_mut.result.now (run_on c.args.seat) at.1 at.2 c.index_mut.ensures.value (λ j. refl) (λ j w. w) in
    ap (λ (j : Jobs). record { room = c.self.inside.room; added = c.self.inside.added; jobs = j }) k.is
    ∙ ap (λ (v : JobTableValue). record v { jobs = modify v.jobs c.args.job (run_on c.args.seat) }) c.self.view_is

pub returns-clause-copied : goal.returns-clause-copied
returns-clause-copied c =
    let at : (job : Job) × (get (jobs_of c.self.inside) c.args.job ≡ Some job) × (slice_get c.self.inside.jobs.items c.place_of-place.result ≡ Some (c.args.job, job)) =
    stands c.self.inside c.self.invariant c.args.self.now c.args.job c.place_of-place.result c.deref.result.now c.self.view_is c.deref.ensures.value c.place_of-place.ensures
    (queued_live c.args.self.now.jobs c.args.job c.requires) in
    let is : c.index.result.now ≡ (c.args.job, at.0) = read_is c.self.inside.jobs.items c.place_of-place.result c.args.job at.0 c.index.result.now at.2 c.index.ensures in
    ap (λ (v : JobTableValue). option_map (λ (j : Job). j.spec) (get v.jobs c.args.job)) (sym c.self.view_is) ∙ ap (option_map (λ (j : Job). j.spec)) at.1
    ∙ sym (ap Some c.fill.ensures ∙ ap (λ (e : ℕ × Job). Some e.1.spec) is)
