use Rattle.std.proofs.Common.{◌≡◌, ℕ, true, false, cond, Some, refl, ap, sym, ◌∙◌, arith}
use Rattle.std.specs.Prelude.{is_some, slice_get}
use Rattle.std.specs.FinMap.{get, remove}
use Rattle.std.proofs.lemmas.Option.{slice_get_within}
use Rattle.finite_maps.specs.Maps.{modify}
use Rattle.job_table.specs.declared.jobs.Job.{Job}
use Rattle.job_table.specs.Jobs.{Jobs, JobTableValue, marked, queued_in, after_cancel}
use Rattle.job_table.specs.JobTableView.{jobs_of}
use Rattle.job_table.proofs.Edits.{stands, read_is, queued_is, changed_at, marked_wanted, removed_at}
use Rattle.job_table.proofs.jobs.JobTable.cancel.Goals as goal

pub index-requires : goal.index-requires
index-requires c =
    let at : (job : Job) × (get (jobs_of c.self.inside) c.args.job ≡ Some job) × (slice_get c.self.inside.jobs.items c.place_of-place.result ≡ Some (c.args.job, job)) =
    stands c.self.inside c.self.invariant c.args.self.now c.args.job c.place_of-place.result c.deref.result.now c.self.view_is c.deref.ensures.value c.place_of-place.ensures c.requires in
    omega (arith, slice_get_within c.self.inside.jobs.items c.place_of-place.result (c.args.job, at.0) at.2, c.self.inside.jobs.ok)

pub remove-requires : goal.remove-requires
remove-requires c =
    let at : (job : Job) × (get (jobs_of c.self.inside) c.args.job ≡ Some job) × (slice_get c.self.inside.jobs.items c.place_of-place.result ≡ Some (c.args.job, job)) =
    stands c.self.inside c.self.invariant c.args.self.now c.args.job c.place_of-place.result c.deref.result.now c.self.view_is c.deref.ensures.value c.place_of-place.ensures c.requires in
    omega (arith, slice_get_within c.self.inside.jobs.items c.place_of-place.result (c.args.job, at.0) at.2, c.self.inside.jobs.ok)

pub index_mut-requires : goal.index_mut-requires
index_mut-requires c =
    let at : (job : Job) × (get (jobs_of c.self.inside) c.args.job ≡ Some job) × (slice_get c.self.inside.jobs.items c.place_of-place.result ≡ Some (c.args.job, job)) =
    stands c.self.inside c.self.invariant c.args.self.now c.args.job c.place_of-place.result c.deref.result.now c.self.view_is c.deref.ensures.value c.place_of-place.ensures c.requires in
    omega (arith, slice_get_within c.self.inside.jobs.items c.place_of-place.result (c.args.job, at.0) at.2, c.self.inside.jobs.ok)

pub invariant_of-self : goal.invariant_of-self
invariant_of-self c =
    let at : (job : Job) × (get (jobs_of c.self.inside) c.args.job ≡ Some job) × (slice_get c.self.inside.jobs.items c.place_of-place.result ≡ Some (c.args.job, job)) =
    stands c.self.inside c.self.invariant c.args.self.now c.args.job c.place_of-place.result c.deref.result.now c.self.view_is c.deref.ensures.value c.place_of-place.ensures c.requires in
    let k = removed_at c.self.inside c.self.invariant c.args.job c.place_of-place.result at.0 c.remove.new.self.items at.2 c.remove.ensures.items in
    record { sorted = k.sorted; below = k.below; few = k.few; reserved = omega (arith, c.self.invariant.reserved, c.remove.ensures.capacity); one = k.one }

pub invariant_of-self-else-queued : goal.invariant_of-self-else-queued
invariant_of-self-else-queued c =
    let at : (job : Job) × (get (jobs_of c.self.inside) c.args.job ≡ Some job) × (slice_get c.self.inside.jobs.items c.place_of-place.result ≡ Some (c.args.job, job)) =
    stands c.self.inside c.self.invariant c.args.self.now c.args.job c.place_of-place.result c.deref.result.now c.self.view_is c.deref.ensures.value c.place_of-place.ensures c.requires in
    let k = changed_at c.self.inside c.self.invariant c.args.job c.place_of-place.result at.0 c.index_mut.result.now marked at.1 at.2 c.index_mut.ensures.value (λ j. refl) marked_wanted in
    record { sorted = k.sorted; below = k.below; few = k.few; reserved = c.self.invariant.reserved; one = k.one }

pub returns-then-queued-clause-queued : goal.returns-then-queued-clause-queued
returns-then-queued-clause-queued c =
    let at : (job : Job) × (get (jobs_of c.self.inside) c.args.job ≡ Some job) × (slice_get c.self.inside.jobs.items c.place_of-place.result ≡ Some (c.args.job, job)) =
    stands c.self.inside c.self.invariant c.args.self.now c.args.job c.place_of-place.result c.deref.result.now c.self.view_is c.deref.ensures.value c.place_of-place.ensures c.requires in
    let is : c.index.result.now ≡ (c.args.job, at.0) = read_is c.self.inside.jobs.items c.place_of-place.result c.args.job at.0 c.index.result.now at.2 c.index.ensures in
    queued_is (jobs_of c.self.inside) c.args.job at.0 c.is_none-queued.result at.1 (sym (ap (λ (e : ℕ × Job). is_some e.1.seat) is) ∙ c.is_none-queued.ensures)
    ∙ ap (λ (v : JobTableValue). queued_in v.jobs c.args.job) c.self.view_is

pub returns-else-queued-clause-queued : goal.returns-else-queued-clause-queued
returns-else-queued-clause-queued c =
    let at : (job : Job) × (get (jobs_of c.self.inside) c.args.job ≡ Some job) × (slice_get c.self.inside.jobs.items c.place_of-place.result ≡ Some (c.args.job, job)) =
    stands c.self.inside c.self.invariant c.args.self.now c.args.job c.place_of-place.result c.deref.result.now c.self.view_is c.deref.ensures.value c.place_of-place.ensures c.requires in
    let is : c.index.result.now ≡ (c.args.job, at.0) = read_is c.self.inside.jobs.items c.place_of-place.result c.args.job at.0 c.index.result.now at.2 c.index.ensures in
    queued_is (jobs_of c.self.inside) c.args.job at.0 c.is_none-queued.result at.1 (sym (ap (λ (e : ℕ × Job). is_some e.1.seat) is) ∙ c.is_none-queued.ensures)
    ∙ ap (λ (v : JobTableValue). queued_in v.jobs c.args.job) c.self.view_is

pub returns-then-queued-clause-cancelled : goal.returns-then-queued-clause-cancelled
returns-then-queued-clause-cancelled c =
    let at : (job : Job) × (get (jobs_of c.self.inside) c.args.job ≡ Some job) × (slice_get c.self.inside.jobs.items c.place_of-place.result ≡ Some (c.args.job, job)) =
    stands c.self.inside c.self.invariant c.args.self.now c.args.job c.place_of-place.result c.deref.result.now c.self.view_is c.deref.ensures.value c.place_of-place.ensures c.requires in
    let is : c.index.result.now ≡ (c.args.job, at.0) = read_is c.self.inside.jobs.items c.place_of-place.result c.args.job at.0 c.index.result.now at.2 c.index.ensures in
    let queued : queued_in (jobs_of c.self.inside) c.args.job ≡ true = sym (queued_is (jobs_of c.self.inside) c.args.job at.0 c.is_none-queued.result at.1 (sym (ap (λ (e : ℕ × Job). is_some e.1.seat) is) ∙ c.is_none-queued.ensures)) ∙ c.if-queued.true in
    let k = removed_at c.self.inside c.self.invariant c.args.job c.place_of-place.result at.0 c.remove.new.self.items at.2 c.remove.ensures.items in
    ap (λ (j : Jobs). record { room = c.self.inside.room; added = c.self.inside.added; jobs = j })
    (k.is ∙ sym (ap (λ b. cond b (remove (jobs_of c.self.inside) c.args.job) (modify (jobs_of c.self.inside) c.args.job marked)) queued))
    ∙ ap (λ (v : JobTableValue). record v { jobs = after_cancel v.jobs c.args.job }) c.self.view_is

pub returns-else-queued-clause-cancelled : goal.returns-else-queued-clause-cancelled
returns-else-queued-clause-cancelled c =
    let at : (job : Job) × (get (jobs_of c.self.inside) c.args.job ≡ Some job) × (slice_get c.self.inside.jobs.items c.place_of-place.result ≡ Some (c.args.job, job)) =
    stands c.self.inside c.self.invariant c.args.self.now c.args.job c.place_of-place.result c.deref.result.now c.self.view_is c.deref.ensures.value c.place_of-place.ensures c.requires in
    let is : c.index.result.now ≡ (c.args.job, at.0) = read_is c.self.inside.jobs.items c.place_of-place.result c.args.job at.0 c.index.result.now at.2 c.index.ensures in
    let queued : queued_in (jobs_of c.self.inside) c.args.job ≡ false = sym (queued_is (jobs_of c.self.inside) c.args.job at.0 c.is_none-queued.result at.1 (sym (ap (λ (e : ℕ × Job). is_some e.1.seat) is) ∙ c.is_none-queued.ensures)) ∙ c.if-queued.false in
    let k = changed_at c.self.inside c.self.invariant c.args.job c.place_of-place.result at.0 c.index_mut.result.now marked at.1 at.2 c.index_mut.ensures.value (λ j. refl) marked_wanted in
    ap (λ (j : Jobs). record { room = c.self.inside.room; added = c.self.inside.added; jobs = j })
    (k.is ∙ sym (ap (λ b. cond b (remove (jobs_of c.self.inside) c.args.job) (modify (jobs_of c.self.inside) c.args.job marked)) queued))
    ∙ ap (λ (v : JobTableValue). record v { jobs = after_cancel v.jobs c.args.job }) c.self.view_is
