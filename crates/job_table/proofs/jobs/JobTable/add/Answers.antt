use Rattle.std.proofs.Common.{◌≡◌, ℕ, ◌+◌, ◌<◌, ◌++◌, [], ◌∷◌, cond, List, length, None, ap, sym, subst, ◌∙◌, arith}
use Rattle.std.specs.FinMap.{len, insert, nat_cmp-IsAntisymmetric}
use Rattle.std.proofs.lemmas.Cmp.{nat_cmp_total}
use Rattle.finite_maps.specs.SortedEntries.{len-sorted}
use Rattle.job_table.specs.declared.jobs.Job.{Job}
use Rattle.job_table.specs.Jobs.{Jobs, JobTableValue, queued_job, job_for}
use Rattle.job_table.specs.JobTableView.{jobs_of}
use Rattle.job_table.proofs.Edits.{Kept, kept-added}
use Rattle.job_table.proofs.jobs.JobTable.add.Goals as goal

fits : (c : goal.After-self-1) → length c.self.inside.jobs.items < c.self.inside.room
fits c =
    let room : len (jobs_of c.self.inside) < c.self.inside.room = subst (λ (v : JobTableValue). len v.jobs < v.room) (sym c.self.view_is) c.requires.room in
    let size : len (jobs_of c.self.inside) ≡ length c.self.inside.jobs.items = len-sorted nat_cmp_total nat_cmp-IsAntisymmetric c.self.inside.jobs.items c.self.invariant.sorted in
    omega (arith, room, size)

kept : (c : goal.After-self-1) → Kept c.push.new.self.items (insert (jobs_of c.self.inside) c.self.inside.added (queued_job c.args.spec)) (c.self.inside.added + 1) c.self.inside.room
kept c =
    let es : List (ℕ × Job) = c.self.inside.jobs.items in
    let fit = fits c in
    let ok = c.push.ensures.succeeds (omega (arith, fit, c.self.invariant.reserved, c.self.inside.jobs.ok)) in
    let pushed : c.push.new.self.items ≡ es ++ (c.self.inside.added, queued_job c.args.spec) ∷ [] = c.push.ensures.items ∙ ap (λ b. cond b (es ++ (c.self.inside.added, queued_job c.args.spec) ∷ []) es) ok in
    let none : job_for c.args.spec.key c.args.spec.cached (jobs_of c.self.inside) ≡ None = subst (λ (v : JobTableValue). job_for c.args.spec.key c.args.spec.cached v.jobs ≡ None) (sym c.self.view_is) c.requires.none in
    subst (λ (l : List (ℕ × Job)). Kept l (insert (jobs_of c.self.inside) c.self.inside.added (queued_job c.args.spec)) (c.self.inside.added + 1) c.self.inside.room) (sym pushed)
    (kept-added c.self.inside c.self.invariant c.same_key_is_equality.ensures c.args.spec fit none)

pub invariant_of-self : goal.invariant_of-self
invariant_of-self c = let k = kept c in record { sorted = k.sorted; below = k.below; few = k.few; reserved = omega (arith, c.self.invariant.reserved, c.push.ensures.capacity); one = k.one }

pub returns-clause-added : goal.returns-clause-added
returns-clause-added c =
    ap (λ (j : Jobs). record { room = c.self.inside.room; added = c.self.inside.added + 1; jobs = j }) (kept c).is
    ∙ ap (λ (v : JobTableValue). record { room = v.room; added = v.added + 1; jobs = insert v.jobs v.added (queued_job c.args.spec) }) c.self.view_is
