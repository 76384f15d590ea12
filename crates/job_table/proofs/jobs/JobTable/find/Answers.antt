use Rattle.std.proofs.Common.{ℕ, Bool, ap, sym, subst, ◌∙◌}
use Rattle.std.proofs.lemmas.Cmp.{nat_cmp_total}
use Rattle.std.specs.FinMap.{nat_cmp-IsAntisymmetric}
use Rattle.finite_maps.specs.Maps.{first_in}
use Rattle.finite_maps.specs.SortedEntries.{first_key-sorted}
use Rattle.job_table.specs.declared.jobs.Job.{Job}
use Rattle.job_table.specs.Jobs.{JobTableValue, serves, job_for}
use Rattle.job_table.specs.JobTableView.{OneOfEach}
use Rattle.job_table.proofs.Looking.{job_for-is, job_for-none}
use Rattle.job_table.proofs.jobs.JobTable.find.Goals as goal

value : goal.returns-clause-value
value c =
    let p : ℕ → Job → Bool = λ number job. serves c.args.key.now c.args.cached job in
    c.first_serving.ensures ∙ ap (first_in p) c.deref.ensures.value
    ∙ sym (first_key-sorted nat_cmp_total nat_cmp-IsAntisymmetric c.self.inside.jobs.items c.self.invariant.sorted p)
    ∙ ap (λ (v : JobTableValue). job_for c.args.key.now c.args.cached v.jobs) c.self.view_is

pub returns-clause-value : goal.returns-clause-value
returns-clause-value c = value c

pub returns-clause-it : goal.returns-clause-it
returns-clause-it c = λ number.
    let one = subst (λ (v : JobTableValue). OneOfEach v.jobs) c.self.view_is c.self.invariant.one in
    let law = job_for-is c.same_key_is_equality.ensures c.args.key.now c.args.cached c.args.self.now.jobs one number in
    (λ is. law.0 (sym (value c) ∙ is), λ it. value c ∙ law.1 it)

pub returns-clause-none : goal.returns-clause-none
returns-clause-none c =
    let law = job_for-none c.same_key_is_equality.ensures c.args.key.now c.args.cached c.args.self.now.jobs in
    (λ is. law.0 (sym (value c) ∙ is), λ nobody. value c ∙ law.1 nobody)
