use Rattle.std.proofs.Common.{ap, sym, ◌∙◌}
use Rattle.job_table.specs.Jobs.{JobTableValue, next_queued}
use Rattle.job_table.specs.inside.Entries.{next_among}
use Rattle.job_table.proofs.Looking.{next_queued-is, next_queued-none, next-sorted}
use Rattle.job_table.proofs.jobs.JobTable.next_queued.Goals as goal

value : goal.returns-clause-value
value c =
    c.first_queued.ensures ∙ ap next_among c.deref.ensures.value ∙ sym (next-sorted c.self.inside.jobs.items c.self.invariant.sorted)
    ∙ ap (λ (v : JobTableValue). next_queued v.jobs) c.self.view_is

pub returns-clause-value : goal.returns-clause-value
returns-clause-value c = value c

pub returns-clause-it : goal.returns-clause-it
returns-clause-it c = λ number.
    let law = next_queued-is c.args.self.now.jobs number in
    (λ is. law.0 (sym (value c) ∙ is), λ it. value c ∙ law.1 it)

pub returns-clause-none : goal.returns-clause-none
returns-clause-none c =
    let law = next_queued-none c.args.self.now.jobs in
    (λ is. law.0 (sym (value c) ∙ is), λ nobody. value c ∙ law.1 nobody)
