use Rattle.std.proofs.Common.{sym, ◌∙◌}
use Rattle.finite_maps.specs.Walks.{first_in-here}
use Rattle.job_table.specs.Jobs.{serves}
use Rattle.job_table.proofs.jobs.first_serving.Goals as goal

pub returns-then-serves : goal.returns-then-serves
returns-then-serves c =
    let passes = sym c.serves.ensures ∙ c.if-serves.true in
    sym (first_in-here (λ number job. serves c.args.key.now c.args.cached job) c.args.jobs.now c.loop-entry.entry-index c.entry-item.result c.loop-entry-test.true c.entry-item.is passes) ∙ c.loop-entry.invariant
