use Rattle.std.proofs.Common.{sym, ◌∙◌}
use Rattle.finite_maps.specs.Walks.{first_in-here}
use Rattle.job_table.specs.Jobs.{is_queued_at}
use Rattle.job_table.proofs.jobs.first_queued_at.Goals as goal

pub returns-then-is_queued_at : goal.returns-then-is_queued_at
returns-then-is_queued_at c =
    let passes = sym c.is_queued_at.ensures ∙ c.if-is_queued_at.true in
    sym (first_in-here (λ number job. is_queued_at c.args.priority job) c.args.jobs.now c.loop-entry.entry-index c.entry-item.result c.loop-entry-test.true c.entry-item.is passes) ∙ c.loop-entry.invariant
