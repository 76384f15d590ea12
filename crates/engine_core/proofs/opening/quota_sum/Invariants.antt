use Rattle.std.proofs.Common.{◌≡◌, ◌≤◌, take, sum_by}
use Rattle.engine_core.proofs.opening.quota_sum.Given as goal

abbrev pub invariant-loop-quota : goal.invariant-loop-quota
invariant-loop-quota l = (l.sum ≡ sum_by (λ quota. quota) (take l.quota-index l.quotas)) × (l.sum ≤ 8192)
