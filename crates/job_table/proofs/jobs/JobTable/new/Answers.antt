use Rattle.std.proofs.Common.{ℕ, ◌≤◌, List, length, ap, sym, subst, ◌∙◌, arith}
use Rattle.std.specs.Prelude.{T}
use Rattle.std.specs.Ordering.{nat_cmp}
use Rattle.std.specs.FinMap.{from_sorted, is_sorted}
use Rattle.finite_maps.specs.SortedEntries.{all_below}
use Rattle.job_table.specs.declared.jobs.Job.{Job}
use Rattle.job_table.specs.Jobs.{Jobs}
use Rattle.job_table.specs.JobTableView.{OneOfEach}
use Rattle.job_table.proofs.Edits.{one-none, none-empty}
use Rattle.job_table.proofs.jobs.JobTable.new.Goals as goal

pub invariant_of-result : goal.invariant_of-result
invariant_of-result c =
    let none = sym c.in_ok-with_capacity.ensures.items in
    record {
      sorted = subst (λ (l : List (ℕ × Job)). T (is_sorted nat_cmp l)) none tt;
      below = subst (λ (l : List (ℕ × Job)). T (all_below nat_cmp l 0)) none tt;
      few = subst (λ (l : List (ℕ × Job)). length l ≤ c.args.room) none (omega arith);
      reserved = omega (arith, c.in_ok-with_capacity.ensures.capacity);
      one = subst (λ (l : List (ℕ × Job)). OneOfEach (from_sorted l)) none one-none;
    }

pub returns : goal.returns
returns c = ap (λ (l : List (ℕ × Job)). record { room = c.args.room; added = 0; jobs = from_sorted l }) c.in_ok-with_capacity.ensures.items ∙ ap (λ (j : Jobs). record { room = c.args.room; added = 0; jobs = j }) none-empty
