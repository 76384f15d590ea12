use Rattle.std.proofs.Common.{◌≡◌, ℕ, true, Some, refl, sym, ◌∙◌, inl, inr, true≢false}
use Rattle.std.specs.Ordering.{nat_cmp}
use Rattle.std.specs.Cmp.{nat_cmp_total}
use Rattle.std.specs.FinMap.{empty, insert}
use Rattle.std.specs.FinSet as set
use Rattle.finite_maps.specs.Maps.{total, first_key}
use Rattle.engine_world.specs.Moves.{active_of, has_key}
use Rattle.engine_world.specs.Worked.{key, resource, r7, r9}
use Rattle.engine_world.specs.NumberLaws.{put_same}
use Rattle.engine_world.specs.KeyedLaws.{has_key-there}
use Rattle.engine_world.proofs.EndEvents.{set_insert_cases, set_remove_found}
use Rattle.engine_world.proofs.Computing.{items-empty, no_loads, no_resources, more_loads, more_resources, at_resource, at_job, no_jobs, more_jobs, fewer_jobs, none_of_jobs, at_load, fewer_loads, fewer_resources, none_of_loads, none_of_resources, settled_none, settled_more, find-only}
use Rattle.engine_world.proofs.worked.worked_release_of_replaced.Goals as goal

only_0 : (q : ℕ) → set.contains (set.insert (set.empty {R = nat_cmp}) 0) q ≡ true → q ≡ 0
only_0 q e = elim (set_insert_cases set.empty 0 q e) [
  | inl is ↦ is
  | inr is ↦ absurd (true≢false (sym is ∙ set.contains-empty nat_cmp q))
]

first_active : active_of r7.resources r7.active (key 7) ≡ Some 0
first_active = find-only (has_key r7.resources (key 7)) r7.active 0 only_0 (set.contains-insert nat_cmp_total set.empty 0 0) (has_key-there r7.resources (key 7) 0 (resource 0) (put_same empty 0 (resource 0)) refl)

only_1 : (q : ℕ) → set.contains r9.active q ≡ true → q ≡ 1
only_1 q e =
    let left = set_remove_found (set.insert (set.remove r7.active 0) 1) 0 q e in
    elim (set_insert_cases (set.remove r7.active 0) 1 q left.1) [
      | inl is ↦ is
      | inr is ↦ absurd (left.0 (only_0 q (set_remove_found r7.active 0 q is).1))
    ]

second_active : active_of r9.resources r9.active (key 7) ≡ Some 1
second_active = find-only (has_key r9.resources (key 7)) r9.active 1 only_1 (set.contains-remove nat_cmp_total (set.insert (set.remove r7.active 0) 1) 0 1 ∙ set.contains-insert nat_cmp_total (set.remove r7.active 0) 1 1)
    (has_key-there r9.resources (key 7) 1 (resource 1) (put_same (insert empty 0 (resource 0)) 1 (resource 1)) refl)

pub returns-clause-first : goal.returns-clause-first
returns-clause-first c = (simp (at_job, no_jobs, more_jobs) refl, simp (at_job, no_jobs, more_jobs, items-empty, settled_none, settled_more) refl)

pub returns-clause-second : goal.returns-clause-second
returns-clause-second c = (simp (at_job, no_jobs, more_jobs, fewer_jobs, none_of_jobs) refl, simp (first_active, at_job, no_jobs, more_jobs, fewer_jobs, none_of_jobs, settled_none, settled_more) refl)

pub returns-clause-replaced : goal.returns-clause-replaced
unfolding total first_key
returns-clause-replaced c = (refl, simp (no_loads, no_resources, more_loads, more_resources, at_load, at_resource, fewer_loads, none_of_loads) refl)

pub returns-clause-active : goal.returns-clause-active
unfolding total first_key
returns-clause-active c = (simp (second_active, no_loads, more_loads) refl, simp (second_active, no_loads, more_loads) refl)

pub returns-clause-one_of_two : goal.returns-clause-one_of_two
unfolding total first_key
returns-clause-one_of_two c = (refl, simp (no_loads, no_resources, more_loads, more_resources, at_load, at_resource, fewer_loads, none_of_loads) refl)

pub returns-clause-last : goal.returns-clause-last
unfolding total first_key
returns-clause-last c = (refl, simp (no_loads, no_resources, more_loads, more_resources, at_load, at_resource, fewer_loads, none_of_loads, fewer_resources, none_of_resources) refl)
