use Rattle.std.proofs.Common.{◌≡◌, ◌≤◌, ℕ, [], length}
use Rattle.turn_lock.specs.inside.Views.{with_known}
use Rattle.turn_lock.proofs.steps.wait_for_more.Given as goal

abbrev pub invariant-loop : goal.invariant-loop
invariant-loop g l = record {
  next : (goal.iterator-loop g).can_next l.iterator';
  finite : (goal.iterator-loop g).is_finite l.iterator';
  table : l.token.table_id ≡ l.initial.token.table_id;
  id : l.token.id ≡ l.initial.token.id;
  me : (k : ℕ) × (length l.initial.token.me.0.seen ≤ k) × (l.token.me ≡ (with_known l.initial.token.me.0 k, []));
}
