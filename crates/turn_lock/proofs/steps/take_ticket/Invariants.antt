use Rattle.std.proofs.Common.{◌≡◌}
use Rattle.turn_lock.proofs.steps.take_ticket.Given as goal

abbrev pub invariant-loop : goal.invariant-loop
invariant-loop g l = record {
  next : (goal.iterator-loop g).can_next l.iterator';
  finite : (goal.iterator-loop g).is_finite l.iterator';
  table : l.token.table_id ≡ l.initial.token.table_id;
  id : l.token.id ≡ l.initial.token.id;
  me : l.token.me ≡ l.initial.token.me;
}
