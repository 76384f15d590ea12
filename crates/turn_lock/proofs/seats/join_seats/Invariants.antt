use Rattle.std.proofs.Common.{All, map, ◌≡◌, ◌++◌, [], ◌∷◌}
use Rattle.turn_lock.specs.inside.Views.{IsIdle, shown, summary}
use Rattle.turn_lock.proofs.seats.join_seats.Given as goal

abbrev pub invariant-loop-seat : goal.invariant-loop-seat
invariant-loop-seat g l = record {
  table : l.joined.table_id ≡ l.board.table_id;
  idle : IsIdle l.joined.me.0;
  empty : l.joined.me.1 ≡ [];
  of : All (λ s. s.turn ≡ l.board.table_id) l.seats.items;
  all : map (λ s. shown s) l.fn.seats.items ≡ map (λ s. shown s) l.seats.items ++ (l.joined.me.0.joined ++ summary l.joined.me.0 ∷ []);
}

abbrev pub decreases-loop-seat : goal.decreases-loop-seat
decreases-loop-seat g l = goal.left-loop-seat g l
