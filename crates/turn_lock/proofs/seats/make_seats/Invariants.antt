use Rattle.std.proofs.Common.{All, map, vec_len, vec_capacity, ◌≡◌, []}
use Rattle.std.specs.List.{range_with_len}
use Rattle.turn_lock.specs.Turns.{IsSeatOf}
use Rattle.turn_lock.specs.inside.Views.{new_seat}
use Rattle.turn_lock.proofs.seats.make_seats.Given as goal

abbrev pub invariant-loop-number : goal.invariant-loop-number
invariant-loop-number g l = record {
  table : l.newest.table_id ≡ l.board.table_id;
  newest : l.newest.me ≡ (new_seat l.board.key l.number, []);
  long : vec_len l.all ≡ l.number;
  room : vec_capacity l.all ≡ vec_capacity l.initial.all;
  of : All (λ s. IsSeatOf record { id = l.board.table_id; start = l.board.key.start.value; seats = l.fn.seats } s) l.all.items;
  new : All (λ s. (s.seen ≡ []) × (s.known ≡ 0)) l.all.items;
  numbers : map (λ s. s.number) l.all.items ≡ range_with_len 0 l.number;
}
