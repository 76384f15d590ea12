use Rattle.std.proofs.Common.{◌≡◌, ◌+◌, ◌-◌, ◌∙◌, [], ap, arith}
use Rattle.std.specs.List.{range_with_len}
use Rattle.turn_lock.specs.Turns.{SeatState, IsSeatOf}
use Rattle.turn_lock.specs.inside.Views.{new_seat, next_seat}
use Rattle.turn_lock.specs.inside.Steps.{Holder}
use Rattle.turn_lock.proofs.Gathered.{all_pushed, map_pushed}
use Rattle.turn_lock.proofs.SeatsKeep.{splits}
use Rattle.turn_lock.proofs.seats.make_seats.Goals as goal

pub split_seat-next-requires : goal.split_seat-next-requires
split_seat-next-requires g c =
    let i = c.loop-number.invariant in let about = c.args.board.now.key in
    let e : c.loop-number.newest.me.0 ≡ new_seat about c.loop-number.number = ap (λ (y : Holder g.row.M.Denot g.row.M-Note.Denot). y.0) i.newest in
    let at : c.loop-number.newest.me.0.number ≡ c.loop-number.number = ap (λ x. x.number) e in (
      i.table,
      omega (arith, c.requires.table.1),
      splits g.M.Machine about c.loop-number.newest.id c.loop-number.newest.me.0
          record { live = ap (λ x. x.live) e; waits = ap (λ x. x.waits) e; served = ap (λ x. x.served) e } (ap (λ x. x.newest) e) (omega (arith, at, c.requires.seats.1)),
    )

pub loop-number-preserved : goal.loop-number-preserved
loop-number-preserved g c =
    let i = c.loop-number.invariant in let b = c.args.board.now in let n = c.loop-number.number in let s = c.split_seat-next.ensures in let o = c.seat_of.ensures in
    let e : c.loop-number.newest.me.0 ≡ new_seat b.key n = ap (λ (y : Holder g.row.M.Denot g.row.M-Note.Denot). y.0) i.newest in
    let p = c.push_reserved.ensures.items in
    record {
      table = s.3 ∙ i.table;
      newest = s.4 ∙ ap (λ x. (next_seat x, [])) e;
      long = omega (arith, c.push_reserved.ensures.len, i.long);
      room = c.push_reserved.ensures.capacity ∙ i.room;
      of = all_pushed (λ (x : SeatState g.row.M.Denot g.row.M-Note.Denot). IsSeatOf record { id = b.table_id; start = b.key.start.value; seats = c.args.seats } x) _ _ _ p i.of
          record { turn_is = o.of.0 ∙ (s.0 ∙ i.table); start_is = o.of.1 ∙ (ap (λ (y : Holder g.row.M.Denot g.row.M-Note.Denot). y.0.start) s.2 ∙ ap (λ x. x.start) e) };
      new = all_pushed (λ (x : SeatState g.row.M.Denot g.row.M-Note.Denot). (x.seen ≡ []) × (x.known ≡ 0)) _ _ _ p i.new o.new;
      numbers = map_pushed (λ (x : SeatState g.row.M.Denot g.row.M-Note.Denot). x.number) _ _ _ n p i.numbers o.number;
    }

pub returns-clause-numbers : goal.returns-clause-numbers
returns-clause-numbers g c =
    let i = c.loop-number.invariant in let n = c.args.seats - 1 in
    let at : c.loop-number.number ≡ n = omega (arith, c.loop-number-test.false, c.loop-number.auto.number-end) in
    let all : n + 1 ≡ c.args.seats = omega (arith, c.requires.seats.0) in
    map_pushed (λ (x : SeatState g.row.M.Denot g.row.M-Note.Denot). x.number) _ _ _ n c.push_reserved-2.ensures.items (i.numbers ∙ ap (range_with_len 0) at) c.seat_of-2.ensures.number ∙ ap (range_with_len 0) all
