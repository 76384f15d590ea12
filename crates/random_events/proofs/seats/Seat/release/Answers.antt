use Rattle.std.proofs.Common.{sym, subst}
use Rattle.std.specs.FinMap.{remove}
use Rattle.engine_world.specs.Knowledge.{knowledge_in}
use Rattle.random_events.specs.SeatValue.{SeatValue}
use Rattle.random_events.specs.Seats.{IsRecord}
use Rattle.random_events.proofs.Listed.{anyhow, seat_by, released}
use Rattle.random_events.proofs.seats.Seat.release.Goals as goal

pub returns-clause-seat : goal.returns-clause-seat
returns-clause-seat c =
    let known = knowledge_in c.args.core.now.history c.args.who in
    let seat = c.requires.seat in
    let n = c.listed-number.result.number in
    let kept = c.in_ok-kept.kept.items in
    anyhow c.write_reply.result
    (seat_by c.args.core.now c.act-reply.new.core c.args.who _ _ seat.served seat.untold c.act-reply.ensures.acts c.act-reply.ensures.own
    (subst (λ (v : SeatValue). IsRecord (record v { loads = kept }) (record known { loads = remove known.loads n })) (sym c.self.view_is)
    (released c.args.self.now known seat.is n kept c.in_ok-kept.ensures)))
