use Rattle.std.proofs.Common.{sym, subst}
use Rattle.engine_world.specs.Knowledge.{knowledge_in, updated}
use Rattle.engine_world.specs.declared.events.Event.TheVariants as events
use Rattle.engine_core.specs.Noted.{noted}
use Rattle.random_events.specs.SeatValue.{SeatValue}
use Rattle.random_events.specs.Seats.{IsRecord}
use Rattle.random_events.proofs.Listed.{anyhow, seat_by, collected}
use Rattle.random_events.proofs.seats.Seat.collect.Goals as goal

pub returns-clause-seat : goal.returns-clause-seat
returns-clause-seat c =
    let known = knowledge_in c.args.core.now.history c.args.who in
    let seat = c.requires.seat in
    let load = c.listed-number.result in
    let reply = c.act-reply.result in
    let is = collected c.args.self.now known seat.is c.args.place load c.requires.place c.listed-number.ensures reply in
    anyhow c.write_reply.result
    (seat_by c.args.core.now c.act-reply.new.core c.args.who _ _ seat.served seat.untold c.act-reply.ensures.acts c.act-reply.ensures.own
    (subst (λ (v : SeatValue). IsRecord v (updated (events.Collect load.number) (noted reply) known)) (sym c.mark_by.ensures) is))
