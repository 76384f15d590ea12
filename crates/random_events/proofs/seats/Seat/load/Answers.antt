use Rattle.std.proofs.Common.{sym, subst}
use Rattle.std.proofs.lemmas.Result.{on_ok_weaker}
use Rattle.engine_world.specs.Knowledge.{knowledge_in, updated}
use Rattle.engine_world.specs.declared.events.Event.TheVariants as events
use Rattle.engine_core.specs.Noted.{noted}
use Rattle.random_events.specs.SeatValue.{SeatValue}
use Rattle.random_events.specs.Seats.{IsRecord}
use Rattle.random_events.proofs.Listed.{seat_by, loaded}
use Rattle.random_events.proofs.seats.Seat.load.Goals as goal

pub returns-clause-seat : goal.returns-clause-seat
returns-clause-seat c =
    let known = knowledge_in c.args.core.now.history c.args.who in
    let seat = c.requires.seat in
    let reply = c.act-reply.result in
    on_ok_weaker c.list_by.result (λ same.
    seat_by c.args.core.now c.act-reply.new.core c.args.who _ _ seat.served seat.untold c.act-reply.ensures.acts c.act-reply.ensures.own
    (subst (λ (v : SeatValue). IsRecord v (updated (events.Load c.args.spec) (noted reply) known)) (sym same) (loaded c.args.self.now known seat.is c.args.spec reply)))
    c.list_by.ensures
