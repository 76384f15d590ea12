use Rattle.std.proofs.Common.{◌≡◌, rules, None, sym, subst}
use Rattle.engine_world.specs.Knowledge.{knowledge_in, updated}
use Rattle.engine_world.specs.declared.events.Event.TheVariants as events
use Rattle.engine_core.specs.Noted.{noted}
use Rattle.random_events.specs.SeatValue.{SeatValue}
use Rattle.random_events.specs.Seats.{IsRecord}
use Rattle.random_events.proofs.Listed.{anyhow, seat_by}
use Rattle.random_events.proofs.Working.{started}
use Rattle.random_events.proofs.seats.Seat.next_job.Goals as goal

pub returns-clause-seat : goal.returns-clause-seat
returns-clause-seat c =
    let known = knowledge_in c.args.core.now.history c.args.who in
    let none : known.job ≡ None = search rules in
    let reply = c.act-reply.result in
    let is = subst (λ o. IsRecord (record c.args.self.now { job = o }) (updated (events.NextJob c.args.room) (noted reply) known)) (sym c.job_in.ensures)
    (started c.args.self.now known c.requires.is none c.args.room reply) in
    anyhow c.write_reply.result
    (seat_by c.args.core.now c.act-reply.new.core c.args.who _ _ c.requires.served c.requires.untold c.act-reply.ensures.acts c.act-reply.ensures.own
    (subst (λ (v : SeatValue). IsRecord (record v { job = c.job_in.result }) (updated (events.NextJob c.args.room) (noted reply) known)) (sym c.self.view_is) is))
