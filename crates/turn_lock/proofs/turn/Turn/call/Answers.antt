use Rattle.std.proofs.Common.{◌≡◌, [], subst}
use Rattle.state_machine.specs.Histories.{entry, own}
use Rattle.turn_lock.specs.Turns.{SeatState, GoesOn}
use Rattle.turn_lock.proofs.Calls.{had, seen_is, none_missed}
use Rattle.turn_lock.proofs.turn.Turn.call.Goals as goal

pub returns-clause-goes_on : goal.returns-clause-goes_on
returns-clause-goes_on g c =
    let s = c.seat.inside in let v = s.token.me.0 in let d = c.take_ticket-ticket.ensures.ticket in let turn = c.wait_for_turn.ensures.turn in let passed = c.serve-reply.ensures.passed in
    let m = g.M.Machine in let note = m.note c.args.event c.serve-reply.result in let e = entry s.number note in
    let new : SeatState g.row.M.Denot g.row.M-Note.Denot = record { turn = c.serve-reply.new.token.table_id; start = c.serve-reply.new.token.me.0.start; number = s.number; seen = c.serve-reply.new.token.me.0.seen; known = c.serve-reply.new.token.me.0.known } in
    let turn_had = had m v d.0 c.take_ticket-ticket.new.token.me c.wait_for_turn.new.token.me c.serve-reply.new.token.me e d.2 turn passed in
    subst (λ (old : SeatState g.row.M.Denot g.row.M-Note.Denot). GoesOn old (entry old.number note) new) c.seat.view_is record {
      between = turn_had.begins.0;
      seen_is = seen_is m v d.0 c.take_ticket-ticket.new.token.me c.wait_for_turn.new.token.me c.serve-reply.new.token.me e d.2 turn passed;
      none_missed = subst (λ who. own who turn_had.begins.0 ≡ []) c.seat.invariant.number_is
          (none_missed m v d.0 c.take_ticket-ticket.new.token.me c.wait_for_turn.new.token.me c.serve-reply.new.token.me e d.2 turn passed c.own_entries_append.ensures);
    }
