use Rattle.std.proofs.Common.{◌∙◌, ◌++◌, Some, [], ◌∷◌, ap, arith}
use Rattle.turn_lock.proofs.SeatsKeep.{begins}
use Rattle.turn_lock.proofs.Words.{word-first}
use Rattle.turn_lock.proofs.turn.Turn.start_at.Goals as goal

pub new-requires : goal.new-requires
new-requires g c =
    let r = c.requires.seats in let m = c.args.machine in let same = c.from.ensures in
    begins g.M.Machine record { start = c.of.result; seats = c.from.result; first_ticket = c.args.first_ticket } m c.push_reserved.new.self.items c.of.ensures
    (c.push_reserved.ensures.items ∙ ap (λ l. l ++ Some m ∷ []) c.in-Ok-with_capacity.ensures.items) c.args.first_ticket (word-first c.args.first_ticket c.requires.ticket)
    (omega (arith, r.0, same)) (omega (arith, r.1, same)) (omega (arith, r.2, same)) c.requires.fresh.0 c.requires.fresh.1 (c.empty_histories_are_legal.ensures (g.M.Machine.opening m))
