use Rattle.std.proofs.Common.{◌≡◌, ◌==◌, ◌∙◌, ap, subst, sym, arith, []}
use Rattle.atomic_table.specs.Table.{Allows, step}
use mathlib.Core.Option.{none}
use prog.Atomic.{either}
use Rattle.turn_lock.specs.inside.Rule.{Kept}
use Rattle.turn_lock.specs.inside.Steps.{Holder, TakesTicket}
use Rattle.turn_lock.proofs.StepsKeep.{looks, takes_ticket}
use Rattle.turn_lock.proofs.steps.take_ticket.Goals as goal

pub load-next-requires : goal.load-next-requires
load-next-requires g c = let i = c.loop.invariant in
    (i.table ∙ c.requires.table.0, omega (arith, c.requires.table.1), looks g.M.Machine c.args.board.now.key _ _ _)

pub compare_exchange-found-requires : goal.compare_exchange-found-requires
compare_exchange-found-requires g c =
    let i = c.loop.invariant in let v = c.args.token.now.me.0 in let look = c.load-next.ensures in let slots = c.args.board.now.table_id.slots in
    let old = c.load-next.result in let new = c.following.result in let idle = c.requires.idle.0 in let about = c.args.board.now.key in
    let me : c.load-next.new.seat.me ≡ (v, []) = look.2.0 ∙ (i.me ∙ ap (λ x. (v, x)) c.requires.idle.1) in (
      look.0 ∙ (i.table ∙ c.requires.table.0),
      omega (arith, c.requires.table.1),
      subst (λ (x : Holder g.row.M.Denot g.row.M-Note.Denot). Allows (Kept g.M.Machine about) slots c.load-next.new.seat.id x 0 (λ n. either (n == old) new n) (TakesTicket (step slots 0 old new none) x)) (sym me)
          (takes_ticket g.M.Machine about slots c.load-next.new.seat.id v old new idle.live idle.waits idle.served c.following.ensures),
    )
