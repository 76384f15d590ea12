use Rattle.std.proofs.Common.{◌∙◌, ap, subst, sym, refl, arith}
use Rattle.atomic_table.specs.Table.{Allows, step}
use mathlib.Core.Option.{none}
use Rattle.turn_lock.specs.inside.Views.{with_known}
use Rattle.turn_lock.specs.inside.Rule.{Kept}
use Rattle.turn_lock.specs.inside.Steps.{Holder, LooksForTurn}
use Rattle.turn_lock.proofs.Calls.{found_turn}
use Rattle.turn_lock.proofs.StepsKeep.{looks_for_turn}
use Rattle.turn_lock.proofs.steps.wait_for_turn.Goals as goal

pub loop-init : goal.loop-init
loop-init g c = let v = c.args.token.now.me.0 in
    record { next = tt; finite = tt; table = refl; id = refl; me = (v.known, ap (λ l. (v, l)) c.requires.waits.2) }

pub load-requires : goal.load-requires
load-requires g c =
    let i = c.loop.invariant in let slots = c.args.board.now.table_id.slots in let about = c.args.board.now.key in
    let x = with_known c.args.token.now.me.0 i.me.0 in (
      i.table ∙ c.requires.table.0,
      omega (arith, c.requires.table.1),
      subst (λ (y : Holder g.row.M.Denot g.row.M-Note.Denot). Allows (Kept g.M.Machine about) slots c.loop.token.id y 1 (λ n. n) (LooksForTurn g.M.Machine (step slots 1 0 0 none) y)) (sym i.me.1)
          (looks_for_turn g.M.Machine about slots c.loop.token.id x c.requires.table.2 c.requires.waits.0 c.requires.waits.1),
    )

pub returns-then-load-ticket-clause-turn : goal.returns-then-load-ticket-clause-turn
returns-then-load-ticket-clause-turn g c =
    let i = c.loop.invariant in
    found_turn g.M.Machine c.args.token.now.me.0 i.me.0 c.args.ticket c.load.result c.loop.token.me c.load.new.seat.me (step c.args.board.now.table_id.slots 1 0 0 none) i.me.1 c.if-load-ticket.true c.requires.ticket c.load.ensures.2
