use Rattle.std.proofs.Common.{◌∙◌, ap, subst, sym, refl, arith}
use Rattle.atomic_table.specs.Table.{Allows, step}
use mathlib.Core.Option.{none}
use Rattle.turn_lock.specs.inside.Views.{with_known}
use Rattle.turn_lock.specs.inside.Rule.{Kept}
use Rattle.turn_lock.specs.inside.Steps.{Holder, LearnsLength}
use Rattle.turn_lock.proofs.Calls.{longer}
use Rattle.turn_lock.proofs.StepsKeep.{learns_length}
use Rattle.turn_lock.proofs.steps.wait_for_more.Goals as goal

pub loop-init : goal.loop-init
loop-init g c = let v = c.args.token.now.me.0 in
    record { next = tt; finite = tt; table = refl; id = refl; me = (v.known, c.requires.known, ap (λ l. (v, l)) c.requires.idle.1) }

pub load-requires : goal.load-requires
load-requires g c =
    let i = c.loop.invariant in let slots = c.args.board.now.table_id.slots in let about = c.args.board.now.key in
    let x = with_known c.args.token.now.me.0 i.me.0 in (
      i.table ∙ c.requires.table.0,
      omega (arith, c.requires.table.1),
      subst (λ (y : Holder g.row.M.Denot g.row.M-Note.Denot). Allows (Kept g.M.Machine about) slots c.loop.token.id y 1 (λ n. n) (LearnsLength (step slots 1 0 0 none) y)) (sym i.me.2)
          (learns_length g.M.Machine about slots c.loop.token.id x c.requires.idle.0.live c.requires.idle.0.served),
    )

pub returns-then-load-reached-clause-knows : goal.returns-then-load-reached-clause-knows
returns-then-load-reached-clause-knows g c =
    let i = c.loop.invariant in
    longer c.args.token.now.me.0 i.me.0 c.args.reached c.load.result c.loop.token.me c.load.new.seat.me (step c.args.board.now.table_id.slots 1 0 0 none) i.me.2 i.me.1 c.requires.reached c.if-load-reached.true c.load.ensures.2
