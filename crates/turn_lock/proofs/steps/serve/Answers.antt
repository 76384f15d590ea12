use Rattle.std.proofs.Common.{◌≡◌, ◌+◌, ◌%◌, ◌∙◌, sym, ap, subst, arith, [], ◌∷◌, ◌++◌, Some}
use Rattle.atomic_table.specs.Table.{Allows, step, rest}
use mathlib.Core.Option.{none}
use Rattle.state_machine.specs.Histories.{entry}
use Rattle.turn_lock.specs.inside.Rule.{IsAt, Kept}
use Rattle.turn_lock.specs.inside.Steps.{Holder, PassesTurn}
use Rattle.turn_lock.proofs.Calls.{steps_on}
use Rattle.turn_lock.proofs.StepsKeep.{passes_turn}
use Rattle.turn_lock.proofs.Lists.{same_machine}
use Rattle.turn_lock.proofs.steps.serve.Goals as goal

pub exchange-requires : goal.exchange-requires
exchange-requires g c = let h = c.requires.serves in (c.requires.table.0, (Some h.holds, h.held ∙ ap (λ l. (0, Some h.holds) ∷ rest l) (sym h.held)))

pub store-requires : goal.store-requires
store-requires g c =
    let h = c.requires.serves in let m = g.M.Machine in let v = c.args.token.now.me.0 in let slots = c.args.board.now.table_id.slots in let about = c.args.board.now.key in let start = about.start.value in
    let after = c.step-reply.new.self in let e = entry c.args.who (m.note c.args.event c.step-reply.result) in let s = c.step-reply.ensures in
    let same : c.unwrap-machine.result ≡ h.holds = same_machine c.args.token.now.me.1 c.exchange.result c.unwrap-machine.result h.holds h.held c.exchange.ensures.2 c.unwrap-machine.ensures in
    let at : IsAt m start c.unwrap-machine.result v.seen = subst (λ x. IsAt m start x v.seen) (sym same) h.at in
    let stands : IsAt m start after (v.seen ++ e ∷ []) = steps_on m c.legal_histories_grow.ensures start c.unwrap-machine.result after v.seen e at s.opening s.history h.number.1 s.asked s.steps in
    let word : c.following.result ≡ _ = c.following.ensures ∙ ap (λ n. (n + 1) % 4611686018427387904) c.requires.ticket.0 in
    let me : c.exchange-nothing.new.seat.me ≡ (v, (0, Some after) ∷ []) =
    c.exchange-nothing.ensures.3 ∙ (ap (λ (y : Holder g.row.M.Denot g.row.M-Note.Denot). (y.0, (0, Some after) ∷ rest y.1)) c.exchange.ensures.3 ∙ ap (λ l. (v, (0, Some after) ∷ rest l)) h.held) in (
      c.exchange-nothing.ensures.0 ∙ (c.exchange.ensures.0 ∙ c.requires.table.0),
      omega (arith, c.requires.table.1),
      subst (λ (y : Holder g.row.M.Denot g.row.M-Note.Denot). Allows (Kept m about) slots c.exchange-nothing.new.seat.id y 1 (λ _. c.following.result) (λ _. PassesTurn m (step slots 1 c.following.result 0 none) y c.following.result)) (sym me)
          (passes_turn m about c.own_entries_append.ensures slots c.exchange-nothing.new.seat.id c.requires.table.2 v start after e c.following.result h.served (sym h.number.0) word h.start_is stands),
    )

pub returns-clause-legal : goal.returns-clause-legal
returns-clause-legal g c =
    let h = c.requires.serves in let m = g.M.Machine in let v = c.args.token.now.me.0 in let start = c.args.board.now.key.start.value in
    let after = c.step-reply.new.self in let e = entry c.args.who (m.note c.args.event c.step-reply.result) in let s = c.step-reply.ensures in
    let same : c.unwrap-machine.result ≡ h.holds = same_machine c.args.token.now.me.1 c.exchange.result c.unwrap-machine.result h.holds h.held c.exchange.ensures.2 c.unwrap-machine.ensures in
    let at : IsAt m start c.unwrap-machine.result v.seen = subst (λ x. IsAt m start x v.seen) (sym same) h.at in
    let stands : IsAt m start after (v.seen ++ e ∷ []) = steps_on m c.legal_histories_grow.ensures start c.unwrap-machine.result after v.seen e at s.opening s.history h.number.1 s.asked s.steps in
    (m.world after, stands.legal)
