use Rattle.std.proofs.Common.{sym, subst}
use Rattle.store_world.specs.Permits.{Permits}
use Rattle.store_world.specs.StoreMachine.{noted}
use Rattle.store_shared.specs.Caller.{Caller, content_of, knowledge_of, IsStep}
use Rattle.store_shared.specs.Seated.{caller_at}
use Rattle.store_shared.proofs.Seating.{seat_step}
use Rattle.store_shared.proofs.shared.SeatedStoreStoreSteps.step.Goals as goal

pub call-requires-clause-asks : goal.call-requires-clause-asks
call-requires-clause-asks g c = subst (λ (o : Caller). Permits (content_of o) (knowledge_of o) c.args.event) (sym c.self.view_is) c.requires.asks

pub returns-clause-step : goal.returns-clause-step
returns-clause-step g c =
    let turn = c.self.inside.turn.now in let old = c.self.inside.seat in let new = c.call.new.seat in
    let step = seat_step c.legal_histories_begin.ensures c.own_entries_append.ensures c.seats_learn_by_their_own_entries.ensures.own c.each_history_stays_sound.ensures turn old new c.args.event c.call.result
    c.self.invariant c.call.ensures.number c.call.ensures.goes_on c.call.ensures.legal in
    subst (λ (o : Caller). IsStep o (noted c.args.event c.call.result) (caller_at turn new)) c.self.view_is step
