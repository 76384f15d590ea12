use Rattle.store_shared.proofs.Owning.{owner_step, stays_owned}
use Rattle.store_shared.proofs.Replying.{replies_to}
use Rattle.store_shared.proofs.alone.make.Goals as goal

pub returns-clause-step : goal.returns-clause-step
returns-clause-step g c =
    owner_step c.own_entries_append.ensures c.seats_learn_by_their_own_entries.ensures.own c.legal_histories_grow.ensures c.args.store.now c.step-reply.new.self c.args.event c.step-reply.result
    c.requires.owned c.requires.asks c.step-reply.ensures.step c.step-reply.ensures.history c.step-reply.ensures.opening c.is_in_order.ensures.sound c.is_in_order.ensures.settings

pub returns-clause-reply : goal.returns-clause-reply
returns-clause-reply g c = replies_to c.args.store.now.world c.step-reply.new.self.world 0 c.args.event c.step-reply.result c.step-reply.ensures.step

pub returns-clause-owned : goal.returns-clause-owned
returns-clause-owned g c =
    stays_owned c.own_entries_append.ensures c.seats_learn_by_their_own_entries.ensures.own c.legal_histories_grow.ensures c.args.store.now c.step-reply.new.self c.args.event c.step-reply.result
    c.requires.owned c.requires.asks c.step-reply.ensures.step c.step-reply.ensures.history c.step-reply.ensures.opening c.is_in_order.ensures.sound c.is_in_order.ensures.settings
