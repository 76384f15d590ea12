use Rattle.engine_core.specs.Noted.{noted}
use Rattle.engine_shared.proofs.Owning.{core_call}
use Rattle.engine_shared.proofs.alone.call.Goals as goal

pub returns-clause-entry : goal.returns-clause-entry
returns-clause-entry c = core_call c.calls_add_entries.ensures c.args.core.now c.step.new.self c.args.event (noted c.step.result) c.requires.legal c.requires.permits c.step.ensures.step c.step.ensures.history
