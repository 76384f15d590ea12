use Rattle.std.proofs.Common.{ap, ◌∙◌}
use Rattle.engine_world.specs.Knowledge.{OwnJob}
use Rattle.decode_job.proofs.Lending.{none_left}
use Rattle.decode_job.proofs.pictures.give_up.Goals as goal

pub returns-clause-runs : goal.returns-clause-runs
returns-clause-runs g c = c.calls_go_on.ensures.giving _ _ _ _ c.args.bitmap c.give_back.ensures.entry c.give_back.ensures.job c.give_back.ensures.pass

pub returns-clause-none : goal.returns-clause-none
returns-clause-none g c = ap (λ (j : OwnJob). j.out) c.give_back.ensures.pass ∙ none_left c.args.bitmap c.args.pass.now.out c.requires.out
