use Rattle.std.proofs.Common.{ap, ◌∙◌, arith}
use Rattle.engine_world.specs.Knowledge.{Knowledge, knowledge_in}
use Rattle.engine_core.specs.Noted.{noted}
use Rattle.engine_core.proofs.Tested.{load_begun, load_job}
use Rattle.engine_core.proofs.tests.load.Goals as goal

pub returns-clause-begun : goal.returns-clause-begun
returns-clause-begun c =
    let known = ap (λ (v : Knowledge). v.begun) c.act.ensures.own in
    let grown = load_begun (knowledge_in c.args.core.now.history c.args.who) c.args.spec (noted c.act.result) in
    omega (arith, known, grown)

pub returns-clause-job : goal.returns-clause-job
returns-clause-job c = ap (λ (v : Knowledge). v.job) c.act.ensures.own ∙ load_job (knowledge_in c.args.core.now.history c.args.who) c.args.spec (noted c.act.result)
