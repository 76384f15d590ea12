use Rattle.std.proofs.Common.{◌<◌, ◌^◌, length, sym, subst}
use Rattle.store_world.specs.Knowledge.{knowledge_in}
use Rattle.store_runs.specs.Phases.{IsAt}
use Rattle.store_runs.proofs.Asking.{writes, commits}
use Rattle.store_runs.proofs.writers.advance.Goals as goal

pub step-requires-in-Editing-clause-asks : goal.step-requires-in-Editing-clause-asks
step-requires-in-Editing-clause-asks c =
    let known = knowledge_in c.args.store.now.history c.args.who in
    let at = subst (λ phase. IsAt phase c.args.key.now known) c.in-Editing.is c.requires.at in
    writes c.args.store.now.opening.content known c.args.key.now c.new.result at (subst (λ bytes. length bytes < 2 ^ 40) (sym c.new.ensures) c.requires.file)

pub step-requires-in-Written-clause-asks : goal.step-requires-in-Written-clause-asks
step-requires-in-Written-clause-asks c =
    let known = knowledge_in c.args.store.now.history c.args.who in
    let at = subst (λ phase. IsAt phase c.args.key.now known) c.in-Written.is c.requires.at in
    commits c.args.store.now.opening.content known c.args.key.now at.0 at.1 c.requires.untold
