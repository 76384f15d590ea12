use Rattle.std.proofs.Common.{subst, sym, ap, ◌∙◌}
use Rattle.engine_core.specs.CoreView.{CoreValue}
use Rattle.engine_shared.specs.Caller.{Caller}
use Rattle.glide_run.specs.Handed.{handed, meanings}
use Rattle.glide_run.specs.inside.Running.{IsFresh}
use Rattle.glide_run.proofs.Starts.{fresh_start, unstarted}
use Rattle.glide_run.proofs.top.run.Goals as goal

pub returns-in_default-clause-run : goal.returns-in_default-clause-run
returns-in_default-clause-run g c = unstarted (meanings g.I.Input g.W.Sink g.S.Source) c.args.settings.now (handed c.args.input.now c.args.out.now c.args.source.now)

abbrev caller_of : CoreValue → Caller
caller_of core = record { who = 0; seen = core.history; world = core.world }

pub run_on-status-requires-clause-fresh : goal.run_on-status-requires-clause-fresh
run_on-status-requires-clause-fresh g c =
    subst IsFresh (sym (c.new-engine.ensures ∙ ap caller_of c.in-Ok.ensures)) (fresh_start c.args.settings.now (g.S.Source.content c.args.source.now))
