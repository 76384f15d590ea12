use Rattle.std.proofs.Common.{◌≡◌, Ok, Err, refl, sym, subst, arith}
use Rattle.engine_views.specs.Held.{no_held_views}
use Rattle.glide_run.specs.inside.Obeys.{moment}
use Rattle.glide_run.specs.inside.Running.{HasRun, HasWorked}
use Rattle.glide_run.specs.declared.run.Stop.TheVariants.{Memory}
use Rattle.glide_run.proofs.Printing.{err_is}
use Rattle.glide_run.proofs.Closings.{run_none, run_closed, works_just}
use Rattle.glide_run.proofs.walks.obey_script.Goals as goal

pub returns-in_err-views-clause-run : goal.returns-in_err-views-clause-run
returns-in_err-views-clause-run g c =
    let text = g.I.Input.left c.args.input.now in
    let old = moment c.args.out.now (g.E.EngineCalls.caller c.args.engine.now) c.args.source.now no_held_views in
    subst (λ r. HasRun g.W.Sink g.S.Source text r old old) (sym (err_is c.from_residual.result {e = Memory} c.from_residual.ensures.1)) (run_none g.W.Sink g.S.Source text old c.requires.fresh Memory)

pub close-requires : goal.close-requires
close-requires g c =
    works_just g.W.Sink g.S.Source (g.I.Input.left c.args.input.now) c.obey_all-ended.result (moment c.args.out.now (g.E.EngineCalls.caller c.args.engine.now) c.args.source.now c.in_ok-views.views)
    (moment c.obey_all-ended.new.out (g.E.EngineCalls.caller c.obey_all-ended.new.engine) c.obey_all-ended.new.source c.obey_all-ended.new.views) c.obey_all-ended.ensures.works

pub returns-clause-run : goal.returns-clause-run
returns-clause-run g c =
    let text = g.I.Input.left c.args.input.now in
    let first = g.E.EngineCalls.caller c.args.engine.now in
    let mid = moment c.obey_all-ended.new.out (g.E.EngineCalls.caller c.obey_all-ended.new.engine) c.obey_all-ended.new.source c.obey_all-ended.new.views in
    let works = subst (λ v. HasWorked g.W.Sink g.S.Source text c.obey_all-ended.result (moment c.args.out.now first c.args.source.now v) mid) c.in_ok-views.ensures.none c.obey_all-ended.ensures.works in
    run_closed g.W.Sink g.S.Source c.releases_end_walks.ensures c.followed_traces_join.ensures text c.obey_all-ended.result (moment c.args.out.now first c.args.source.now no_held_views) mid (g.E.EngineCalls.caller c.close.new.engine) c.requires.fresh.unseen works c.close.ensures
