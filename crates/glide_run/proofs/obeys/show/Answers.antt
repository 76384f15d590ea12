use Rattle.std.proofs.Common.{Ok, Err, true, refl, inr, ap, sym, subst, ◌∙◌, arith}
use Rattle.script_lines.specs.declared.commands.Command.TheVariants.{Show}
use Rattle.script_walk.specs.Walk.{Digest, gathered, print_events}
use Rattle.engine_views.specs.Gathers as gathers
use Rattle.engine_views.specs.Gathers.{gathered_stage}
use Rattle.glide_run.specs.inside.Prints.{AreLastIn}
use Rattle.glide_run.specs.inside.Obeys.{moment, Gives}
use Rattle.glide_run.specs.inside.Stops.{stop_of_write}
use Rattle.glide_run.proofs.Printing.{err_is, write_cause}
use Rattle.glide_run.proofs.Commands.{printed_all, printed_some, after_gather_walk}
use Rattle.glide_run.proofs.obeys.show.Goals as goal

pub print_views-requires : goal.print_views-requires
print_views-requires g c = record {
  on_walk = after_gather_walk g.S.Source c.in_ok-wanting.wanting (gathers.moment (g.E.EngineCalls.caller c.args.engine.now) c.args.source.now c.args.views.now)
      (gathers.moment (g.E.EngineCalls.caller c.gather.new.engine) c.gather.new.source c.gather.new.self) c.requires.on_walk c.in_ok-wanting.ensures.gathers;
}

pub returns-in_err-failing-clause-gives : goal.returns-in_err-failing-clause-gives
returns-in_err-failing-clause-gives g c =
    let e = err_is c.from_residual-in_err-failing.result {e = stop_of_write c.in_err-failing.field-0.0} c.from_residual-in_err-failing.ensures.1 in
    let old = g.E.EngineCalls.caller c.args.engine.now in
    let mid = g.E.EngineCalls.caller c.gather.new.engine in
    let new = g.E.EngineCalls.caller c.print_views.new.engine in
    subst (λ r. Gives g.W.Sink g.S.Source Show r (moment c.args.out.now old c.args.source.now c.args.views.now) (moment c.print_views.new.out new c.gather.new.source c.gather.new.self)) (sym e)
    (λ o s follows.
    let gather = c.in_ok-wanting.ensures.gathers o s follows in
    let n = gather.next in
    inr (printed_some g.W.Sink g.S.Source c.followed_traces_join.ensures Show Digest (λ name. true) (λ s. refl) o s c.args.out.now old c.args.source.now c.args.views.now mid c.gather.new.source c.gather.new.self follows
    c.in_ok-wanting.wanting gather (λ begun. AreLastIn begun (gathered n s.views)) c.in_err-failing.field-0.0 c.print_views.new.out new refl refl (record {
      events = print_events n Digest (λ name. true) (gathered n s.views);
      same = refl;
      knows = λ begun known. known;
      prints_is = c.in_err-failing.ensures.prints n (gathered_stage n s) gather.follows;
    })))

pub returns-in_err-failing-clause-cause : goal.returns-in_err-failing-clause-cause
returns-in_err-failing-clause-cause g c =
    write_cause (g.W.Sink.faults c.args.out.now) (g.W.Sink.faults c.print_views.new.out) c.from_residual-in_err-failing.result c.in_err-failing.field-0.0
    (err_is c.from_residual-in_err-failing.result {e = stop_of_write c.in_err-failing.field-0.0} c.from_residual-in_err-failing.ensures.1) c.in_err-failing.ensures.cause

pub returns-clause-gives : goal.returns-clause-gives
returns-clause-gives g c =
    let old = g.E.EngineCalls.caller c.args.engine.now in
    let mid = g.E.EngineCalls.caller c.gather.new.engine in
    let new = g.E.EngineCalls.caller c.print_views.new.engine in (
      refl,
      refl,
      λ o s follows.
          let gather = c.in_ok-wanting.ensures.gathers o s follows in
          let n = gather.next in
          printed_all g.W.Sink g.S.Source c.followed_traces_join.ensures Show Digest (λ name. true) (λ s. refl) o s c.args.out.now old c.args.source.now c.args.views.now mid c.gather.new.source c.gather.new.self follows
          c.in_ok-wanting.wanting gather (λ begun. AreLastIn begun (gathered n s.views)) c.in_ok-failing.failing c.print_views.new.out new (record {
            events = print_events n Digest (λ name. true) (gathered n s.views);
            same = refl;
            knows = λ begun known. known;
            prints_is = c.in_ok-failing.ensures.prints n (gathered_stage n s) gather.follows;
          }),
    )

pub returns-clause-cause : goal.returns-clause-cause
returns-clause-cause g c = record { later = c.in_ok-failing.ensures.cause.later; rose = λ e. cc }
