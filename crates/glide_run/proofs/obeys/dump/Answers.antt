use Rattle.std.proofs.Common.{◌≡◌, ◌<◌, Ok, Err, true, length, Some, refl, inr, ap, sym, subst, ◌∙◌, arith}
use Rattle.std.specs.Option.{is_some}
use Rattle.std.specs.Str.{bytes_eq}
use Rattle.script_lines.specs.declared.commands.Command.TheVariants.{Dump}
use Rattle.script_walk.specs.Walk.{Pixels, gathered, view_line, printed}
use Rattle.engine_views.specs.Gathers as gathers
use Rattle.engine_views.specs.Gathers.{gathered_stage}
use Rattle.glide_run.specs.inside.Prints.{IsLastIn}
use Rattle.glide_run.specs.inside.Obeys.{moment, Gives, can_obey_at}
use Rattle.glide_run.specs.inside.Stops.{stop_of_write}
use Rattle.glide_run.proofs.Printing.{err_is, write_cause, count_is, view_in}
use Rattle.glide_run.proofs.Views.{last_at}
use Rattle.glide_run.proofs.Commands.{printed_all, printed_some, dump_events, after_gather_walk}
use Rattle.glide_run.proofs.obeys.dump.Goals as goal

pub print_pixels-requires-clause-on_walk : goal.print_pixels-requires-clause-on_walk
print_pixels-requires-clause-on_walk g c = after_gather_walk g.S.Source c.in_ok-wanting.wanting (gathers.moment (g.E.EngineCalls.caller c.args.engine.now) c.args.source.now c.args.views.now)
    (gathers.moment (g.E.EngineCalls.caller c.gather.new.engine) c.gather.new.source c.gather.new.self) c.requires.on_walk c.in_ok-wanting.ensures.gathers

pub returns-in_err-failing-clause-gives : goal.returns-in_err-failing-clause-gives
returns-in_err-failing-clause-gives g c =
    let view = c.args.view.now in
    let old = g.E.EngineCalls.caller c.args.engine.now in
    let mid = g.E.EngineCalls.caller c.gather.new.engine in
    let new = g.E.EngineCalls.caller c.print_pixels.new.engine in
    let e = err_is c.from_residual-in_err-failing.result {e = stop_of_write c.in_err-failing.field-0.0} c.from_residual-in_err-failing.ensures.1 in
    let found = sym c.find.ensures.place ∙ c.in-Some.is in
    let can : can_obey_at (Dump view) c.args.views.now ≡ true = ap is_some found in
    subst (λ r. Gives g.W.Sink g.S.Source (Dump view) r (moment c.args.out.now old c.args.source.now c.args.views.now) (moment c.print_pixels.new.out new c.gather.new.source c.gather.new.self)) (sym e)
    (λ o s follows.
    let gather = c.in_ok-wanting.ensures.gathers o s follows in
    let n = gather.next in
    let at = view_in (gathered n s.views) c.in-Some.place (omega (arith, count_is n (gathered_stage n s) mid c.gather.new.self gather.follows, c.in_ok-wanting.ensures.count, c.in-Some.ensures.within)) in
    inr (printed_some g.W.Sink g.S.Source c.followed_traces_join.ensures (Dump view) Pixels (bytes_eq view) (λ s. refl) o s c.args.out.now old c.args.source.now c.args.views.now mid c.gather.new.source c.gather.new.self follows
    c.in_ok-wanting.wanting gather (λ begun. IsLastIn begun at.0) c.in_err-failing.field-0.0 c.print_pixels.new.out new refl can (record {
      events = printed (view_line n Pixels at.0);
      same = dump_events n o s old c.args.views.now follows gather.follows.distinct view c.in-Some.place at.0 found at.1;
      knows = λ begun known. last_at begun (gathered n s.views) c.in-Some.place at.0 known at.1;
      prints_is = c.in_err-failing.ensures.prints n (gathered_stage n s) at.0 gather.follows at.1;
    })))

pub returns-in_err-failing-clause-cause : goal.returns-in_err-failing-clause-cause
returns-in_err-failing-clause-cause g c =
    write_cause (g.W.Sink.faults c.args.out.now) (g.W.Sink.faults c.print_pixels.new.out) c.from_residual-in_err-failing.result c.in_err-failing.field-0.0
    (err_is c.from_residual-in_err-failing.result {e = stop_of_write c.in_err-failing.field-0.0} c.from_residual-in_err-failing.ensures.1) c.in_err-failing.ensures.cause

pub returns-clause-gives : goal.returns-clause-gives
returns-clause-gives g c =
    let view = c.args.view.now in
    let old = g.E.EngineCalls.caller c.args.engine.now in
    let mid = g.E.EngineCalls.caller c.gather.new.engine in
    let new = g.E.EngineCalls.caller c.print_pixels.new.engine in
    let found = sym c.find.ensures.place ∙ c.in-Some.is in
    let can : can_obey_at (Dump view) c.args.views.now ≡ true = ap is_some found in (
      refl,
      can,
      λ o s follows.
          let gather = c.in_ok-wanting.ensures.gathers o s follows in
          let n = gather.next in
          let at = view_in (gathered n s.views) c.in-Some.place (omega (arith, count_is n (gathered_stage n s) mid c.gather.new.self gather.follows, c.in_ok-wanting.ensures.count, c.in-Some.ensures.within)) in
          printed_all g.W.Sink g.S.Source c.followed_traces_join.ensures (Dump view) Pixels (bytes_eq view) (λ s. refl) o s c.args.out.now old c.args.source.now c.args.views.now mid c.gather.new.source c.gather.new.self follows
          c.in_ok-wanting.wanting gather (λ begun. IsLastIn begun at.0) c.in_ok-failing.failing c.print_pixels.new.out new (record {
            events = printed (view_line n Pixels at.0);
            same = dump_events n o s old c.args.views.now follows gather.follows.distinct view c.in-Some.place at.0 found at.1;
            knows = λ begun known. last_at begun (gathered n s.views) c.in-Some.place at.0 known at.1;
            prints_is = c.in_ok-failing.ensures.prints n (gathered_stage n s) at.0 gather.follows at.1;
          }),
    )

pub returns-clause-cause : goal.returns-clause-cause
returns-clause-cause g c = record { later = c.in_ok-failing.ensures.cause.later; rose = λ e. cc }
