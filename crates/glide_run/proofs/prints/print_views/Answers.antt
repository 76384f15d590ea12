use Rattle.std.proofs.Common.{◌+◌, Ok, Err, arith}
use Rattle.engine_views.specs.Following.{standing}
use Rattle.glide_run.specs.inside.Prints.{printer}
use Rattle.glide_run.proofs.Printing.{view_in, count_is, err_is}
use Rattle.glide_run.proofs.Views.{none_printed, one_printed, all_printed, some_printed}
use Rattle.glide_run.proofs.prints.print_views.Goals as goal

pub loop-place-init : goal.loop-place-init
loop-place-init g c = record {
  prints = λ outcome s follows. none_printed g.W.Sink c.args.views.now c.followed_traces_join.ensures outcome s.views (printer c.args.out.now (g.E.EngineCalls.caller c.args.engine.now));
  on_walk = c.requires.on_walk;
  later = omega arith;
}

pub returns-in_err-failing-clause-prints : goal.returns-in_err-failing-clause-prints
returns-in_err-failing-clause-prints g c =
    λ outcome s follows.
    let views = c.args.views.now in
    let old = g.E.EngineCalls.caller c.args.engine.now in
    let mid = g.E.EngineCalls.caller c.loop-place.engine in
    let new = g.E.EngineCalls.caller c.print_digest.new.engine in
    let place = c.loop-place.place in
    let so_far = c.loop-place.invariant.prints outcome s follows in
    let at = view_in s.views place (omega (arith, count_is outcome s old views follows, c.count-place-end.ensures, c.loop-place-test.true)) in
    some_printed g.W.Sink views c.followed_traces_join.ensures outcome s.views place at.0 c.loop-place.failing (printer c.args.out.now old) (printer c.loop-place.out mid) (printer c.print_digest.new.out new) at.1
    so_far (c.in_err-failing.ensures.prints outcome s at.0 (so_far.asks.follows outcome s follows) at.1) (err_is c.from_residual.result c.from_residual.ensures.1)

pub loop-place-preserved : goal.loop-place-preserved
loop-place-preserved g c =
    let views = c.args.views.now in
    let old = g.E.EngineCalls.caller c.args.engine.now in
    let mid = g.E.EngineCalls.caller c.loop-place.engine in
    let new = g.E.EngineCalls.caller c.print_digest.new.engine in
    let place = c.loop-place.place in
    let walk = c.loop-place.invariant.on_walk in
    let here = view_in walk.1.views place (omega (arith, count_is walk.0 walk.1 mid views walk.2, c.count-place-end.ensures, c.loop-place-test.true)) in
    record {
      prints = λ outcome s follows.
          let so_far = c.loop-place.invariant.prints outcome s follows in
          let at = view_in s.views place (omega (arith, count_is outcome s old views follows, c.count-place-end.ensures, c.loop-place-test.true)) in
          one_printed g.W.Sink views c.followed_traces_join.ensures outcome s.views place at.0 c.loop-place.failing c.in_ok-failing.field-0 (printer c.args.out.now old) (printer c.loop-place.out mid) (printer c.print_digest.new.out new) at.1
          so_far (c.in_ok-failing.ensures.prints outcome s at.0 (so_far.asks.follows outcome s follows) at.1);
      on_walk = (walk.0, walk.1, (c.in_ok-failing.ensures.prints walk.0 walk.1 here.0 walk.2 here.1).asks.follows walk.0 walk.1 walk.2);
      later = omega (arith, c.loop-place.invariant.later, c.in_ok-failing.ensures.cause.later);
    }

pub returns-clause-prints : goal.returns-clause-prints
returns-clause-prints g c =
    λ outcome s follows.
    let views = c.args.views.now in
    let old = g.E.EngineCalls.caller c.args.engine.now in
    all_printed g.W.Sink views c.followed_traces_join.ensures outcome s.views c.loop-place.place c.loop-place.failing (printer c.args.out.now old) (printer c.loop-place.out (g.E.EngineCalls.caller c.loop-place.engine))
    (omega (arith, count_is outcome s old views follows, c.count-place-end.ensures, c.loop-place-test.false)) (c.loop-place.invariant.prints outcome s follows)
