use Rattle.std.proofs.Common.{◌≡◌, ◌<◌, length, refl, sym, ap, subst, ◌∙◌, arith, add-one}
use Rattle.engine_views.specs.Held.{Held, loads_in}
use Rattle.engine_views.specs.Following.{standing}
use Rattle.engine_views.specs.inside.Collects.{outcome_now, AreGatheredTo}
use Rattle.engine_views.proofs.Gathering.{GatherLaws, one_more}
use Rattle.engine_views.proofs.WholeGather.{tracked_count, ran_just, none_gathered, all_gathered, same_count}
use Rattle.engine_views.proofs.holds.EngineViews.gather.Goals as goal

pub loop-place-init : goal.loop-place-init
loop-place-init g c =
    let source = g.S.Source in
    let old = g.E.EngineCalls.caller c.args.engine.now in
    let first = g.E.EngineCalls.caller c.run_jobs-wanting.new.engine in
    let now = c.args.self.now in
    let before = c.args.source.now in
    let after = c.run_jobs-wanting.new.source in
    let wanting = c.run_jobs-wanting.result in
    let run = c.run_jobs-wanting.ensures in
    record {
      count = refl;
      size = subst (λ (h : Held). length h.holds ≡ length h.tracked.views) c.self.view_is c.self.invariant.0;
      just = ran_just source wanting old first before after run (loads_in now.holds) c.requires.on_walk.2.just;
      gathered = λ outcome s follows. none_gathered source wanting old first before after run outcome s now follows;
    }

pub loop-place-preserved : goal.loop-place-preserved
loop-place-preserved g c =
    let first = g.E.EngineCalls.caller c.run_jobs-wanting.new.engine in
    let place = c.loop-place.place in
    let was = c.loop-place.invariant in
    let old = standing (g.E.EngineCalls.caller c.loop-place.engine) c.loop-place.self in
    let new = standing (g.E.EngineCalls.caller c.collect.new.engine) c.collect.new.self in
    let laws : GatherLaws = record {
      stay = c.calls_tell_what_they_add.ensures.stay;
      ready = c.calls_tell_what_they_add.ensures.stay_ready;
      jobs = c.calls_leave_the_rest.ensures.stay;
      counts = c.calls_leave_the_rest.ensures.others;
      opening = c.each_event_keeps_opening.ensures;
      join = c.followed_traces_join.ensures;
      fails = c.failures_add_up.ensures.entry;
      runs = c.failures_add_up.ensures.runs;
    } in
    record {
      count = c.collect.ensures.count ∙ was.count;
      size = was.size;
      just = c.collect.ensures.just;
      gathered = λ outcome s follows.
          let less : place < length s.views = omega (arith, c.loop-place-test.true, c.count-place-end.ensures, ap (λ (h : Held). length h.tracked.views) c.self.view_is, tracked_count c.args.self.now s follows.tracked_is) in
          subst (λ n. AreGatheredTo n (outcome_now s.gathers first outcome) s first new) (sym (add-one place))
          (one_more laws first c.run_jobs-wanting.ensures.none_waits outcome s follows.begins place old new less (was.gathered outcome s follows) c.collect.ensures.collects c.collect.ensures.just);
    }

pub returns-clause-gathers : goal.returns-clause-gathers
returns-clause-gathers g c outcome s follows =
    let source = g.S.Source in
    let old = g.E.EngineCalls.caller c.args.engine.now in
    let first = g.E.EngineCalls.caller c.run_jobs-wanting.new.engine in
    let last = g.E.EngineCalls.caller c.loop-place.engine in
    let place = c.loop-place.place in
    let now = c.args.self.now in
    let end : place ≡ length s.views = omega (arith, c.loop-place-test.false, c.loop-place.auto.place-end, c.count-place-end.ensures, ap (λ (h : Held). length h.tracked.views) c.self.view_is, tracked_count now s follows.tracked_is) in
    all_gathered source c.run_jobs-wanting.result old first c.args.source.now c.run_jobs-wanting.new.source c.run_jobs-wanting.ensures outcome s now follows c.followed_traces_join.ensures last c.loop-place.self
    (subst (λ n. AreGatheredTo n (outcome_now s.gathers first outcome) s first (standing last c.loop-place.self)) end (c.loop-place.invariant.gathered outcome s follows))

pub returns-clause-count : goal.returns-clause-count
returns-clause-count g c =
    let old = g.E.EngineCalls.caller c.args.engine.now in
    let first = g.E.EngineCalls.caller c.run_jobs-wanting.new.engine in
    let last = g.E.EngineCalls.caller c.loop-place.engine in
    let walk = c.requires.on_walk in
    same_count g.S.Source c.run_jobs-wanting.result old first c.args.source.now c.run_jobs-wanting.new.source c.run_jobs-wanting.ensures walk.0 walk.1 c.args.self.now walk.2 c.loop-place.place last c.loop-place.self
    (c.loop-place.invariant.gathered walk.0 walk.1 walk.2)
