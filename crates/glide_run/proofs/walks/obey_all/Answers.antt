use Rattle.std.proofs.Common.{◌≡◌, ◌<◌, Ok, Err, Some, None, refl, sym, subst, arith}
use Rattle.std.specs.Prelude.{IfSome}
use Rattle.script_lines.specs.Script.{Numbered}
use Rattle.script_lines.specs.Reading.{ahead, NextGives, IsNext}
use Rattle.glide_run.specs.inside.Obeys.{moment, no_troubles}
use Rattle.glide_run.specs.inside.Running.{HasWorked}
use Rattle.glide_run.specs.declared.run.Stop.TheVariants.{Memory}
use Rattle.glide_run.proofs.Printing.{err_is}
use Rattle.glide_run.proofs.Steps.{Laws}
use Rattle.glide_run.proofs.SoFar.{SoFar, started, starts, unread, on_walk, still_tells, may_load, ends_with, ends_by, goes_on, ends_bad, breaks}
use Rattle.glide_run.proofs.walks.obey_all.Goals as goal

pub returns-in_err-reader-clause-works : goal.returns-in_err-reader-clause-works
returns-in_err-reader-clause-works g c =
    let laws : Laws = record { next_gather = c.begins_end_at_the_next_gather.ensures; decide = c.ends_decide_the_walk.ensures; go_on = c.walks_go_on.ensures; tracker = c.a_tracker_makes_the_moves.ensures; join = c.followed_traces_join.ensures } in
    let text = g.I.Input.left c.args.input.now in
    let old = moment c.args.out.now (g.E.EngineCalls.caller c.args.engine.now) c.args.source.now c.args.views.now in
    subst (λ r. HasWorked g.W.Sink g.S.Source text r old old) (sym (err_is c.from_residual.result {e = Memory} c.from_residual.ensures.1)) (unread g.W.Sink g.S.Source laws text old c.requires.fresh c.requires.views Memory)

pub commands-init : goal.commands-init
commands-init g c =
    let laws : Laws = record { next_gather = c.begins_end_at_the_next_gather.ensures; decide = c.ends_decide_the_walk.ensures; go_on = c.walks_go_on.ensures; tracker = c.a_tracker_makes_the_moves.ensures; join = c.followed_traces_join.ensures } in
    let text = g.I.Input.left c.args.input.now in
    let old = moment c.args.out.now (g.E.EngineCalls.caller c.args.engine.now) c.args.source.now c.args.views.now in
    record {
      so_far = starts g.W.Sink g.S.Source laws text old (ahead c.in_ok-reader.reader text) c.in_ok-reader.reader.room c.requires.fresh c.requires.views (c.in_ok-reader.ensures.script text) (started c.in_ok-reader.reader c.in_ok-reader.ensures.start);
      sink = omega arith;
      input = omega arith;
    }

pub returns-in-Ok-None-clause-works : goal.returns-in-Ok-None-clause-works
returns-in-Ok-None-clause-works g c =
    let laws : Laws = record { next_gather = c.begins_end_at_the_next_gather.ensures; decide = c.ends_decide_the_walk.ensures; go_on = c.walks_go_on.ensures; tracker = c.a_tracker_makes_the_moves.ensures; join = c.followed_traces_join.ensures } in
    let text = g.I.Input.left c.args.input.now in
    let old = moment c.args.out.now (g.E.EngineCalls.caller c.args.engine.now) c.args.source.now c.args.views.now in
    let now = moment c.commands.out (g.E.EngineCalls.caller c.commands.engine) c.commands.source c.commands.views in
    let asked = ahead c.commands.reader (g.I.Input.left c.commands.input) in
    let after = ahead c.next.new.self (g.I.Input.left c.next.new.input) in
    let gives = subst (λ x. NextGives (Ok x) c.next.new.self.line asked after) c.in-Ok-None.field-0-is c.in-Ok-None.ensures.gives in
    ends_with g.W.Sink g.S.Source laws text old asked c.commands.troubles c.commands.reader.room now c.commands.invariant.so_far None gives.0

pub returns-in-Err-clause-works : goal.returns-in-Err-clause-works
returns-in-Err-clause-works g c =
    let laws : Laws = record { next_gather = c.begins_end_at_the_next_gather.ensures; decide = c.ends_decide_the_walk.ensures; go_on = c.walks_go_on.ensures; tracker = c.a_tracker_makes_the_moves.ensures; join = c.followed_traces_join.ensures } in
    let text = g.I.Input.left c.args.input.now in
    let old = moment c.args.out.now (g.E.EngineCalls.caller c.args.engine.now) c.args.source.now c.args.views.now in
    let now = moment c.commands.out (g.E.EngineCalls.caller c.commands.engine) c.commands.source c.commands.views in
    let asked = ahead c.commands.reader (g.I.Input.left c.commands.input) in
    let after = ahead c.next.new.self (g.I.Input.left c.next.new.input) in
    subst (λ r. HasWorked g.W.Sink g.S.Source text r old now) (sym c.ended_by.ensures)
    (ends_by g.W.Sink g.S.Source laws text old asked c.commands.troubles c.commands.reader.room now c.commands.invariant.so_far c.in-Err.fault c.next.new.self.line after c.in-Err.ensures.gives)

pub obey-requires-clause-on_walk : goal.obey-requires-clause-on_walk
obey-requires-clause-on_walk g c =
    let laws : Laws = record { next_gather = c.begins_end_at_the_next_gather.ensures; decide = c.ends_decide_the_walk.ensures; go_on = c.walks_go_on.ensures; tracker = c.a_tracker_makes_the_moves.ensures; join = c.followed_traces_join.ensures } in
    let text = g.I.Input.left c.args.input.now in
    let old = moment c.args.out.now (g.E.EngineCalls.caller c.args.engine.now) c.args.source.now c.args.views.now in
    let now = moment c.commands.out (g.E.EngineCalls.caller c.commands.engine) c.commands.source c.commands.views in
    let asked = ahead c.commands.reader (g.I.Input.left c.commands.input) in
    let after = ahead c.next.new.self (g.I.Input.left c.next.new.input) in
    on_walk g.W.Sink g.S.Source laws text old asked c.commands.troubles c.commands.reader.room now c.commands.invariant.so_far

pub obey-requires-clause-few : goal.obey-requires-clause-few
obey-requires-clause-few g c =
    let laws : Laws = record { next_gather = c.begins_end_at_the_next_gather.ensures; decide = c.ends_decide_the_walk.ensures; go_on = c.walks_go_on.ensures; tracker = c.a_tracker_makes_the_moves.ensures; join = c.followed_traces_join.ensures } in
    let text = g.I.Input.left c.args.input.now in
    let old = moment c.args.out.now (g.E.EngineCalls.caller c.args.engine.now) c.args.source.now c.args.views.now in
    let now = moment c.commands.out (g.E.EngineCalls.caller c.commands.engine) c.commands.source c.commands.views in
    let asked = ahead c.commands.reader (g.I.Input.left c.commands.input) in
    let after = ahead c.next.new.self (g.I.Input.left c.next.new.input) in
    may_load g.W.Sink g.S.Source laws text old asked c.commands.troubles c.commands.reader.room now c.commands.invariant.so_far c.next.new.self.room
    (subst (λ x. IfSome x (λ command. c.next.new.self.room < c.commands.reader.room)) c.in-Ok-Some.field-0-is c.in-Ok-Some.ensures.room)

pub obey-requires-clause-content : goal.obey-requires-clause-content
obey-requires-clause-content g c =
    let laws : Laws = record { next_gather = c.begins_end_at_the_next_gather.ensures; decide = c.ends_decide_the_walk.ensures; go_on = c.walks_go_on.ensures; tracker = c.a_tracker_makes_the_moves.ensures; join = c.followed_traces_join.ensures } in
    let text = g.I.Input.left c.args.input.now in
    let old = moment c.args.out.now (g.E.EngineCalls.caller c.args.engine.now) c.args.source.now c.args.views.now in
    let now = moment c.commands.out (g.E.EngineCalls.caller c.commands.engine) c.commands.source c.commands.views in
    let asked = ahead c.commands.reader (g.I.Input.left c.commands.input) in
    let after = ahead c.next.new.self (g.I.Input.left c.next.new.input) in
    still_tells g.W.Sink g.S.Source laws text old asked c.commands.troubles c.commands.reader.room now c.commands.invariant.so_far c.requires.content

pub returns-in_err-more-clause-works : goal.returns-in_err-more-clause-works
returns-in_err-more-clause-works g c =
    let laws : Laws = record { next_gather = c.begins_end_at_the_next_gather.ensures; decide = c.ends_decide_the_walk.ensures; go_on = c.walks_go_on.ensures; tracker = c.a_tracker_makes_the_moves.ensures; join = c.followed_traces_join.ensures } in
    let text = g.I.Input.left c.args.input.now in
    let old = moment c.args.out.now (g.E.EngineCalls.caller c.args.engine.now) c.args.source.now c.args.views.now in
    let now = moment c.commands.out (g.E.EngineCalls.caller c.commands.engine) c.commands.source c.commands.views in
    let asked = ahead c.commands.reader (g.I.Input.left c.commands.input) in
    let after = ahead c.next.new.self (g.I.Input.left c.next.new.input) in
    let first : Numbered = record { line = c.next.new.self.line; command = c.in-Ok-Some.command } in
    let next : IsNext asked first after = subst (λ x. NextGives (Ok x) c.next.new.self.line asked after) c.in-Ok-Some.field-0-is c.in-Ok-Some.ensures.gives in
    let new = moment c.obey.new.out (g.E.EngineCalls.caller c.obey.new.engine) c.obey.new.source c.obey.new.views in
    subst (λ r. HasWorked g.W.Sink g.S.Source text r old new) (sym (err_is c.from_residual-in_err-more.result {e = c.in_err-more.field-0.0} c.from_residual-in_err-more.ensures.1))
    (breaks g.W.Sink g.S.Source laws text old asked c.commands.troubles c.commands.reader.room now c.commands.invariant.so_far first after next new c.in_err-more.field-0.0 c.in_err-more.ensures.gives)

pub commands-preserved : goal.commands-preserved
commands-preserved g c =
    let laws : Laws = record { next_gather = c.begins_end_at_the_next_gather.ensures; decide = c.ends_decide_the_walk.ensures; go_on = c.walks_go_on.ensures; tracker = c.a_tracker_makes_the_moves.ensures; join = c.followed_traces_join.ensures } in
    let text = g.I.Input.left c.args.input.now in
    let old = moment c.args.out.now (g.E.EngineCalls.caller c.args.engine.now) c.args.source.now c.args.views.now in
    let now = moment c.commands.out (g.E.EngineCalls.caller c.commands.engine) c.commands.source c.commands.views in
    let asked = ahead c.commands.reader (g.I.Input.left c.commands.input) in
    let after = ahead c.next.new.self (g.I.Input.left c.next.new.input) in
    let first : Numbered = record { line = c.next.new.self.line; command = c.in-Ok-Some.command } in
    let next : IsNext asked first after = subst (λ x. NextGives (Ok x) c.next.new.self.line asked after) c.in-Ok-Some.field-0-is c.in-Ok-Some.ensures.gives in
    let new = moment c.obey.new.out (g.E.EngineCalls.caller c.obey.new.engine) c.obey.new.source c.obey.new.views in
    record {
      so_far = subst (λ t. SoFar g.W.Sink g.S.Source text old after t c.next.new.self.room new) (sym c.and-troubles.ensures)
          (goes_on g.W.Sink g.S.Source laws text old asked c.commands.troubles c.commands.reader.room now c.commands.invariant.so_far first after next new c.in-Done.more c.in_ok-more.field-0 c.next.new.self.room
          (subst (λ x. IfSome x (λ command. c.next.new.self.room < c.commands.reader.room)) c.in-Ok-Some.field-0-is c.in-Ok-Some.ensures.room) c.in-Done.is c.in_ok-more.ensures.gives);
      sink = omega (arith, c.commands.invariant.sink, c.in_ok-more.ensures.cause.later);
      input = omega (arith, c.commands.invariant.input, c.in-Ok-Some.ensures.cause.later);
    }

pub returns-in-Bad-clause-works : goal.returns-in-Bad-clause-works
returns-in-Bad-clause-works g c =
    let laws : Laws = record { next_gather = c.begins_end_at_the_next_gather.ensures; decide = c.ends_decide_the_walk.ensures; go_on = c.walks_go_on.ensures; tracker = c.a_tracker_makes_the_moves.ensures; join = c.followed_traces_join.ensures } in
    let text = g.I.Input.left c.args.input.now in
    let old = moment c.args.out.now (g.E.EngineCalls.caller c.args.engine.now) c.args.source.now c.args.views.now in
    let now = moment c.commands.out (g.E.EngineCalls.caller c.commands.engine) c.commands.source c.commands.views in
    let asked = ahead c.commands.reader (g.I.Input.left c.commands.input) in
    let after = ahead c.next.new.self (g.I.Input.left c.next.new.input) in
    let first : Numbered = record { line = c.next.new.self.line; command = c.in-Ok-Some.command } in
    let next : IsNext asked first after = subst (λ x. NextGives (Ok x) c.next.new.self.line asked after) c.in-Ok-Some.field-0-is c.in-Ok-Some.ensures.gives in
    let new = moment c.obey.new.out (g.E.EngineCalls.caller c.obey.new.engine) c.obey.new.source c.obey.new.views in
    subst (λ n. HasWorked g.W.Sink g.S.Source text (Ok record { bad = Some n; troubles = c.commands.troubles }) old new) (sym c.line.ensures)
    (ends_bad g.W.Sink g.S.Source laws text old asked c.commands.troubles c.commands.reader.room now c.commands.invariant.so_far first after next new c.in_ok-more.field-0 c.in-Bad.is c.in_ok-more.ensures.gives)
