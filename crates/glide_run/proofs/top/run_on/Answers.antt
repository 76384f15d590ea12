use Rattle.std.proofs.Common.{ℕ, ◌-◌, ◌≤◌, ◌<◌, ◌∙◌, arith}
use Rattle.glide_run.specs.Handed.{meanings}
use Rattle.glide_run.proofs.Ends.{stop_is, reach_is, reach_whole}
use Rattle.glide_run.proofs.top.run_on.Goals as goal

pub returns-in-Ok-clause-run : goal.returns-in-Ok-clause-run
returns-in-Ok-clause-run g c =
    let m = meanings g.I.Input g.W.Sink g.S.Source in
    let old = g.E.EngineCalls.caller c.args.engine.now in
    let mid = g.E.EngineCalls.caller c.obey_script-result.new.engine in
    let new = g.E.EngineCalls.caller c.close.new.engine in
    reach_is m c.runs_are_walks.ensures c.args.settings.now c.args.input.now c.args.out.now c.args.source.now old c.requires.fresh c.requires.opens
    c.obey_script-result.result c.obey_script-result.new.input c.obey_script-result.new.out c.obey_script-result.new.source mid c.obey_script-result.ensures.run c.close.result new c.close.ensures
    c.in-Ok.ended c.in-Ok.is c.saturating_sub.result (c.saturating_sub.ensures ∙ (λ i. c.fetches.ensures i - c.fetches-fetched.ensures i)) c.end.new.out c.end.result c.end.ensures.status c.end.ensures.memory c.end.ensures.bytes

pub returns-in-Ok-clause-complete : goal.returns-in-Ok-clause-complete
returns-in-Ok-clause-complete g c =
    let m = meanings g.I.Input g.W.Sink g.S.Source in
    let old = g.E.EngineCalls.caller c.args.engine.now in
    let mid = g.E.EngineCalls.caller c.obey_script-result.new.engine in
    let new = g.E.EngineCalls.caller c.close.new.engine in
    reach_whole m c.runs_are_walks.ensures c.args.settings.now c.args.input.now c.args.out.now c.args.source.now old c.requires.fresh c.requires.opens
    c.obey_script-result.result c.obey_script-result.new.input c.obey_script-result.new.out c.obey_script-result.new.source mid c.obey_script-result.ensures.run c.close.result new c.close.ensures
    c.in-Ok.ended c.in-Ok.is c.saturating_sub.result (c.saturating_sub.ensures ∙ (λ i. c.fetches.ensures i - c.fetches-fetched.ensures i)) c.end.new.out c.end.result c.end.ensures.status c.end.ensures.memory c.end.ensures.bytes
    (λ still six. still.sink (omega (arith, c.obey_script-result.ensures.sink.later, c.end.ensures.cause.rose six)))

pub returns-in-Err-Memory-clause-run : goal.returns-in-Err-Memory-clause-run
returns-in-Err-Memory-clause-run g c =
    let m = meanings g.I.Input g.W.Sink g.S.Source in
    let old = g.E.EngineCalls.caller c.args.engine.now in
    let mid = g.E.EngineCalls.caller c.obey_script-result.new.engine in
    let new = g.E.EngineCalls.caller c.close.new.engine in
    stop_is m c.runs_are_walks.ensures c.args.settings.now c.args.input.now c.args.out.now c.args.source.now old c.requires.fresh c.requires.opens
    c.obey_script-result.result c.obey_script-result.new.input c.obey_script-result.new.out c.obey_script-result.new.source mid c.obey_script-result.ensures.run c.close.result new c.close.ensures 4 (omega arith)

pub returns-in-Err-Input-clause-run : goal.returns-in-Err-Input-clause-run
returns-in-Err-Input-clause-run g c =
    let m = meanings g.I.Input g.W.Sink g.S.Source in
    let old = g.E.EngineCalls.caller c.args.engine.now in
    let mid = g.E.EngineCalls.caller c.obey_script-result.new.engine in
    let new = g.E.EngineCalls.caller c.close.new.engine in
    stop_is m c.runs_are_walks.ensures c.args.settings.now c.args.input.now c.args.out.now c.args.source.now old c.requires.fresh c.requires.opens
    c.obey_script-result.result c.obey_script-result.new.input c.obey_script-result.new.out c.obey_script-result.new.source mid c.obey_script-result.ensures.run c.close.result new c.close.ensures 5 (omega arith)

pub returns-in-Err-Write-clause-run : goal.returns-in-Err-Write-clause-run
returns-in-Err-Write-clause-run g c =
    let m = meanings g.I.Input g.W.Sink g.S.Source in
    let old = g.E.EngineCalls.caller c.args.engine.now in
    let mid = g.E.EngineCalls.caller c.obey_script-result.new.engine in
    let new = g.E.EngineCalls.caller c.close.new.engine in
    stop_is m c.runs_are_walks.ensures c.args.settings.now c.args.input.now c.args.out.now c.args.source.now old c.requires.fresh c.requires.opens
    c.obey_script-result.result c.obey_script-result.new.input c.obey_script-result.new.out c.obey_script-result.new.source mid c.obey_script-result.ensures.run c.close.result new c.close.ensures 6 (omega arith)
