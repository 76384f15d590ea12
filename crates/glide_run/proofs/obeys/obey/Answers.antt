use Rattle.std.proofs.Common.{Ok, Err, true, refl, sym, ap, subst, ◌∙◌, inl}
use Rattle.std.specs.Prelude.{not}
use Rattle.faults.specs.declared.NoMemory.{NoMemory}
use Rattle.script_lines.specs.declared.commands.Command.{Command}
use Rattle.script_lines.specs.declared.commands.Command.TheVariants.{Load, Layout, Clear, ClearAll, Pause, PauseAll, Resume, Trim, Wait}
use Rattle.request_tracker.specs.declared.views.Act.TheVariants as acts
use Rattle.engine_views.specs.Following.{standing}
use Rattle.glide_run.specs.inside.Obeys.{moment, no_troubles, Gives}
use Rattle.glide_run.specs.declared.run.Obeyed.TheVariants as obeyed
use Rattle.glide_run.specs.declared.run.Stop.TheVariants.{Memory}
use Rattle.glide_run.proofs.Printing.{err_is, no_cause, memory_alone}
use Rattle.glide_run.proofs.Commands.{moves_gives, stopped_before, load_moves, layout_moves, clear_moves, act_moves, trim_moves, is_true}
use Rattle.glide_run.proofs.obeys.obey.Goals as goal

pub returns-in_ok-load-in-Load-clause-gives : goal.returns-in_ok-load-in-Load-clause-gives
returns-in_ok-load-in-Load-clause-gives g c =
    let old = g.E.EngineCalls.caller c.args.engine.now in
    let new = g.E.EngineCalls.caller c.load.new.engine in
    subst (λ (x : Command). Gives g.W.Sink g.S.Source x (Ok c.in_ok-load-in-Load.field-0) (moment c.args.out.now old c.args.source.now c.args.views.now) (moment c.args.out.now new c.args.source.now c.load.new.views)) (sym c.in-Load.is)
    (moves_gives g.W.Sink g.S.Source NoMemory (Load c.in-Load.view c.in-Load.spec c.in-Load.sized) c.in_ok-load-in-Load.field-0 c.args.out.now c.args.source.now (standing old c.args.views.now) (standing new c.load.new.views) (sym c.is_built_load.ensures ∙ is_true _ c.if-not-is_built_load.false) (load_moves c.in-Load.view c.in-Load.spec c.in-Load.sized) c.in_ok-load-in-Load.ensures)

pub returns-in_ok-layout-in-Layout-clause-gives : goal.returns-in_ok-layout-in-Layout-clause-gives
returns-in_ok-layout-in-Layout-clause-gives g c =
    let old = g.E.EngineCalls.caller c.args.engine.now in
    let new = g.E.EngineCalls.caller c.layout.new.engine in
    subst (λ (x : Command). Gives g.W.Sink g.S.Source x (Ok c.in_ok-layout-in-Layout.field-0) (moment c.args.out.now old c.args.source.now c.args.views.now) (moment c.args.out.now new c.args.source.now c.layout.new.views)) (sym c.in-Layout.is)
    (moves_gives g.W.Sink g.S.Source NoMemory (Layout c.in-Layout.view c.in-Layout.width c.in-Layout.height) c.in_ok-layout-in-Layout.field-0 c.args.out.now c.args.source.now (standing old c.args.views.now) (standing new c.layout.new.views) refl (layout_moves c.in-Layout.view c.in-Layout.width c.in-Layout.height) c.in_ok-layout-in-Layout.ensures)

pub returns-in_ok-clear-in-Clear-clause-gives : goal.returns-in_ok-clear-in-Clear-clause-gives
returns-in_ok-clear-in-Clear-clause-gives g c =
    let old = g.E.EngineCalls.caller c.args.engine.now in
    let new = g.E.EngineCalls.caller c.clear.new.engine in
    subst (λ (x : Command). Gives g.W.Sink g.S.Source x (Ok c.in_ok-clear-in-Clear.field-0) (moment c.args.out.now old c.args.source.now c.args.views.now) (moment c.args.out.now new c.args.source.now c.clear.new.views)) (sym c.in-Clear.is)
    (moves_gives g.W.Sink g.S.Source NoMemory (Clear c.in-Clear.view) c.in_ok-clear-in-Clear.field-0 c.args.out.now c.args.source.now (standing old c.args.views.now) (standing new c.clear.new.views) refl (clear_moves c.in-Clear.view) c.in_ok-clear-in-Clear.ensures)

pub returns-in_ok-act-in-ClearAll-clause-gives : goal.returns-in_ok-act-in-ClearAll-clause-gives
returns-in_ok-act-in-ClearAll-clause-gives g c =
    let old = g.E.EngineCalls.caller c.args.engine.now in
    let new = g.E.EngineCalls.caller c.act.new.engine in
    subst (λ (x : Command). Gives g.W.Sink g.S.Source x (Ok c.in_ok-act-in-ClearAll.field-0) (moment c.args.out.now old c.args.source.now c.args.views.now) (moment c.args.out.now new c.args.source.now c.act.new.views)) (sym c.in-ClearAll.is)
    (moves_gives g.W.Sink g.S.Source NoMemory (ClearAll) c.in_ok-act-in-ClearAll.field-0 c.args.out.now c.args.source.now (standing old c.args.views.now) (standing new c.act.new.views) refl (act_moves acts.ClearAll) c.in_ok-act-in-ClearAll.ensures)

pub returns-in_ok-act-in-Pause-clause-gives : goal.returns-in_ok-act-in-Pause-clause-gives
returns-in_ok-act-in-Pause-clause-gives g c =
    let old = g.E.EngineCalls.caller c.args.engine.now in
    let new = g.E.EngineCalls.caller c.act-in-Pause.new.engine in
    subst (λ (x : Command). Gives g.W.Sink g.S.Source x (Ok c.in_ok-act-in-Pause.field-0) (moment c.args.out.now old c.args.source.now c.args.views.now) (moment c.args.out.now new c.args.source.now c.act-in-Pause.new.views)) (sym c.in-Pause.is)
    (moves_gives g.W.Sink g.S.Source NoMemory (Pause) c.in_ok-act-in-Pause.field-0 c.args.out.now c.args.source.now (standing old c.args.views.now) (standing new c.act-in-Pause.new.views) refl (act_moves acts.Pause) c.in_ok-act-in-Pause.ensures)

pub returns-in_ok-act-in-PauseAll-clause-gives : goal.returns-in_ok-act-in-PauseAll-clause-gives
returns-in_ok-act-in-PauseAll-clause-gives g c =
    let old = g.E.EngineCalls.caller c.args.engine.now in
    let new = g.E.EngineCalls.caller c.act-in-PauseAll.new.engine in
    subst (λ (x : Command). Gives g.W.Sink g.S.Source x (Ok c.in_ok-act-in-PauseAll.field-0) (moment c.args.out.now old c.args.source.now c.args.views.now) (moment c.args.out.now new c.args.source.now c.act-in-PauseAll.new.views)) (sym c.in-PauseAll.is)
    (moves_gives g.W.Sink g.S.Source NoMemory (PauseAll) c.in_ok-act-in-PauseAll.field-0 c.args.out.now c.args.source.now (standing old c.args.views.now) (standing new c.act-in-PauseAll.new.views) refl (act_moves acts.PauseAll) c.in_ok-act-in-PauseAll.ensures)

pub returns-in_ok-act-in-Resume-clause-gives : goal.returns-in_ok-act-in-Resume-clause-gives
returns-in_ok-act-in-Resume-clause-gives g c =
    let old = g.E.EngineCalls.caller c.args.engine.now in
    let new = g.E.EngineCalls.caller c.act-in-Resume.new.engine in
    subst (λ (x : Command). Gives g.W.Sink g.S.Source x (Ok c.in_ok-act-in-Resume.field-0) (moment c.args.out.now old c.args.source.now c.args.views.now) (moment c.args.out.now new c.args.source.now c.act-in-Resume.new.views)) (sym c.in-Resume.is)
    (moves_gives g.W.Sink g.S.Source NoMemory (Resume) c.in_ok-act-in-Resume.field-0 c.args.out.now c.args.source.now (standing old c.args.views.now) (standing new c.act-in-Resume.new.views) refl (act_moves acts.Resume) c.in_ok-act-in-Resume.ensures)

pub returns-in-Trim-clause-gives : goal.returns-in-Trim-clause-gives
returns-in-Trim-clause-gives g c =
    let old = g.E.EngineCalls.caller c.args.engine.now in
    let new = g.E.EngineCalls.caller c.trim.new.engine in
    subst (λ (x : Command). Gives g.W.Sink g.S.Source x (Ok (obeyed.Done no_troubles)) (moment c.args.out.now old c.args.source.now c.args.views.now) (moment c.args.out.now new c.args.source.now c.args.views.now)) (sym c.in-Trim.is)
    (moves_gives g.W.Sink g.S.Source NoMemory (Trim c.in-Trim.level) (obeyed.Done no_troubles) c.args.out.now c.args.source.now (standing old c.args.views.now) (standing new c.args.views.now) refl (trim_moves c.in-Trim.level)
    (refl, refl, c.trim.ensures c.args.views.now c.requires.on_walk))

pub returns-in-Wait-clause-cause : goal.returns-in-Wait-clause-cause
returns-in-Wait-clause-cause g c = no_cause (g.W.Sink.faults c.args.out.now) c.wait.result c.wait.ensures.stop

pub returns-in-Wait-clause-input : goal.returns-in-Wait-clause-input
returns-in-Wait-clause-input g c = λ e. memory_alone c.wait.result c.wait.ensures.stop e
