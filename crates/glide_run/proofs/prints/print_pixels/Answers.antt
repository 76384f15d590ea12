use Rattle.std.proofs.Common.{Ok, Err, true, false, refl, sym, ap, subst, ◌∙◌, arith}
use Rattle.printed_lines.specs.Printed.{PixelsLine}
use Rattle.script_walk.specs.Walk.{Pixels, view_line}
use Rattle.glide_run.specs.inside.Prints.{printer, PrintsView}
use Rattle.glide_run.proofs.Printing.{name_is, view_in, count_is, picture_at, prints_one, prints_torn, prints_picture, err_is}
use Rattle.glide_run.proofs.prints.print_pixels.Goals as goal

pub returns-in_err-write_pixels-in-Some-clause-prints : goal.returns-in_err-write_pixels-in-Some-clause-prints
returns-in_err-write_pixels-in-Some-clause-prints g c =
    λ outcome s v follows at.
    let old = g.E.EngineCalls.caller c.args.engine.now in
    let new = g.E.EngineCalls.caller c.write_pixels.new.engine in
    let shown = c.in-Some.ensures old outcome s v follows at in
    let picture = shown.shows.ready.picture in
    let bytes = c.bytes.result.now in
    let e = picture_at outcome s old c.args.views.now follows c.args.place v at c.name.result.now bytes c.in-Some.load.now Pixels c.name.ensures c.bytes.ensures shown in
    let same = name_is outcome s old c.args.views.now follows c.args.place v at c.name.result.now c.name.ensures ∙ sym c.bytes.ensures in
    let fault = c.in_err-write_pixels-in-Some.field-0.0 in
    subst (PrintsView g.W.Sink c.args.views.now outcome Pixels v (printer c.args.out.now old) (printer c.write_pixels.new.out new)) (sym (err_is c.from_residual.result c.from_residual.ensures.1))
    (prints_picture g.W.Sink c.args.views.now outcome Pixels v (printer c.args.out.now old) (printer c.write_pixels.new.out new) (Err fault) bytes picture c.in-Some.load.now shown same e
    (prints_torn g.W.Sink c.args.out.now c.write_pixels.new.out (view_line outcome Pixels v) (PixelsLine bytes picture) {r = Err fault} e refl (c.in_err-write_pixels-in-Some.ensures.writes picture shown.shows.ready.shows))
    c.in_err-write_pixels-in-Some.ensures.asks tt)

pub returns-in_ok-write_pixels-in-Some-clause-prints : goal.returns-in_ok-write_pixels-in-Some-clause-prints
returns-in_ok-write_pixels-in-Some-clause-prints g c =
    λ outcome s v follows at.
    let old = g.E.EngineCalls.caller c.args.engine.now in
    let new = g.E.EngineCalls.caller c.write_pixels.new.engine in
    let shown = c.in-Some.ensures old outcome s v follows at in
    let picture = shown.shows.ready.picture in
    let bytes = c.bytes.result.now in
    let e = picture_at outcome s old c.args.views.now follows c.args.place v at c.name.result.now bytes c.in-Some.load.now Pixels c.name.ensures c.bytes.ensures shown in
    let same = name_is outcome s old c.args.views.now follows c.args.place v at c.name.result.now c.name.ensures ∙ sym c.bytes.ensures in
    prints_picture g.W.Sink c.args.views.now outcome Pixels v (printer c.args.out.now old) (printer c.write_pixels.new.out new) (Ok false) bytes picture c.in-Some.load.now shown same e
    (prints_one g.W.Sink c.args.out.now c.write_pixels.new.out (view_line outcome Pixels v) (PixelsLine bytes picture) false e refl (c.in_ok-write_pixels-in-Some.ensures.writes picture shown.shows.ready.shows))
    c.in_ok-write_pixels-in-Some.ensures.asks (c.in_ok-write_pixels-in-Some.ensures.told picture shown.shows.ready.shows)

pub returns-in-None-clause-prints : goal.returns-in-None-clause-prints
returns-in-None-clause-prints g c = λ outcome s v follows at. c.print_plain.ensures.prints (g.E.EngineCalls.caller c.args.engine.now) outcome s v follows at (c.in-None.ensures (g.E.EngineCalls.caller c.args.engine.now) outcome s v follows at) Pixels

pub write_pixels-requires-clause-ready : goal.write_pixels-requires-clause-ready
write_pixels-requires-clause-ready g c =
    let old = g.E.EngineCalls.caller c.args.engine.now in
    let walk = c.requires.on_walk in
    let at = view_in walk.1.views c.args.place (omega (arith, count_is walk.0 walk.1 old c.args.views.now walk.2, c.requires.place)) in
    (c.in-Some.ensures old walk.0 walk.1 at.0 walk.2 at.1).shows.ready
