use Rattle.std.proofs.Common.{Ok, Err, true, false, refl, sym, ap, ◌∙◌}
use Rattle.printed_lines.specs.Printed.{plain_line}
use Rattle.script_walk.specs.Walk.{view_line}
use Rattle.glide_run.specs.inside.Prints.{printer}
use Rattle.glide_run.proofs.Printing.{plain_at, silent_at, says_failed_is, is_failed, not_failed, prints_one, prints_torn, prints_plain, prints_silent, is_none, err_is}
use Rattle.glide_run.proofs.prints.print_plain.Goals as goal

pub returns-in_err-write_plain_line-clause-prints : goal.returns-in_err-write_plain_line-clause-prints
returns-in_err-write_plain_line-clause-prints g c =
    λ caller outcome s v follows at not_complete form.
    let e = plain_at outcome s caller c.args.views.now follows c.args.place v at c.state.result.now c.name.result.now c.bytes.result.now c.in-Some.state form c.state.ensures c.name.ensures c.bytes.ensures (sym c.plain_state.ensures ∙ c.in-Some.is) in
    prints_plain g.W.Sink c.args.views.now outcome form v (printer c.args.out.now caller) (printer c.write_plain_line.new.out caller) c.from_residual.result c.bytes.result.now c.in-Some.state refl e
    (prints_torn g.W.Sink c.args.out.now c.write_plain_line.new.out (view_line outcome form v) (plain_line c.bytes.result.now c.in-Some.state) e
    (err_is c.from_residual.result c.from_residual.ensures.1) c.in_err-write_plain_line.ensures)

pub returns-in-Failed-clause-prints : goal.returns-in-Failed-clause-prints
returns-in-Failed-clause-prints g c =
    λ caller outcome s v follows at not_complete form.
    let e = plain_at outcome s caller c.args.views.now follows c.args.place v at c.state.result.now c.name.result.now c.bytes.result.now c.in-Some.state form c.state.ensures c.name.ensures c.bytes.ensures (sym c.plain_state.ensures ∙ c.in-Some.is) in
    prints_plain g.W.Sink c.args.views.now outcome form v (printer c.args.out.now caller) (printer c.write_plain_line.new.out caller) (Ok true) c.bytes.result.now c.in-Some.state refl e
    (prints_one g.W.Sink c.args.out.now c.write_plain_line.new.out (view_line outcome form v) (plain_line c.bytes.result.now c.in-Some.state) true e
    (sym (says_failed_is c.bytes.result.now c.in-Some.state ∙ ap is_failed c.in-Failed.is)) c.in_ok-write_plain_line.ensures)

pub returns-in_default-matches-clause-prints : goal.returns-in_default-matches-clause-prints
returns-in_default-matches-clause-prints g c =
    λ caller outcome s v follows at not_complete form.
    let e = plain_at outcome s caller c.args.views.now follows c.args.place v at c.state.result.now c.name.result.now c.bytes.result.now c.in-Some.state form c.state.ensures c.name.ensures c.bytes.ensures (sym c.plain_state.ensures ∙ c.in-Some.is) in
    prints_plain g.W.Sink c.args.views.now outcome form v (printer c.args.out.now caller) (printer c.write_plain_line.new.out caller) (Ok false) c.bytes.result.now c.in-Some.state refl e
    (prints_one g.W.Sink c.args.out.now c.write_plain_line.new.out (view_line outcome form v) (plain_line c.bytes.result.now c.in-Some.state) false e
    (sym (says_failed_is c.bytes.result.now c.in-Some.state ∙ not_failed c.in-Some.state c.in_default-matches.not-Failed)) c.in_ok-write_plain_line.ensures)

pub returns-in_default-clause-prints : goal.returns-in_default-clause-prints
returns-in_default-clause-prints g c =
    λ caller outcome s v follows at not_complete form.
    prints_silent g.W.Sink c.args.views.now outcome form v (printer c.args.out.now caller) (printer c.args.out.now caller) refl refl
    (silent_at outcome s caller c.args.views.now follows c.args.place v at c.state.result.now form c.state.ensures (sym c.plain_state.ensures ∙ is_none c.plain_state.result c.in_default.not-Some) not_complete)
