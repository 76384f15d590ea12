use Rattle.std.proofs.Common.{sym, ap, subst, ◌∙◌, is_ok}
use Rattle.cache_folder.specs.Images.{Runs}
use Rattle.cache_folder.specs.Tables.{kept}
use Rattle.cache_folder.specs.Sound.{RebuildWay}
use Rattle.cache_folder.proofs.Runs.{run_more}
use Rattle.cache_folder.proofs.rebuild.rebuild.Goals as goal

pub swap-requires-clause-kept : goal.swap-requires-clause-kept
swap-requires-clause-kept g c = λ h e. c.requires h (sym (ap g.F.Files.history c.of-before.ensures) ∙ e)

pub swap-requires-clause-new : goal.swap-requires-clause-new
swap-requires-clause-new g c = λ k e2 h e. c.write_new.ensures.ok (ap is_ok c.in_ok-write_new.was) h (sym (ap g.F.Files.history c.of-before.ensures) ∙ e) k e2

pub returns-clause-ways : goal.returns-clause-ways
returns-clause-ways g c = λ h e.
    let first = c.write_new.ensures.ways h e in
    run_more _ h _ _ (subst (λ o. Runs (RebuildWay h.held (kept c.args.table.now)) h o) first.after_is first)
    (c.swap.ensures.ways h (ap g.F.Files.history c.of-before.ensures ∙ e) _ first.after_is)

pub returns-clause-ok : goal.returns-clause-ok
returns-clause-ok g c = λ ok h e.
    c.swap.ensures.ok ok h (ap g.F.Files.history c.of-before.ensures ∙ e) _ (c.write_new.ensures.ways h e).after_is

pub returns-clause-known : goal.returns-clause-known
returns-clause-known g c = λ k e. let mid = c.swap.ensures.known k e in c.write_new.ensures.known mid.0 mid.1

pub returns-clause-lines : goal.returns-clause-lines
returns-clause-lines g c = λ ok m e'.
    let mid = c.swap.ensures.known m e' in
    let first = c.write_new.ensures.known mid.0 mid.1 in
    c.swap.ensures.lines ok first.0 (ap g.F.Files.history c.of-before.ensures ∙ first.1) mid.0 mid.1 m e'
