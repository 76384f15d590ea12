use Rattle.std.proofs.Common.{◌≡◌, true, false, None, is_some, ap, sym, ◌∙◌}
use Rattle.std.specs.FinMap.{get}
use Rattle.cache_folder.specs.inside.Leaving.{Sweeps}
use Rattle.cache_folder.proofs.Runs.{one, known_back, at_middle, run_none}
use Rattle.cache_folder.proofs.Settling.{gone_after}
use Rattle.cache_folder.proofs.Sweeping.{sweeps_none, sweeps_deleted}
use Rattle.cache_folder.proofs.leftovers.sweep_file.Goals as goal

pub returns-then-stays-clause-moments : goal.returns-then-stays-clause-moments
returns-then-stays-clause-moments g c = λ h e. run_none (Sweeps c.args.table.now.table.entries h.held) h _ e (sweeps_none c.args.table.now.table.entries h.held (c.requires.alone h e))

pub returns-clause-moments : goal.returns-clause-moments
returns-clause-moments g c = λ h e.
    let es = c.args.table.now.table.entries in
    one (Sweeps es h.held) _ h _ _ _ e c.delete.ensures.files (sweeps_none es h.held (c.requires.alone h e))
    (sweeps_deleted es h.held c.args.name.now (c.requires.alone h e) (c.requires.offers h e) (c.stays.ensures.no c.if-stays.false (c.requires.clean h e)))

pub returns-clause-gone : goal.returns-clause-gone
returns-clause-gone g c = λ ok k e there.
    let gone : get k.held c.args.name.now ≡ None = at_middle (λ f. get f c.args.name.now ≡ None) _ _ _ _ c.delete.ensures.files ok (λ h e'. gone_after h.held c.args.name.now) k e in
    let no' : false ≡ true = ap is_some (sym gone) ∙ there in
    cc

pub returns-clause-known : goal.returns-clause-known
returns-clause-known g c = λ k e. known_back _ _ _ _ c.delete.ensures.files k e
