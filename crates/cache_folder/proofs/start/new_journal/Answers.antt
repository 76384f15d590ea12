use Rattle.std.proofs.Common.{◌≡◌, refl, sym, ap, subst, ◌∙◌}
use Rattle.cache_folder.specs.Tables.{kept}
use Rattle.cache_folder.specs.Sound.{RebuildWay, IsSound, listed}
use Rattle.outside.specs.Files.{FolderHistory}
use Rattle.cache_folder.specs.Starts.{OffersSame}
use Rattle.cache_folder.proofs.Runs.{run_weaken, run_has, same_some}
use Rattle.cache_folder.proofs.Opening.{rebuild_same, open_after}
use Rattle.cache_folder.proofs.start.new_journal.Goals as goal

pub rebuild-requires : goal.rebuild-requires
rebuild-requires g c = λ h e. (c.requires.ready h e).keeps

pub returns-in_err-rebuild-clause-moments : goal.returns-in_err-rebuild-clause-moments
returns-in_err-rebuild-clause-moments g c = λ h e.
    run_weaken (RebuildWay h.held (kept c.args.table.now)) (OffersSame h.held) h _ (λ d w. rebuild_same h.held d c.args.table.now (c.requires.ready h e) w) (c.rebuild.ensures.ways h e)

pub returns-clause-moments : goal.returns-clause-moments
returns-clause-moments g c = λ h e.
    run_weaken (RebuildWay h.held (kept c.args.table.now)) (OffersSame h.held) h _ (λ d w. rebuild_same h.held d c.args.table.now (c.requires.ready h e) w) (c.rebuild.ensures.ways h e)

pub returns-clause-opened : goal.returns-clause-opened
returns-clause-opened g c = λ ok k e.
    let m = c.rebuild.ensures.known k e in
    let ready = c.requires.ready m.0 m.1 in
    let way = run_has (RebuildWay m.0.held (kept c.args.table.now)) m.0 k _ (c.rebuild.ensures.ways m.0 m.1) e in
    let done = c.in_ok-rebuild.ensures.ok refl m.0 m.1 in
    let is : done.history ≡ k = same_some _ _ (sym done.holds ∙ e) in
    let one = c.in_ok-rebuild.ensures.alone refl k e in
    open_after m.0.held k.held c.args.table.now c.rebuilt.new.self ready way.1 one.no_new one.no_old (rebuild_same m.0.held k.held c.args.table.now ready way)
    (subst (λ (x : FolderHistory). IsSound x.held (kept c.args.table.now)) is done.sound)
    (ap (λ (x : FolderHistory). listed x.held (kept c.args.table.now)) (sym is) ∙ done.list)
    (c.in_ok-rebuild.ensures.lines refl k e) c.keys-few.ensures.few c.rebuilt.ensures.kept c.rebuilt.ensures.table
