use Rattle.std.proofs.Common.{◌≡◌, ℕ, List, None, refl, subst}
use Rattle.std.specs.FinMap.{get}
use Rattle.outside.specs.Files.{FolderHistory, Changes, deleted, passed_through}
use Rattle.cache_folder.specs.Offered.{journal_bkp}
use Rattle.cache_folder.specs.Starts.{OffersSame}
use Rattle.cache_folder.proofs.Runs.{one, known_back, at_middle}
use Rattle.cache_folder.proofs.Settling.{run_on, tmp_gone, still_alone}
use Rattle.cache_folder.proofs.leftovers.settle_journals.Goals as goal

pub returns-clause-moments : goal.returns-clause-moments
returns-clause-moments g c = λ h e.
    let first = c.in_ok-settle_backup.ensures.moments h e in
    let does = subst (λ (n : List ℕ). Changes (deleted n) (g.F.Files.history c.settle_backup.new.files) (g.F.Files.history c.delete.new.files) c.delete.result) c.journal_tmp-tmp.ensures c.delete.ensures.files in
    let m : FolderHistory = passed_through first.contents h in
    run_on (OffersSame h.held) h _ _ first (one (OffersSame h.held) _ m _ _ _ first.after_is does first.here (tmp_gone h.held m.held first.here))

pub returns-clause-alone : goal.returns-clause-alone
returns-clause-alone g c = λ ok.
    at_middle (λ f. get f journal_bkp ≡ None) _ _ _ _ (subst (λ (n : List ℕ). Changes (deleted n) (g.F.Files.history c.settle_backup.new.files) (g.F.Files.history c.delete.new.files) c.delete.result) c.journal_tmp-tmp.ensures c.delete.ensures.files) ok
    (λ h e. still_alone h.held (c.in_ok-settle_backup.ensures.alone refl h e))

pub returns-clause-known : goal.returns-clause-known
returns-clause-known g c = λ k e. let m = known_back _ _ _ _ c.delete.ensures.files k e in c.in_ok-settle_backup.ensures.known m.0 m.1
