use Rattle.std.proofs.Common.{◌≡◌, ℕ, List, None, refl, sym, ap, subst, ◌∙◌, length}
use Rattle.std.specs.Option.{option_map}
use Rattle.std.specs.FinMap.{get}
use Rattle.outside.specs.Files.{Folder, Changes, renamed, deleted}
use Rattle.cache_folder.specs.Offered.{journal_name, journal_bkp}
use Rattle.cache_folder.specs.Starts.{OffersSame}
use Rattle.cache_folder.proofs.Openings.{no_backup, backup_back}
use Rattle.cache_folder.proofs.Runs.{one, known_back, at_middle}
use Rattle.cache_folder.proofs.Settling.{length_some, length_none, gone_after, back_alone}
use Rattle.cache_folder.proofs.leftovers.settle_backup.Goals as goal

pub returns-in_err-found-clause-known : goal.returns-in_err-found-clause-known
returns-in_err-found-clause-known g c = λ k e. (k, sym c.in_err-found.ensures.same ∙ e)

pub returns-then-is_some-clause-moments : goal.returns-then-is_some-clause-moments
returns-then-is_some-clause-moments g c = λ h e.
    let found = c.in_ok-found.ensures.length h e ∙ ap (λ n. option_map length (get h.held n)) c.journal-journal.ensures in
    let does = subst (λ (n : List ℕ). Changes (deleted n) (g.F.Files.history c.length.new.self) (g.F.Files.history c.delete.new.files) c.delete.result) c.journal_bkp-backup.ensures c.delete.ensures.files in
    one (OffersSame h.held) _ h _ _ _ (c.in_ok-found.ensures.same ∙ e) does refl (no_backup h.held (length_some (get h.held journal_name) c.in_ok-found.found found (sym c.is_some.ensures ∙ c.if-is_some.true)))

pub returns-then-is_some-clause-alone : goal.returns-then-is_some-clause-alone
returns-then-is_some-clause-alone g c = λ ok.
    at_middle (λ f. get f journal_bkp ≡ None) _ _ _ _ (subst (λ (n : List ℕ). Changes (deleted n) (g.F.Files.history c.length.new.self) (g.F.Files.history c.delete.new.files) c.delete.result) c.journal_bkp-backup.ensures c.delete.ensures.files) ok
    (λ h e. gone_after h.held journal_bkp)

pub returns-then-is_some-clause-known : goal.returns-then-is_some-clause-known
returns-then-is_some-clause-known g c = λ k e. let m = known_back _ _ _ _ c.delete.ensures.files k e in (m.0, sym c.in_ok-found.ensures.same ∙ m.1)

pub returns-clause-moments : goal.returns-clause-moments
returns-clause-moments g c = λ h e.
    let found = c.in_ok-found.ensures.length h e ∙ ap (λ n. option_map length (get h.held n)) c.journal-journal.ensures in
    let does = subst (λ (p : Folder → List Folder). Changes p (g.F.Files.history c.length.new.self) (g.F.Files.history c.rename.new.files) c.rename.result) (λ i. renamed (c.journal_bkp-backup.ensures i) (c.journal-journal.ensures i)) c.rename.ensures.files in
    one (OffersSame h.held) _ h _ _ _ (c.in_ok-found.ensures.same ∙ e) does refl (backup_back h.held (length_none (get h.held journal_name) c.in_ok-found.found found (sym c.is_some.ensures ∙ c.if-is_some.false)))

pub returns-clause-alone : goal.returns-clause-alone
returns-clause-alone g c = λ ok.
    at_middle (λ f. get f journal_bkp ≡ None) _ _ _ _ (subst (λ (p : Folder → List Folder). Changes p (g.F.Files.history c.length.new.self) (g.F.Files.history c.rename.new.files) c.rename.result) (λ i. renamed (c.journal_bkp-backup.ensures i) (c.journal-journal.ensures i)) c.rename.ensures.files) ok
    (λ h e. back_alone h.held)

pub returns-clause-known : goal.returns-clause-known
returns-clause-known g c = λ k e. let m = known_back _ _ _ _ c.rename.ensures.files k e in (m.0, sym c.in_ok-found.ensures.same ∙ m.1)
