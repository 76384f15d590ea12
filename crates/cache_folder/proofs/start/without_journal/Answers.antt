use Rattle.std.proofs.Common.{ℕ, List, refl, sym, ap, subst, false, is_ok}
use Rattle.disk_table.specs.Table.{TableValue, no_entries}
use Rattle.outside.specs.Files.{Changes, deleted}
use Rattle.cache_folder.specs.Starts.{OffersSame}
use Rattle.cache_folder.specs.inside.Loading.{IsRead}
use Rattle.cache_folder.proofs.Runs.{one, known_back, at_middle, run_none}
use Rattle.cache_folder.proofs.Loading.{journal_deleted, read_none}
use Rattle.cache_folder.proofs.start.without_journal.Goals as goal

pub returns-in_err-table-clause-moments : goal.returns-in_err-table-clause-moments
returns-in_err-table-clause-moments g c = λ h e. run_none (OffersSame h.held) h _ e refl

pub returns-in_err-table-clause-known : goal.returns-in_err-table-clause-known
returns-in_err-table-clause-known g c = λ k e. (k, e)

pub returns-in_err-delete-clause-moments : goal.returns-in_err-delete-clause-moments
returns-in_err-delete-clause-moments g c = λ h e.
    one (OffersSame h.held) _ h _ _ _ e (subst (λ (n : List ℕ). Changes (deleted n) (g.F.Files.history c.args.files.now) (g.F.Files.history c.delete.new.files) c.delete.result) c.journal-journal.ensures c.delete.ensures.files)
    refl (journal_deleted h.held (c.requires.alone h e) (c.requires.bad h e))

pub returns-in_err-delete-clause-known : goal.returns-in_err-delete-clause-known
returns-in_err-delete-clause-known g c = λ k e. known_back _ _ _ _ c.delete.ensures.files k e

pub returns-clause-moments : goal.returns-clause-moments
returns-clause-moments g c = λ h e.
    one (OffersSame h.held) _ h _ _ _ e (subst (λ (n : List ℕ). Changes (deleted n) (g.F.Files.history c.args.files.now) (g.F.Files.history c.delete.new.files) c.delete.result) c.journal-journal.ensures c.delete.ensures.files)
    refl (journal_deleted h.held (c.requires.alone h e) (c.requires.bad h e))

pub returns-clause-read : goal.returns-clause-read
returns-clause-read g c = λ k e. subst (λ (t : TableValue). IsRead k.held t false) (sym c.in_ok-table.ensures.table)
    (at_middle (λ f. IsRead f no_entries false) _ _ _ _ (subst (λ (n : List ℕ). Changes (deleted n) (g.F.Files.history c.args.files.now) (g.F.Files.history c.delete.new.files) c.delete.result) c.journal-journal.ensures c.delete.ensures.files) (ap is_ok c.in_ok-delete.was)
    (λ h e'. read_none h.held (c.requires.alone h e')) k e)

pub returns-clause-known : goal.returns-clause-known
returns-clause-known g c = λ k e. known_back _ _ _ _ c.delete.ensures.files k e
