use Rattle.std.specs.FinMap.{get}
use Rattle.std.proofs.Common.{◌≡◌, None, ℕ, List, refl, sym, ap, ◌∙◌, subst, is_ok}
use Rattle.outside.specs.Files.{Folder, FolderHistory, Changes, renamed, deleted}
use Rattle.cache_folder.specs.Offered.{journal_tmp, journal_bkp}
use Rattle.cache_folder.specs.Tables.{kept}
use Rattle.cache_folder.proofs.Runs.{one, two, three, three_ok, known_back, same_some, at_middle}
use Rattle.cache_folder.proofs.Calls.{deleted_images}
use Rattle.cache_folder.proofs.NewJournal.{filled_way, back_images, back_way, place_images, place_way, good_lines, end_way, end_text, end_sound, end_list}
use Rattle.cache_folder.specs.Journals.{HasOneJournal, line_count}
use Rattle.cache_folder.proofs.Counting.{count_new}
use Rattle.cache_folder.proofs.Settling.{new_gone, one_journal}
use Rattle.cache_folder.proofs.rebuild.swap.Goals as goal

pub returns-in_err-rename-clause-ways : goal.returns-in_err-rename-clause-ways
returns-in_err-rename-clause-ways g c = λ h e k e2. one _ _ k _ _ _ e2 (subst (λ (p : Folder → List Folder). Changes p (g.F.Files.history c.args.files.now) (g.F.Files.history c.rename.new.self) c.rename.result) (λ i. renamed (c.journal-journal.ensures i) (c.journal_bkp-bkp.ensures i)) c.rename.ensures.files) (filled_way (record { text = c.text_is_its_lines.ensures.text; unbroken = c.text_is_its_lines.ensures.unbroken }) h.held (kept c.args.table.now) (c.requires.kept h e) k.held (c.requires.new k e2 h e)) (back_images (record { text = c.text_is_its_lines.ensures.text; unbroken = c.text_is_its_lines.ensures.unbroken }) h.held (kept c.args.table.now) (c.requires.kept h e) k.held (c.requires.new k e2 h e))

pub returns-in_err-rename-clause-known : goal.returns-in_err-rename-clause-known
returns-in_err-rename-clause-known g c = λ k e. known_back _ _ _ _ c.rename.ensures.files k e

pub returns-in_err-rename-2-clause-ways : goal.returns-in_err-rename-2-clause-ways
returns-in_err-rename-2-clause-ways g c = λ h e k e2. two _ _ _ k _ _ _ _ _ e2 (subst (λ (p : Folder → List Folder). Changes p (g.F.Files.history c.args.files.now) (g.F.Files.history c.rename.new.self) c.rename.result) (λ i. renamed (c.journal-journal.ensures i) (c.journal_bkp-bkp.ensures i)) c.rename.ensures.files) (ap is_ok c.in_ok-rename.was) (subst (λ (p : Folder → List Folder). Changes p (g.F.Files.history c.rename.new.self) (g.F.Files.history c.rename-2.new.self) c.rename-2.result) (λ i. renamed (c.journal_tmp-tmp.ensures i) (c.journal-journal.ensures i)) c.rename-2.ensures.files) (filled_way (record { text = c.text_is_its_lines.ensures.text; unbroken = c.text_is_its_lines.ensures.unbroken }) h.held (kept c.args.table.now) (c.requires.kept h e) k.held (c.requires.new k e2 h e)) (back_images (record { text = c.text_is_its_lines.ensures.text; unbroken = c.text_is_its_lines.ensures.unbroken }) h.held (kept c.args.table.now) (c.requires.kept h e) k.held (c.requires.new k e2 h e)) (back_way (record { text = c.text_is_its_lines.ensures.text; unbroken = c.text_is_its_lines.ensures.unbroken }) h.held (kept c.args.table.now) (c.requires.kept h e) k.held (c.requires.new k e2 h e)) (place_images (record { text = c.text_is_its_lines.ensures.text; unbroken = c.text_is_its_lines.ensures.unbroken }) h.held (kept c.args.table.now) (c.requires.kept h e) k.held (c.requires.new k e2 h e) _ refl)

pub returns-in_err-rename-2-clause-known : goal.returns-in_err-rename-2-clause-known
returns-in_err-rename-2-clause-known g c = λ k e. let mid = known_back _ _ _ _ c.rename-2.ensures.files k e in known_back _ _ _ _ c.rename.ensures.files mid.0 mid.1

pub returns-in_err-delete-clause-ways : goal.returns-in_err-delete-clause-ways
returns-in_err-delete-clause-ways g c = λ h e k e2. three _ _ _ _ k _ _ _ _ _ _ _ e2 (subst (λ (p : Folder → List Folder). Changes p (g.F.Files.history c.args.files.now) (g.F.Files.history c.rename.new.self) c.rename.result) (λ i. renamed (c.journal-journal.ensures i) (c.journal_bkp-bkp.ensures i)) c.rename.ensures.files) (ap is_ok c.in_ok-rename.was) (subst (λ (p : Folder → List Folder). Changes p (g.F.Files.history c.rename.new.self) (g.F.Files.history c.rename-2.new.self) c.rename-2.result) (λ i. renamed (c.journal_tmp-tmp.ensures i) (c.journal-journal.ensures i)) c.rename-2.ensures.files) (ap is_ok c.in_ok-rename-2.was) (subst (λ (n : List ℕ). Changes (deleted n) (g.F.Files.history c.rename-2.new.self) (g.F.Files.history c.delete.new.self) c.delete.result) c.journal_bkp-bkp.ensures c.delete.ensures.files)
    (filled_way (record { text = c.text_is_its_lines.ensures.text; unbroken = c.text_is_its_lines.ensures.unbroken }) h.held (kept c.args.table.now) (c.requires.kept h e) k.held (c.requires.new k e2 h e)) (back_images (record { text = c.text_is_its_lines.ensures.text; unbroken = c.text_is_its_lines.ensures.unbroken }) h.held (kept c.args.table.now) (c.requires.kept h e) k.held (c.requires.new k e2 h e)) (back_way (record { text = c.text_is_its_lines.ensures.text; unbroken = c.text_is_its_lines.ensures.unbroken }) h.held (kept c.args.table.now) (c.requires.kept h e) k.held (c.requires.new k e2 h e)) (place_images (record { text = c.text_is_its_lines.ensures.text; unbroken = c.text_is_its_lines.ensures.unbroken }) h.held (kept c.args.table.now) (c.requires.kept h e) k.held (c.requires.new k e2 h e) _ refl) (place_way (record { text = c.text_is_its_lines.ensures.text; unbroken = c.text_is_its_lines.ensures.unbroken }) h.held (kept c.args.table.now) (c.requires.kept h e) k.held (c.requires.new k e2 h e) _ refl)
    (deleted_images (record { text = c.text_is_its_lines.ensures.text; unbroken = c.text_is_its_lines.ensures.unbroken }) _ _ journal_bkp (end_way (record { text = c.text_is_its_lines.ensures.text; unbroken = c.text_is_its_lines.ensures.unbroken }) h.held (kept c.args.table.now) (c.requires.kept h e) k.held (c.requires.new k e2 h e) _ refl _ refl))

pub returns-in_err-delete-clause-known : goal.returns-in_err-delete-clause-known
returns-in_err-delete-clause-known g c = λ k e.
    let late = known_back _ _ _ _ c.delete.ensures.files k e in
    let mid = known_back _ _ _ _ c.rename-2.ensures.files late.0 late.1 in
    known_back _ _ _ _ c.rename.ensures.files mid.0 mid.1

pub returns-clause-ways : goal.returns-clause-ways
returns-clause-ways g c = λ h e k e2. three _ _ _ _ k _ _ _ _ _ _ _ e2 (subst (λ (p : Folder → List Folder). Changes p (g.F.Files.history c.args.files.now) (g.F.Files.history c.rename.new.self) c.rename.result) (λ i. renamed (c.journal-journal.ensures i) (c.journal_bkp-bkp.ensures i)) c.rename.ensures.files) (ap is_ok c.in_ok-rename.was) (subst (λ (p : Folder → List Folder). Changes p (g.F.Files.history c.rename.new.self) (g.F.Files.history c.rename-2.new.self) c.rename-2.result) (λ i. renamed (c.journal_tmp-tmp.ensures i) (c.journal-journal.ensures i)) c.rename-2.ensures.files) (ap is_ok c.in_ok-rename-2.was) (subst (λ (n : List ℕ). Changes (deleted n) (g.F.Files.history c.rename-2.new.self) (g.F.Files.history c.delete.new.self) c.delete.result) c.journal_bkp-bkp.ensures c.delete.ensures.files)
    (filled_way (record { text = c.text_is_its_lines.ensures.text; unbroken = c.text_is_its_lines.ensures.unbroken }) h.held (kept c.args.table.now) (c.requires.kept h e) k.held (c.requires.new k e2 h e)) (back_images (record { text = c.text_is_its_lines.ensures.text; unbroken = c.text_is_its_lines.ensures.unbroken }) h.held (kept c.args.table.now) (c.requires.kept h e) k.held (c.requires.new k e2 h e)) (back_way (record { text = c.text_is_its_lines.ensures.text; unbroken = c.text_is_its_lines.ensures.unbroken }) h.held (kept c.args.table.now) (c.requires.kept h e) k.held (c.requires.new k e2 h e)) (place_images (record { text = c.text_is_its_lines.ensures.text; unbroken = c.text_is_its_lines.ensures.unbroken }) h.held (kept c.args.table.now) (c.requires.kept h e) k.held (c.requires.new k e2 h e) _ refl) (place_way (record { text = c.text_is_its_lines.ensures.text; unbroken = c.text_is_its_lines.ensures.unbroken }) h.held (kept c.args.table.now) (c.requires.kept h e) k.held (c.requires.new k e2 h e) _ refl)
    (deleted_images (record { text = c.text_is_its_lines.ensures.text; unbroken = c.text_is_its_lines.ensures.unbroken }) _ _ journal_bkp (end_way (record { text = c.text_is_its_lines.ensures.text; unbroken = c.text_is_its_lines.ensures.unbroken }) h.held (kept c.args.table.now) (c.requires.kept h e) k.held (c.requires.new k e2 h e) _ refl _ refl))

pub returns-clause-ok : goal.returns-clause-ok
returns-clause-ok g c = λ ok h e k e2. record {
  history = _;
  holds = three_ok _ _ _ k _ _ _ _ _ _ _ e2 (subst (λ (p : Folder → List Folder). Changes p (g.F.Files.history c.args.files.now) (g.F.Files.history c.rename.new.self) c.rename.result) (λ i. renamed (c.journal-journal.ensures i) (c.journal_bkp-bkp.ensures i)) c.rename.ensures.files) (ap is_ok c.in_ok-rename.was) (subst (λ (p : Folder → List Folder). Changes p (g.F.Files.history c.rename.new.self) (g.F.Files.history c.rename-2.new.self) c.rename-2.result) (λ i. renamed (c.journal_tmp-tmp.ensures i) (c.journal-journal.ensures i)) c.rename-2.ensures.files) (ap is_ok c.in_ok-rename-2.was) (subst (λ (n : List ℕ). Changes (deleted n) (g.F.Files.history c.rename-2.new.self) (g.F.Files.history c.delete.new.self) c.delete.result) c.journal_bkp-bkp.ensures c.delete.ensures.files) (ap is_ok c.in_ok-delete.was);
  sound = end_sound (record { text = c.text_is_its_lines.ensures.text; unbroken = c.text_is_its_lines.ensures.unbroken }) h.held (kept c.args.table.now) (c.requires.kept h e) k.held (c.requires.new k e2 h e) _ refl _ refl;
  list = end_list (record { text = c.text_is_its_lines.ensures.text; unbroken = c.text_is_its_lines.ensures.unbroken }) h.held (kept c.args.table.now) (c.requires.kept h e) k.held (c.requires.new k e2 h e) _ refl _ refl;
}

pub returns-clause-known : goal.returns-clause-known
returns-clause-known g c = λ k e.
    let late = known_back _ _ _ _ c.delete.ensures.files k e in
    let mid = known_back _ _ _ _ c.rename-2.ensures.files late.0 late.1 in
    known_back _ _ _ _ c.rename.ensures.files mid.0 mid.1

pub returns-clause-lines : goal.returns-clause-lines
returns-clause-lines g c = λ ok h e k e2 m e'. ap (λ (x : FolderHistory). line_count x.held) (same_some _ _ (sym e' ∙ three_ok _ _ _ k _ _ _ _ _ _ _ e2 (subst (λ (p : Folder → List Folder). Changes p (g.F.Files.history c.args.files.now) (g.F.Files.history c.rename.new.self) c.rename.result) (λ i. renamed (c.journal-journal.ensures i) (c.journal_bkp-bkp.ensures i)) c.rename.ensures.files) (ap is_ok c.in_ok-rename.was) (subst (λ (p : Folder → List Folder). Changes p (g.F.Files.history c.rename.new.self) (g.F.Files.history c.rename-2.new.self) c.rename-2.result) (λ i. renamed (c.journal_tmp-tmp.ensures i) (c.journal-journal.ensures i)) c.rename-2.ensures.files) (ap is_ok c.in_ok-rename-2.was) (subst (λ (n : List ℕ). Changes (deleted n) (g.F.Files.history c.rename-2.new.self) (g.F.Files.history c.delete.new.self) c.delete.result) c.journal_bkp-bkp.ensures c.delete.ensures.files) (ap is_ok c.in_ok-delete.was)))
    ∙ count_new (record { text = c.text_is_its_lines.ensures.text; unbroken = c.text_is_its_lines.ensures.unbroken }) _ (kept c.args.table.now) (good_lines (record { text = c.text_is_its_lines.ensures.text; unbroken = c.text_is_its_lines.ensures.unbroken }) h.held (kept c.args.table.now) (c.requires.kept h e).files) (end_text (record { text = c.text_is_its_lines.ensures.text; unbroken = c.text_is_its_lines.ensures.unbroken }) h.held (kept c.args.table.now) (c.requires.kept h e) k.held (c.requires.new k e2 h e) _ refl _ refl)

pub returns-clause-alone : goal.returns-clause-alone
returns-clause-alone g c = λ ok.
    at_middle HasOneJournal _ _ _ _ (subst (λ (n : List ℕ). Changes (deleted n) (g.F.Files.history c.rename-2.new.self) (g.F.Files.history c.delete.new.self) c.delete.result) c.journal_bkp-bkp.ensures c.delete.ensures.files) (ap is_ok c.in_ok-delete.was)
    (λ h e. one_journal h.held (at_middle (λ f. get f journal_tmp ≡ None) _ _ _ _ (subst (λ (p : Folder → List Folder). Changes p (g.F.Files.history c.rename.new.self) (g.F.Files.history c.rename-2.new.self) c.rename-2.result) (λ i. renamed (c.journal_tmp-tmp.ensures i) (c.journal-journal.ensures i)) c.rename-2.ensures.files) (ap is_ok c.in_ok-rename-2.was)
    (λ h' e'. new_gone h'.held) h e))
