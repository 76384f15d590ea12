use Rattle.std.proofs.Common.{ℕ, List, [], sym, ap, subst, ◌∙◌, is_ok, IsSome, is_some}
use Rattle.std.specs.FinMap.{get}
use Rattle.outside.specs.Files.{Folder, FolderHistory, Changes, made, appended}
use Rattle.cache_folder.specs.Offered.{journal_tmp}
use Rattle.cache_folder.specs.Tables.{kept}
use Rattle.cache_folder.proofs.Folders.{get_same}
use Rattle.cache_folder.proofs.Runs.{one, two, two_ok, at_middle, known_back, same_some, run_none}
use Rattle.cache_folder.proofs.NewJournal.{rebuild_here, tmp_made, made_way, tmp_filled, filled_is}
use Rattle.cache_folder.proofs.rebuild.write_new.Goals as goal

pub returns-in_err-text-clause-ways : goal.returns-in_err-text-clause-ways
returns-in_err-text-clause-ways g c = λ h e. run_none _ h _ e (rebuild_here (record { text = c.text_is_its_lines.ensures.text; unbroken = c.text_is_its_lines.ensures.unbroken }) h.held (kept c.args.table.now) (c.requires h e))

pub returns-in_err-text-clause-known : goal.returns-in_err-text-clause-known
returns-in_err-text-clause-known g c = λ k e. (k, e)

pub returns-in_err-make-clause-ways : goal.returns-in_err-make-clause-ways
returns-in_err-make-clause-ways g c = λ h e. one _ _ h _ _ _ e (subst (λ (n : List ℕ). Changes (made n) (g.F.Files.history c.args.files.now) (g.F.Files.history c.make.new.self) c.make.result) c.journal_tmp-tmp.ensures c.make.ensures.files) (rebuild_here (record { text = c.text_is_its_lines.ensures.text; unbroken = c.text_is_its_lines.ensures.unbroken }) h.held (kept c.args.table.now) (c.requires h e)) (tmp_made (record { text = c.text_is_its_lines.ensures.text; unbroken = c.text_is_its_lines.ensures.unbroken }) h.held (kept c.args.table.now) (c.requires h e))

pub returns-in_err-make-clause-known : goal.returns-in_err-make-clause-known
returns-in_err-make-clause-known g c = λ k e. known_back _ _ _ _ c.make.ensures.files k e

pub append-requires : goal.append-requires
append-requires g c = λ k e'. ap (λ n. is_some (get k.held n)) c.journal_tmp-tmp.ensures ∙ at_middle (λ d. IsSome (get d journal_tmp)) _ _ _ _ (subst (λ (n : List ℕ). Changes (made n) (g.F.Files.history c.args.files.now) (g.F.Files.history c.make.new.self) c.make.result) c.journal_tmp-tmp.ensures c.make.ensures.files) (ap is_ok c.in_ok-make.was) (λ h e. ap is_some (get_same h.held journal_tmp [])) k e'

pub returns-clause-ways : goal.returns-clause-ways
returns-clause-ways g c = λ h e. two _ _ _ h _ _ _ _ _ e (subst (λ (n : List ℕ). Changes (made n) (g.F.Files.history c.args.files.now) (g.F.Files.history c.make.new.self) c.make.result) c.journal_tmp-tmp.ensures c.make.ensures.files) (ap is_ok c.in_ok-make.was) (subst (λ (p : Folder → List Folder). Changes p (g.F.Files.history c.make.new.self) (g.F.Files.history c.append.new.self) c.append.result) (λ i. appended (c.journal_tmp-tmp.ensures i) ((c.deref.ensures.value ∙ c.in_ok-text.ensures) i)) c.append.ensures.files)
    (rebuild_here (record { text = c.text_is_its_lines.ensures.text; unbroken = c.text_is_its_lines.ensures.unbroken }) h.held (kept c.args.table.now) (c.requires h e)) (tmp_made (record { text = c.text_is_its_lines.ensures.text; unbroken = c.text_is_its_lines.ensures.unbroken }) h.held (kept c.args.table.now) (c.requires h e)) (made_way (record { text = c.text_is_its_lines.ensures.text; unbroken = c.text_is_its_lines.ensures.unbroken }) h.held (kept c.args.table.now) (c.requires h e)) (tmp_filled (record { text = c.text_is_its_lines.ensures.text; unbroken = c.text_is_its_lines.ensures.unbroken }) h.held (kept c.args.table.now) (c.requires h e))

pub returns-clause-ok : goal.returns-clause-ok
returns-clause-ok g c = λ ok h e k e'. ap (λ (m : FolderHistory). m.held) (same_some _ _ (sym e' ∙ two_ok _ _ h _ _ _ _ _ e (subst (λ (n : List ℕ). Changes (made n) (g.F.Files.history c.args.files.now) (g.F.Files.history c.make.new.self) c.make.result) c.journal_tmp-tmp.ensures c.make.ensures.files) (ap is_ok c.in_ok-make.was) (subst (λ (p : Folder → List Folder). Changes p (g.F.Files.history c.make.new.self) (g.F.Files.history c.append.new.self) c.append.result) (λ i. appended (c.journal_tmp-tmp.ensures i) ((c.deref.ensures.value ∙ c.in_ok-text.ensures) i)) c.append.ensures.files) ok)) ∙ filled_is (record { text = c.text_is_its_lines.ensures.text; unbroken = c.text_is_its_lines.ensures.unbroken }) h.held (kept c.args.table.now) (c.requires h e)

pub returns-clause-known : goal.returns-clause-known
returns-clause-known g c = λ k e. let mid = known_back _ _ _ _ c.append.ensures.files k e in known_back _ _ _ _ c.make.ensures.files mid.0 mid.1
