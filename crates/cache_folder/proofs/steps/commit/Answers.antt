use Rattle.std.proofs.Common.{◌≡◌, ℕ, List, Some, refl, sym, ap, subst, ◌∙◌, is_ok, IsSome, is_some}
use Rattle.std.specs.declared.option.Option.{Option}
use Rattle.std.specs.FinMap.{get}
use Rattle.outside.specs.Files.{Folder, FolderHistory, Changes, renamed}
use Rattle.cache_folder.specs.Offered.{journal_name, edit_name}
use Rattle.cache_folder.specs.Steps.{Commit, stepped}
use Rattle.cache_folder.specs.Images.{Runs}
use Rattle.cache_folder.specs.Tables.{Table, kept, edit_at}
use Rattle.cache_folder.specs.Sound.{Way, IsSound, listed, text_at}
use Rattle.cache_folder.proofs.Journaled.{JournalLaws}
use Rattle.cache_folder.proofs.Runs.{one, two, two_ok, at_middle, known_back, same_some}
use Rattle.cache_folder.proofs.Calls.{CommitWay, handed_is, commit_here, commit_moved, moved_journal, moved_says, commit_between, commit_images, commit_sound, commit_list}
use Rattle.journal_lines.specs.declared.lines.Line.TheVariants.{Clean}
use Rattle.cache_folder.specs.Journals.{line_count}
use Rattle.cache_folder.proofs.Counting.{count_later}
use Rattle.cache_folder.proofs.steps.commit.Goals as goal

-- the way of a commit, with the bytes that the edit's file has
as_handed : (laws : JournalLaws) (f : Folder) (t : Table) (key : List ℕ) (n : ℕ) (s : IsSound f t) (o : edit_at key t ≡ Some n) (h : FolderHistory) (after : Option FolderHistory)
    → Runs (CommitWay laws f t key n s o) h after → Runs (Way key f (listed f t) (stepped (listed f t) (Commit key (text_at f (edit_name key))))) h after
as_handed laws f t key n s o h after r = subst (λ v. Runs (Way key f (listed f t) (stepped (listed f t) (Commit key v))) h after) (handed_is laws f t key n s o) r

pub returns-in_err-rename-clause-ways : goal.returns-in_err-rename-clause-ways
returns-in_err-rename-clause-ways g c = λ h e. as_handed (record { text = c.text_is_its_lines.ensures.text; unbroken = c.text_is_its_lines.ensures.unbroken }) h.held (kept c.args.table.now) c.args.key.now c.args.written (c.requires.sound h e) c.requires.edit h _ (one _ _ h _ _ _ e (subst (λ (p : Folder → List Folder). Changes p (g.F.Files.history c.args.files.now) (g.F.Files.history c.rename.new.self) c.rename.result) (λ i. renamed (c.edit-from.ensures.name i) (c.value-to.ensures.name i)) c.rename.ensures.files) (commit_here (record { text = c.text_is_its_lines.ensures.text; unbroken = c.text_is_its_lines.ensures.unbroken }) h.held (kept c.args.table.now) c.args.key.now c.args.written (c.requires.sound h e) c.requires.edit) (commit_moved (record { text = c.text_is_its_lines.ensures.text; unbroken = c.text_is_its_lines.ensures.unbroken }) h.held (kept c.args.table.now) c.args.key.now c.args.written (c.requires.sound h e) c.requires.edit))

pub returns-in_err-rename-clause-known : goal.returns-in_err-rename-clause-known
returns-in_err-rename-clause-known g c = λ k e. known_back _ _ _ _ c.rename.ensures.files k e

pub add_line-requires-clause-journal : goal.add_line-requires-clause-journal
add_line-requires-clause-journal g c = λ k e'. at_middle (λ d. IsSome (get d journal_name)) _ _ _ _ (subst (λ (p : Folder → List Folder). Changes p (g.F.Files.history c.args.files.now) (g.F.Files.history c.rename.new.self) c.rename.result) (λ i. renamed (c.edit-from.ensures.name i) (c.value-to.ensures.name i)) c.rename.ensures.files) (ap is_ok c.in_ok-rename.was) (λ h e. ap is_some (moved_says (record { text = c.text_is_its_lines.ensures.text; unbroken = c.text_is_its_lines.ensures.unbroken }) h.held (kept c.args.table.now) c.args.key.now c.args.written (c.requires.sound h e) c.requires.edit _ refl).text) k e'

pub returns-clause-ways : goal.returns-clause-ways
returns-clause-ways g c = λ h e. as_handed (record { text = c.text_is_its_lines.ensures.text; unbroken = c.text_is_its_lines.ensures.unbroken }) h.held (kept c.args.table.now) c.args.key.now c.args.written (c.requires.sound h e) c.requires.edit h _ (two _ _ _ h _ _ _ _ _ e (subst (λ (p : Folder → List Folder). Changes p (g.F.Files.history c.args.files.now) (g.F.Files.history c.rename.new.self) c.rename.result) (λ i. renamed (c.edit-from.ensures.name i) (c.value-to.ensures.name i)) c.rename.ensures.files) (ap is_ok c.in_ok-rename.was) c.add_line.ensures.files
    (commit_here (record { text = c.text_is_its_lines.ensures.text; unbroken = c.text_is_its_lines.ensures.unbroken }) h.held (kept c.args.table.now) c.args.key.now c.args.written (c.requires.sound h e) c.requires.edit) (commit_moved (record { text = c.text_is_its_lines.ensures.text; unbroken = c.text_is_its_lines.ensures.unbroken }) h.held (kept c.args.table.now) c.args.key.now c.args.written (c.requires.sound h e) c.requires.edit) (commit_between (record { text = c.text_is_its_lines.ensures.text; unbroken = c.text_is_its_lines.ensures.unbroken }) h.held (kept c.args.table.now) c.args.key.now c.args.written (c.requires.sound h e) c.requires.edit _ refl) (commit_images (record { text = c.text_is_its_lines.ensures.text; unbroken = c.text_is_its_lines.ensures.unbroken }) h.held (kept c.args.table.now) c.args.key.now c.args.written (c.requires.sound h e) c.requires.edit _ refl))

pub returns-clause-ok : goal.returns-clause-ok
returns-clause-ok g c = λ ok h e. record {
  history = _;
  holds = two_ok _ _ h _ _ _ _ _ e (subst (λ (p : Folder → List Folder). Changes p (g.F.Files.history c.args.files.now) (g.F.Files.history c.rename.new.self) c.rename.result) (λ i. renamed (c.edit-from.ensures.name i) (c.value-to.ensures.name i)) c.rename.ensures.files) (ap is_ok c.in_ok-rename.was) c.add_line.ensures.files ok;
  sound = commit_sound (record { text = c.text_is_its_lines.ensures.text; unbroken = c.text_is_its_lines.ensures.unbroken }) h.held (kept c.args.table.now) c.args.key.now c.args.written (c.requires.sound h e) c.requires.edit _ refl;
  list = commit_list (record { text = c.text_is_its_lines.ensures.text; unbroken = c.text_is_its_lines.ensures.unbroken }) h.held (kept c.args.table.now) c.args.key.now c.args.written (c.requires.sound h e) c.requires.edit _ refl ∙ ap (λ v. stepped (listed h.held (kept c.args.table.now)) (Commit c.args.key.now v)) (handed_is (record { text = c.text_is_its_lines.ensures.text; unbroken = c.text_is_its_lines.ensures.unbroken }) h.held (kept c.args.table.now) c.args.key.now c.args.written (c.requires.sound h e) c.requires.edit);
}

pub returns-clause-known : goal.returns-clause-known
returns-clause-known g c = λ k e. let mid = known_back _ _ _ _ c.add_line.ensures.files k e in known_back _ _ _ _ c.rename.ensures.files mid.0 mid.1

pub returns-clause-lines : goal.returns-clause-lines
returns-clause-lines g c = λ ok h e k e'. ap (λ (m : FolderHistory). line_count m.held) (same_some _ _ (sym e' ∙ two_ok _ _ h _ _ _ _ _ e (subst (λ (p : Folder → List Folder). Changes p (g.F.Files.history c.args.files.now) (g.F.Files.history c.rename.new.self) c.rename.result) (λ i. renamed (c.edit-from.ensures.name i) (c.value-to.ensures.name i)) c.rename.ensures.files) (ap is_ok c.in_ok-rename.was) c.add_line.ensures.files ok))
    ∙ count_later (record { text = c.text_is_its_lines.ensures.text; unbroken = c.text_is_its_lines.ensures.unbroken }) h.held _ _ (moved_says (record { text = c.text_is_its_lines.ensures.text; unbroken = c.text_is_its_lines.ensures.unbroken }) h.held (kept c.args.table.now) c.args.key.now c.args.written (c.requires.sound h e) c.requires.edit _ refl) (Clean c.args.key.now c.args.written) (moved_journal (record { text = c.text_is_its_lines.ensures.text; unbroken = c.text_is_its_lines.ensures.unbroken }) h.held (kept c.args.table.now) c.args.key.now c.args.written (c.requires.sound h e) c.requires.edit _ refl) (c.edit-from.ensures.key, c.requires.short)
