use Rattle.std.proofs.Common.{◌≡◌, ℕ, List, true, Some, None, refl, sym, ap, subst, is_ok, ◌∙◌, IsSome, is_some}
use Rattle.std.specs.declared.option.Option.{Option}
use Rattle.std.specs.List.{AllByRecursion}
use Rattle.std.specs.FinMap.{get}
use Rattle.outside.specs.Files.{Folder, FolderHistory, last_of, Changes, appended, deleted}
use Rattle.journal_lines.specs.Keys.{is_key}
use Rattle.journal_lines.specs.Lines.{spelled}
use Rattle.journal_lines.specs.Journal.{ended}
use Rattle.cache_folder.specs.Offered.{journal_name, edit_name}
use Rattle.cache_folder.specs.Steps.{stepped}
use Rattle.cache_folder.specs.Tables.{Table, kept, aborted, line_back, edit_at, len_at}
use Rattle.cache_folder.specs.Sound.{IsSound, listed, abort_step}
use Rattle.cache_folder.proofs.Journaled.{JournalLaws}
use Rattle.cache_folder.proofs.Runs.{one, two, two_ok, at_middle, known_back, same_some}
use Rattle.cache_folder.proofs.Calls.{AbortWay, abort_here, abort_cut, cut_journal, cut_says, abort_between, restore_images, restore_sound, restore_list, drop_images, drop_sound, drop_list}
use Rattle.cache_folder.specs.Journals.{line_count}
use Rattle.cache_folder.proofs.Counting.{count_later, line_back_good}
use Rattle.cache_folder.proofs.steps.abort.Goals as goal

number_of : (o : Option ℕ) → IsSome o → (k : ℕ) × (o ≡ Some k)
number_of None h = cc
number_of (Some k) h = (k, refl)

module _ (laws : JournalLaws) (f : Folder) (t : Table) (key : List ℕ) (s : IsSound f t) (good : is_key key ≡ true) (n : ℕ) (open' : edit_at key t ≡ Some n) where
  images_by : (old : Option ℕ) (was : len_at key t ≡ old) → AllByRecursion (AbortWay laws f t key old s good n open' was) (appended journal_name (ended (spelled (line_back key old))) (last_of f (deleted (edit_name key) f)))
  images_by None was = drop_images laws f t key None s good n open' was _ refl refl
  images_by (Some m) was = restore_images laws f t key (Some m) s good n open' was _ refl m refl

  sound_by : (old : Option ℕ) (was : len_at key t ≡ old) → IsSound (last_of (last_of f (deleted (edit_name key) f)) (appended journal_name (ended (spelled (line_back key old))) (last_of f (deleted (edit_name key) f)))) (aborted old key t)
  sound_by None was = drop_sound laws f t key None s good n open' was _ refl refl
  sound_by (Some m) was = restore_sound laws f t key (Some m) s good n open' was _ refl m refl

  list_by : (old : Option ℕ) (was : len_at key t ≡ old) → listed (last_of (last_of f (deleted (edit_name key) f)) (appended journal_name (ended (spelled (line_back key old))) (last_of f (deleted (edit_name key) f)))) (aborted old key t) ≡ stepped (listed f t) (abort_step old key)
  list_by None was = drop_list laws f t key None s good n open' was _ refl refl
  list_by (Some m) was = restore_list laws f t key (Some m) s good n open' was _ refl m refl

pub returns-in_err-delete-clause-ways : goal.returns-in_err-delete-clause-ways
returns-in_err-delete-clause-ways g c = λ h e. one _ _ h _ _ _ e (subst (λ (n : List ℕ). Changes (deleted n) (g.F.Files.history c.args.files.now) (g.F.Files.history c.delete.new.self) c.delete.result) c.edit-edit.ensures.name c.delete.ensures.files) (abort_here (record { text = c.text_is_its_lines.ensures.text; unbroken = c.text_is_its_lines.ensures.unbroken }) h.held (kept c.args.table.now) c.args.key.now c.args.old (c.requires.sound h e) c.edit-edit.ensures.key (number_of _ c.requires.edit).0 (number_of _ c.requires.edit).1 c.requires.old) (abort_cut (record { text = c.text_is_its_lines.ensures.text; unbroken = c.text_is_its_lines.ensures.unbroken }) h.held (kept c.args.table.now) c.args.key.now c.args.old (c.requires.sound h e) c.edit-edit.ensures.key (number_of _ c.requires.edit).0 (number_of _ c.requires.edit).1 c.requires.old)

pub returns-in_err-delete-clause-known : goal.returns-in_err-delete-clause-known
returns-in_err-delete-clause-known g c = λ k e. known_back _ _ _ _ c.delete.ensures.files k e

pub add_line-requires-clause-journal : goal.add_line-requires-clause-journal
add_line-requires-clause-journal g c = λ k e'. at_middle (λ d. IsSome (get d journal_name)) _ _ _ _ (subst (λ (n : List ℕ). Changes (deleted n) (g.F.Files.history c.args.files.now) (g.F.Files.history c.delete.new.self) c.delete.result) c.edit-edit.ensures.name c.delete.ensures.files) (ap is_ok c.in_ok-delete.was) (λ h e. ap is_some (cut_says (record { text = c.text_is_its_lines.ensures.text; unbroken = c.text_is_its_lines.ensures.unbroken }) h.held (kept c.args.table.now) c.args.key.now c.args.old (c.requires.sound h e) c.edit-edit.ensures.key (number_of _ c.requires.edit).0 (number_of _ c.requires.edit).1 c.requires.old _ refl).text) k e'

pub returns-clause-ways : goal.returns-clause-ways
returns-clause-ways g c = λ h e. two _ _ _ h _ _ _ _ _ e (subst (λ (n : List ℕ). Changes (deleted n) (g.F.Files.history c.args.files.now) (g.F.Files.history c.delete.new.self) c.delete.result) c.edit-edit.ensures.name c.delete.ensures.files) (ap is_ok c.in_ok-delete.was) (subst (λ l. Changes (appended journal_name (ended (spelled l))) (g.F.Files.history c.delete.new.self) (g.F.Files.history c.add_line.new.files) c.add_line.result) c.line_back-line.ensures c.add_line.ensures.files)
    (abort_here (record { text = c.text_is_its_lines.ensures.text; unbroken = c.text_is_its_lines.ensures.unbroken }) h.held (kept c.args.table.now) c.args.key.now c.args.old (c.requires.sound h e) c.edit-edit.ensures.key (number_of _ c.requires.edit).0 (number_of _ c.requires.edit).1 c.requires.old) (abort_cut (record { text = c.text_is_its_lines.ensures.text; unbroken = c.text_is_its_lines.ensures.unbroken }) h.held (kept c.args.table.now) c.args.key.now c.args.old (c.requires.sound h e) c.edit-edit.ensures.key (number_of _ c.requires.edit).0 (number_of _ c.requires.edit).1 c.requires.old) (abort_between (record { text = c.text_is_its_lines.ensures.text; unbroken = c.text_is_its_lines.ensures.unbroken }) h.held (kept c.args.table.now) c.args.key.now c.args.old (c.requires.sound h e) c.edit-edit.ensures.key (number_of _ c.requires.edit).0 (number_of _ c.requires.edit).1 c.requires.old _ refl) (images_by (record { text = c.text_is_its_lines.ensures.text; unbroken = c.text_is_its_lines.ensures.unbroken }) h.held (kept c.args.table.now) c.args.key.now (c.requires.sound h e) c.edit-edit.ensures.key (number_of _ c.requires.edit).0 (number_of _ c.requires.edit).1 c.args.old c.requires.old)

pub returns-clause-ok : goal.returns-clause-ok
returns-clause-ok g c = λ ok h e. record {
  history = _;
  holds = two_ok _ _ h _ _ _ _ _ e (subst (λ (n : List ℕ). Changes (deleted n) (g.F.Files.history c.args.files.now) (g.F.Files.history c.delete.new.self) c.delete.result) c.edit-edit.ensures.name c.delete.ensures.files) (ap is_ok c.in_ok-delete.was) (subst (λ l. Changes (appended journal_name (ended (spelled l))) (g.F.Files.history c.delete.new.self) (g.F.Files.history c.add_line.new.files) c.add_line.result) c.line_back-line.ensures c.add_line.ensures.files) ok;
  sound = sound_by (record { text = c.text_is_its_lines.ensures.text; unbroken = c.text_is_its_lines.ensures.unbroken }) h.held (kept c.args.table.now) c.args.key.now (c.requires.sound h e) c.edit-edit.ensures.key (number_of _ c.requires.edit).0 (number_of _ c.requires.edit).1 c.args.old c.requires.old;
  list = list_by (record { text = c.text_is_its_lines.ensures.text; unbroken = c.text_is_its_lines.ensures.unbroken }) h.held (kept c.args.table.now) c.args.key.now (c.requires.sound h e) c.edit-edit.ensures.key (number_of _ c.requires.edit).0 (number_of _ c.requires.edit).1 c.args.old c.requires.old;
}

pub returns-clause-known : goal.returns-clause-known
returns-clause-known g c = λ k e. let mid = known_back _ _ _ _ c.add_line.ensures.files k e in known_back _ _ _ _ c.delete.ensures.files mid.0 mid.1

pub returns-clause-lines : goal.returns-clause-lines
returns-clause-lines g c = λ ok h e k e'. ap (λ (m : FolderHistory). line_count m.held) (same_some _ _ (sym e' ∙ two_ok _ _ h _ _ _ _ _ e (subst (λ (n : List ℕ). Changes (deleted n) (g.F.Files.history c.args.files.now) (g.F.Files.history c.delete.new.self) c.delete.result) c.edit-edit.ensures.name c.delete.ensures.files) (ap is_ok c.in_ok-delete.was) (subst (λ l. Changes (appended journal_name (ended (spelled l))) (g.F.Files.history c.delete.new.self) (g.F.Files.history c.add_line.new.files) c.add_line.result) c.line_back-line.ensures c.add_line.ensures.files) ok))
    ∙ count_later (record { text = c.text_is_its_lines.ensures.text; unbroken = c.text_is_its_lines.ensures.unbroken }) h.held _ _ (cut_says (record { text = c.text_is_its_lines.ensures.text; unbroken = c.text_is_its_lines.ensures.unbroken }) h.held (kept c.args.table.now) c.args.key.now c.args.old (c.requires.sound h e) c.edit-edit.ensures.key (number_of _ c.requires.edit).0 (number_of _ c.requires.edit).1 c.requires.old _ refl) (line_back c.args.key.now c.args.old) (cut_journal (record { text = c.text_is_its_lines.ensures.text; unbroken = c.text_is_its_lines.ensures.unbroken }) h.held (kept c.args.table.now) c.args.key.now c.args.old (c.requires.sound h e) c.edit-edit.ensures.key (number_of _ c.requires.edit).0 (number_of _ c.requires.edit).1 c.requires.old _ refl) (line_back_good (record { text = c.text_is_its_lines.ensures.text; unbroken = c.text_is_its_lines.ensures.unbroken }) c.args.key.now c.args.old c.edit-edit.ensures.key c.requires.short)
