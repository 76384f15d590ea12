use Rattle.std.proofs.Common.{ℕ, List, ◌≡◌, None, refl, sym, ap, subst, is_ok, ◌∙◌, IsSome, is_some}
use Rattle.std.specs.FinMap.{get}
use Rattle.outside.specs.Files.{FolderHistory, Changes, deleted, passed_through}
use Rattle.cache_folder.specs.Offered.{journal_name}
use Rattle.cache_folder.specs.Tables.{kept}
use Rattle.cache_folder.proofs.Journaled.{JournalLaws}
use Rattle.cache_folder.proofs.Runs.{one, one_ok, two, two_ok, at_middle, known_back, run_has, same_some}
use Rattle.cache_folder.proofs.Calls.{deleted_gone, deleted_images, remove_here, remove_gone, gone_journal, gone_says, remove_between, remove_images, remove_sound, remove_list}
use Rattle.journal_lines.specs.declared.lines.Line.TheVariants.{Remove}
use Rattle.cache_folder.specs.Offered.{value_name}
use Rattle.cache_folder.specs.Journals.{line_count}
use Rattle.cache_folder.specs.Sound.{MayLose}
use Rattle.cache_folder.proofs.Counting.{count_later, lost_here, lost_value, lost_line, gone_line}
use Rattle.cache_folder.proofs.steps.remove.Goals as goal

pub returns-in_err-delete-clause-ways : goal.returns-in_err-delete-clause-ways
returns-in_err-delete-clause-ways g c = λ h e. one _ _ h _ _ _ e (subst (λ (n : List ℕ). Changes (deleted n) (g.F.Files.history c.args.files.now) (g.F.Files.history c.delete.new.self) c.delete.result) c.value-value.ensures.name c.delete.ensures.files) (remove_here (record { text = c.text_is_its_lines.ensures.text; unbroken = c.text_is_its_lines.ensures.unbroken }) h.held (kept c.args.table.now) c.args.key.now (c.requires.sound h e) c.value-value.ensures.key) (remove_gone (record { text = c.text_is_its_lines.ensures.text; unbroken = c.text_is_its_lines.ensures.unbroken }) h.held (kept c.args.table.now) c.args.key.now (c.requires.sound h e) c.value-value.ensures.key)

pub returns-in_err-delete-clause-known : goal.returns-in_err-delete-clause-known
returns-in_err-delete-clause-known g c = λ k e. known_back _ _ _ _ c.delete.ensures.files k e

pub add_line-requires-clause-journal : goal.add_line-requires-clause-journal
add_line-requires-clause-journal g c = λ k e'. at_middle (λ d. IsSome (get d journal_name)) _ _ _ _ (subst (λ (n : List ℕ). Changes (deleted n) (g.F.Files.history c.args.files.now) (g.F.Files.history c.delete.new.self) c.delete.result) c.value-value.ensures.name c.delete.ensures.files) (ap is_ok c.in_ok-delete.was) (λ h e. ap is_some (gone_says (record { text = c.text_is_its_lines.ensures.text; unbroken = c.text_is_its_lines.ensures.unbroken }) h.held (kept c.args.table.now) c.args.key.now (c.requires.sound h e) c.value-value.ensures.key _ refl).text) k e'

pub returns-clause-ways : goal.returns-clause-ways
returns-clause-ways g c = λ h e. two _ _ _ h _ _ _ _ _ e (subst (λ (n : List ℕ). Changes (deleted n) (g.F.Files.history c.args.files.now) (g.F.Files.history c.delete.new.self) c.delete.result) c.value-value.ensures.name c.delete.ensures.files) (ap is_ok c.in_ok-delete.was) c.add_line.ensures.files
    (remove_here (record { text = c.text_is_its_lines.ensures.text; unbroken = c.text_is_its_lines.ensures.unbroken }) h.held (kept c.args.table.now) c.args.key.now (c.requires.sound h e) c.value-value.ensures.key) (remove_gone (record { text = c.text_is_its_lines.ensures.text; unbroken = c.text_is_its_lines.ensures.unbroken }) h.held (kept c.args.table.now) c.args.key.now (c.requires.sound h e) c.value-value.ensures.key) (remove_between (record { text = c.text_is_its_lines.ensures.text; unbroken = c.text_is_its_lines.ensures.unbroken }) h.held (kept c.args.table.now) c.args.key.now (c.requires.sound h e) c.value-value.ensures.key _ refl) (remove_images (record { text = c.text_is_its_lines.ensures.text; unbroken = c.text_is_its_lines.ensures.unbroken }) h.held (kept c.args.table.now) c.args.key.now (c.requires.sound h e) c.value-value.ensures.key _ refl)

pub returns-clause-ok : goal.returns-clause-ok
returns-clause-ok g c = λ ok h e. record {
  history = _;
  holds = two_ok _ _ h _ _ _ _ _ e (subst (λ (n : List ℕ). Changes (deleted n) (g.F.Files.history c.args.files.now) (g.F.Files.history c.delete.new.self) c.delete.result) c.value-value.ensures.name c.delete.ensures.files) (ap is_ok c.in_ok-delete.was) c.add_line.ensures.files ok;
  sound = remove_sound (record { text = c.text_is_its_lines.ensures.text; unbroken = c.text_is_its_lines.ensures.unbroken }) h.held (kept c.args.table.now) c.args.key.now (c.requires.sound h e) c.value-value.ensures.key _ refl;
  list = remove_list (record { text = c.text_is_its_lines.ensures.text; unbroken = c.text_is_its_lines.ensures.unbroken }) h.held (kept c.args.table.now) c.args.key.now (c.requires.sound h e) c.value-value.ensures.key _ refl;
}

pub returns-clause-known : goal.returns-clause-known
returns-clause-known g c = λ k e. let mid = known_back _ _ _ _ c.add_line.ensures.files k e in known_back _ _ _ _ c.delete.ensures.files mid.0 mid.1

pub returns-clause-lines : goal.returns-clause-lines
returns-clause-lines g c = λ ok h e k e'. ap (λ (m : FolderHistory). line_count m.held) (same_some _ _ (sym e' ∙ two_ok _ _ h _ _ _ _ _ e (subst (λ (n : List ℕ). Changes (deleted n) (g.F.Files.history c.args.files.now) (g.F.Files.history c.delete.new.self) c.delete.result) c.value-value.ensures.name c.delete.ensures.files) (ap is_ok c.in_ok-delete.was) c.add_line.ensures.files ok))
    ∙ count_later (record { text = c.text_is_its_lines.ensures.text; unbroken = c.text_is_its_lines.ensures.unbroken }) h.held _ _ (gone_says (record { text = c.text_is_its_lines.ensures.text; unbroken = c.text_is_its_lines.ensures.unbroken }) h.held (kept c.args.table.now) c.args.key.now (c.requires.sound h e) c.value-value.ensures.key _ refl) (Remove c.args.key.now) (gone_journal (record { text = c.text_is_its_lines.ensures.text; unbroken = c.text_is_its_lines.ensures.unbroken }) h.held (kept c.args.table.now) c.args.key.now (c.requires.sound h e) c.value-value.ensures.key _ refl) c.value-value.ensures.key

pub returns-in_err-delete-clause-left : goal.returns-in_err-delete-clause-left
returns-in_err-delete-clause-left g c = λ h e k e'. run_has (MayLose c.args.key.now h.held) h k _ (one _ _ h _ _ _ e (subst (λ (n : List ℕ). Changes (deleted n) (g.F.Files.history c.args.files.now) (g.F.Files.history c.delete.new.self) c.delete.result) c.value-value.ensures.name c.delete.ensures.files) (lost_here (record { text = c.text_is_its_lines.ensures.text; unbroken = c.text_is_its_lines.ensures.unbroken }) c.args.key.now h.held) (deleted_images (record { text = c.text_is_its_lines.ensures.text; unbroken = c.text_is_its_lines.ensures.unbroken }) (MayLose c.args.key.now h.held) h.held (value_name c.args.key.now) (lost_value (record { text = c.text_is_its_lines.ensures.text; unbroken = c.text_is_its_lines.ensures.unbroken }) c.args.key.now h.held))) e'

pub returns-clause-left : goal.returns-clause-left
returns-clause-left g c = λ h e k e'. run_has (MayLose c.args.key.now h.held) h k _ (two _ _ _ h _ _ _ _ _ e (subst (λ (n : List ℕ). Changes (deleted n) (g.F.Files.history c.args.files.now) (g.F.Files.history c.delete.new.self) c.delete.result) c.value-value.ensures.name c.delete.ensures.files) (ap is_ok c.in_ok-delete.was) c.add_line.ensures.files
    (lost_here (record { text = c.text_is_its_lines.ensures.text; unbroken = c.text_is_its_lines.ensures.unbroken }) c.args.key.now h.held) (deleted_images (record { text = c.text_is_its_lines.ensures.text; unbroken = c.text_is_its_lines.ensures.unbroken }) (MayLose c.args.key.now h.held) h.held (value_name c.args.key.now) (lost_value (record { text = c.text_is_its_lines.ensures.text; unbroken = c.text_is_its_lines.ensures.unbroken }) c.args.key.now h.held)) (lost_value (record { text = c.text_is_its_lines.ensures.text; unbroken = c.text_is_its_lines.ensures.unbroken }) c.args.key.now h.held) (lost_line (record { text = c.text_is_its_lines.ensures.text; unbroken = c.text_is_its_lines.ensures.unbroken }) c.args.key.now _ h.held _ (lost_value (record { text = c.text_is_its_lines.ensures.text; unbroken = c.text_is_its_lines.ensures.unbroken }) c.args.key.now h.held))) e'

pub returns-clause-gone : goal.returns-clause-gone
returns-clause-gone g c = λ ok k e'.
    let laws : JournalLaws = record { text = c.text_is_its_lines.ensures.text; unbroken = c.text_is_its_lines.ensures.unbroken } in
    let mid = known_back _ _ _ _ c.add_line.ensures.files k e' in
    let was = known_back _ _ _ _ c.delete.ensures.files mid.0 mid.1 in
    let h : FolderHistory = was.0 in
    let m : FolderHistory = passed_through (deleted (value_name c.args.key.now) h.held) h in
    let there = one_ok (deleted (value_name c.args.key.now)) h _ _ _ was.1 (subst (λ (n : List ℕ). Changes (deleted n) (g.F.Files.history c.args.files.now) (g.F.Files.history c.delete.new.self) c.delete.result) c.value-value.ensures.name c.delete.ensures.files) (ap is_ok c.in_ok-delete.was) in
    run_has (λ d. get d (value_name c.args.key.now) ≡ None) m k _
    (one (λ d. get d (value_name c.args.key.now) ≡ None) _ m _ _ _ there c.add_line.ensures.files (deleted_gone laws h.held (value_name c.args.key.now)) (gone_line laws c.args.key.now _ m.held (deleted_gone laws h.held (value_name c.args.key.now)))) e'
