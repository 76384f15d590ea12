use Rattle.std.proofs.Common.{ℕ, List, sym, ap, subst, ◌∙◌, is_some}
use Rattle.std.specs.FinMap.{get}
use Rattle.outside.specs.Files.{FolderHistory, Changes, appended}
use Rattle.cache_folder.specs.Offered.{edit_name}
use Rattle.cache_folder.specs.Tables.{kept}
use Rattle.cache_folder.specs.Sound.{text_at}
use Rattle.cache_folder.proofs.Runs.{one, one_ok, known_back, same_some}
use Rattle.cache_folder.proofs.Calls.{write_here, edit_there, write_images, write_sound, write_list, write_text}
use Rattle.cache_folder.specs.Journals.{line_count}
use Rattle.cache_folder.proofs.Counting.{count_written}
use Rattle.cache_folder.proofs.steps.write.Goals as goal

pub append-requires : goal.append-requires
append-requires g c = λ h e. ap (λ n. is_some (get h.held n)) c.edit-edit.ensures.name ∙ edit_there (record { text = c.text_is_its_lines.ensures.text; unbroken = c.text_is_its_lines.ensures.unbroken }) h.held (kept c.args.table.now) c.args.key.now c.args.written (c.requires.sound h e) c.requires.edit

pub returns-clause-ways : goal.returns-clause-ways
returns-clause-ways g c = λ h e. one _ _ h _ _ _ e (subst (λ (n : List ℕ). Changes (appended n c.args.bytes.now) (g.F.Files.history c.args.files.now) (g.F.Files.history c.append.new.self) c.append.result) c.edit-edit.ensures.name c.append.ensures.files) (write_here (record { text = c.text_is_its_lines.ensures.text; unbroken = c.text_is_its_lines.ensures.unbroken }) h.held (kept c.args.table.now) c.args.key.now c.args.written (c.requires.sound h e) c.requires.edit) (write_images (record { text = c.text_is_its_lines.ensures.text; unbroken = c.text_is_its_lines.ensures.unbroken }) h.held (kept c.args.table.now) c.args.key.now c.args.written (c.requires.sound h e) c.requires.edit c.args.bytes.now)

pub returns-clause-ok : goal.returns-clause-ok
returns-clause-ok g c = λ ok h e. record {
  history = _;
  holds = one_ok _ h _ _ _ e (subst (λ (n : List ℕ). Changes (appended n c.args.bytes.now) (g.F.Files.history c.args.files.now) (g.F.Files.history c.append.new.self) c.append.result) c.edit-edit.ensures.name c.append.ensures.files) ok;
  sound = write_sound (record { text = c.text_is_its_lines.ensures.text; unbroken = c.text_is_its_lines.ensures.unbroken }) h.held (kept c.args.table.now) c.args.key.now c.args.written (c.requires.sound h e) c.requires.edit c.args.bytes.now c.requires.small;
  list = write_list (record { text = c.text_is_its_lines.ensures.text; unbroken = c.text_is_its_lines.ensures.unbroken }) h.held (kept c.args.table.now) c.args.key.now c.args.written (c.requires.sound h e) c.requires.edit c.args.bytes.now c.requires.small;
}

pub returns-clause-text : goal.returns-clause-text
returns-clause-text g c = λ ok h e k e'. ap (λ (m : FolderHistory). text_at m.held (edit_name c.args.key.now)) (same_some _ _ (sym e' ∙ one_ok _ h _ _ _ e (subst (λ (n : List ℕ). Changes (appended n c.args.bytes.now) (g.F.Files.history c.args.files.now) (g.F.Files.history c.append.new.self) c.append.result) c.edit-edit.ensures.name c.append.ensures.files) ok)) ∙ write_text (record { text = c.text_is_its_lines.ensures.text; unbroken = c.text_is_its_lines.ensures.unbroken }) h.held (kept c.args.table.now) c.args.key.now c.args.written (c.requires.sound h e) c.requires.edit c.args.bytes.now c.requires.small

pub returns-clause-known : goal.returns-clause-known
returns-clause-known g c = λ k e. known_back _ _ _ _ c.append.ensures.files k e

pub returns-clause-lines : goal.returns-clause-lines
returns-clause-lines g c = λ ok h e k e'. ap (λ (m : FolderHistory). line_count m.held) (same_some _ _ (sym e' ∙ one_ok _ h _ _ _ e (subst (λ (n : List ℕ). Changes (appended n c.args.bytes.now) (g.F.Files.history c.args.files.now) (g.F.Files.history c.append.new.self) c.append.result) c.edit-edit.ensures.name c.append.ensures.files) ok))
    ∙ count_written (record { text = c.text_is_its_lines.ensures.text; unbroken = c.text_is_its_lines.ensures.unbroken }) h.held (kept c.args.table.now) c.args.key.now c.args.bytes.now c.args.written (c.requires.sound h e) c.requires.edit
