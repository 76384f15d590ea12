use Rattle.std.proofs.Common.{ℕ, List, refl, sym, ap, subst, ◌∙◌, is_ok, is_some}
use Rattle.outside.specs.Files.{FolderHistory, Changes, made}
use Rattle.cache_folder.specs.Offered.{edit_name}
use Rattle.cache_folder.specs.Tables.{kept}
use Rattle.cache_folder.specs.Sound.{text_at}
use Rattle.cache_folder.proofs.Runs.{one, two, two_ok, known_back, same_some}
use Rattle.cache_folder.proofs.Calls.{begin_here, begin_images, begin_between, begin_made, begin_sound, begin_list, begin_text}
use Rattle.journal_lines.specs.declared.lines.Line.TheVariants.{Dirty}
use Rattle.cache_folder.specs.Journals.{line_count}
use Rattle.cache_folder.proofs.Counting.{count_begun}
use Rattle.cache_folder.proofs.steps.begin.Goals as goal

pub add_line-requires-clause-journal : goal.add_line-requires-clause-journal
add_line-requires-clause-journal g c = λ h e. ap is_some (c.requires.sound h e).says.text

pub returns-in_err-add_line-clause-ways : goal.returns-in_err-add_line-clause-ways
returns-in_err-add_line-clause-ways g c = λ h e. one _ _ h _ _ _ e c.add_line.ensures.files (begin_here (record { text = c.text_is_its_lines.ensures.text; unbroken = c.text_is_its_lines.ensures.unbroken }) h.held (kept c.args._before.now.value) c.args.key.now (c.requires.sound h e) c.edit-edit.ensures.key c.requires.room) (begin_images (record { text = c.text_is_its_lines.ensures.text; unbroken = c.text_is_its_lines.ensures.unbroken }) h.held (kept c.args._before.now.value) c.args.key.now (c.requires.sound h e) c.edit-edit.ensures.key c.requires.room)

pub returns-in_err-add_line-clause-known : goal.returns-in_err-add_line-clause-known
returns-in_err-add_line-clause-known g c = λ k e. known_back _ _ _ _ c.add_line.ensures.files k e

pub returns-clause-ways : goal.returns-clause-ways
returns-clause-ways g c = λ h e. two _ _ _ h _ _ _ _ _ e c.add_line.ensures.files (ap is_ok c.in_ok-add_line.was) (subst (λ (n : List ℕ). Changes (made n) (g.F.Files.history c.add_line.new.files) (g.F.Files.history c.make.new.self) c.make.result) c.edit-edit.ensures.name c.make.ensures.files)
    (begin_here (record { text = c.text_is_its_lines.ensures.text; unbroken = c.text_is_its_lines.ensures.unbroken }) h.held (kept c.args._before.now.value) c.args.key.now (c.requires.sound h e) c.edit-edit.ensures.key c.requires.room) (begin_images (record { text = c.text_is_its_lines.ensures.text; unbroken = c.text_is_its_lines.ensures.unbroken }) h.held (kept c.args._before.now.value) c.args.key.now (c.requires.sound h e) c.edit-edit.ensures.key c.requires.room) (begin_between (record { text = c.text_is_its_lines.ensures.text; unbroken = c.text_is_its_lines.ensures.unbroken }) h.held (kept c.args._before.now.value) c.args.key.now (c.requires.sound h e) c.edit-edit.ensures.key c.requires.room _ refl) (begin_made (record { text = c.text_is_its_lines.ensures.text; unbroken = c.text_is_its_lines.ensures.unbroken }) h.held (kept c.args._before.now.value) c.args.key.now (c.requires.sound h e) c.edit-edit.ensures.key c.requires.room _ refl)

pub returns-clause-ok : goal.returns-clause-ok
returns-clause-ok g c = λ ok h e. record {
  history = _;
  holds = two_ok _ _ h _ _ _ _ _ e c.add_line.ensures.files (ap is_ok c.in_ok-add_line.was) (subst (λ (n : List ℕ). Changes (made n) (g.F.Files.history c.add_line.new.files) (g.F.Files.history c.make.new.self) c.make.result) c.edit-edit.ensures.name c.make.ensures.files) ok;
  sound = begin_sound (record { text = c.text_is_its_lines.ensures.text; unbroken = c.text_is_its_lines.ensures.unbroken }) h.held (kept c.args._before.now.value) c.args.key.now (c.requires.sound h e) c.edit-edit.ensures.key c.requires.room _ refl;
  list = begin_list (record { text = c.text_is_its_lines.ensures.text; unbroken = c.text_is_its_lines.ensures.unbroken }) h.held (kept c.args._before.now.value) c.args.key.now (c.requires.sound h e) c.edit-edit.ensures.key c.requires.room _ refl;
}

pub returns-clause-empty : goal.returns-clause-empty
returns-clause-empty g c = λ ok h e k e'. ap (λ (m : FolderHistory). text_at m.held (edit_name c.args.key.now)) (same_some _ _ (sym e' ∙ two_ok _ _ h _ _ _ _ _ e c.add_line.ensures.files (ap is_ok c.in_ok-add_line.was) (subst (λ (n : List ℕ). Changes (made n) (g.F.Files.history c.add_line.new.files) (g.F.Files.history c.make.new.self) c.make.result) c.edit-edit.ensures.name c.make.ensures.files) ok)) ∙ begin_text (record { text = c.text_is_its_lines.ensures.text; unbroken = c.text_is_its_lines.ensures.unbroken }) h.held (kept c.args._before.now.value) c.args.key.now (c.requires.sound h e) c.edit-edit.ensures.key c.requires.room _ refl

pub returns-clause-known : goal.returns-clause-known
returns-clause-known g c = λ k e. let mid = known_back _ _ _ _ c.make.ensures.files k e in known_back _ _ _ _ c.add_line.ensures.files mid.0 mid.1

pub returns-clause-lines : goal.returns-clause-lines
returns-clause-lines g c = λ ok h e k e'. ap (λ (m : FolderHistory). line_count m.held) (same_some _ _ (sym e' ∙ two_ok _ _ h _ _ _ _ _ e c.add_line.ensures.files (ap is_ok c.in_ok-add_line.was) (subst (λ (n : List ℕ). Changes (made n) (g.F.Files.history c.add_line.new.files) (g.F.Files.history c.make.new.self) c.make.result) c.edit-edit.ensures.name c.make.ensures.files) ok))
    ∙ count_begun (record { text = c.text_is_its_lines.ensures.text; unbroken = c.text_is_its_lines.ensures.unbroken }) h.held _ (c.requires.sound h e).says (Dirty c.args.key.now) c.args.key.now c.edit-edit.ensures.key
