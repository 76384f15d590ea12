use Rattle.std.proofs.Common.{◌≡◌, Some, None, refl, sym, ap, ◌∙◌, IsSome, is_some}
use Rattle.std.specs.declared.option.Option.{Option}
use Rattle.cache_folder.specs.Tables.{Kept, kept}
use Rattle.cache_folder.proofs.Runs.{one, one_ok, known_back, same_some}
use Rattle.cache_folder.proofs.Calls.{use_here, use_images, use_sound, use_list}
use Rattle.outside.specs.Files.{FolderHistory}
use Rattle.journal_lines.specs.declared.lines.Line.TheVariants.{Read}
use Rattle.cache_folder.specs.Journals.{line_count}
use Rattle.cache_folder.proofs.Counting.{count_later}
use Rattle.cache_folder.proofs.steps.touch.Goals as goal

kept_of : (o : Option Kept) → IsSome o → (k : Kept) × (o ≡ Some k)
kept_of None h = cc
kept_of (Some k) h = (k, refl)

pub add_line-requires-clause-journal : goal.add_line-requires-clause-journal
add_line-requires-clause-journal g c = λ h e. ap is_some (c.requires.sound h e).says.text

pub returns-clause-ways : goal.returns-clause-ways
returns-clause-ways g c = λ h e. one _ _ h _ _ _ e c.add_line.ensures.files (use_here (record { text = c.text_is_its_lines.ensures.text; unbroken = c.text_is_its_lines.ensures.unbroken }) h.held (kept c.args.table.now) c.args.key.now (kept_of _ c.requires.known).0 (c.requires.sound h e) c.bytes-key.ensures.key (kept_of _ c.requires.known).1) (use_images (record { text = c.text_is_its_lines.ensures.text; unbroken = c.text_is_its_lines.ensures.unbroken }) h.held (kept c.args.table.now) c.args.key.now (kept_of _ c.requires.known).0 (c.requires.sound h e) c.bytes-key.ensures.key (kept_of _ c.requires.known).1)

pub returns-clause-ok : goal.returns-clause-ok
returns-clause-ok g c = λ ok h e. record {
  history = _;
  holds = one_ok _ h _ _ _ e c.add_line.ensures.files ok;
  sound = use_sound (record { text = c.text_is_its_lines.ensures.text; unbroken = c.text_is_its_lines.ensures.unbroken }) h.held (kept c.args.table.now) c.args.key.now (kept_of _ c.requires.known).0 (c.requires.sound h e) c.bytes-key.ensures.key (kept_of _ c.requires.known).1;
  list = use_list (record { text = c.text_is_its_lines.ensures.text; unbroken = c.text_is_its_lines.ensures.unbroken }) h.held (kept c.args.table.now) c.args.key.now (kept_of _ c.requires.known).0 (c.requires.sound h e) c.bytes-key.ensures.key (kept_of _ c.requires.known).1;
}

pub returns-clause-known : goal.returns-clause-known
returns-clause-known g c = λ k e. known_back _ _ _ _ c.add_line.ensures.files k e

pub returns-clause-lines : goal.returns-clause-lines
returns-clause-lines g c = λ ok h e k e'. ap (λ (m : FolderHistory). line_count m.held) (same_some _ _ (sym e' ∙ one_ok _ h _ _ _ e c.add_line.ensures.files ok))
    ∙ count_later (record { text = c.text_is_its_lines.ensures.text; unbroken = c.text_is_its_lines.ensures.unbroken }) h.held h.held _ (c.requires.sound h e).says (Read c.args.key.now) refl c.bytes-key.ensures.key
