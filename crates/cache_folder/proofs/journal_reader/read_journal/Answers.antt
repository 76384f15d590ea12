use Rattle.std.proofs.Common.{◌≡◌, [], length, refl, ap, ◌∙◌}
use Rattle.std.specs.Option.{option_map}
use Rattle.std.specs.FinMap.{get}
use Rattle.std.proofs.lemmas.Result.{err_from_is_err_and}
use Rattle.cache_folder.specs.Offered.{journal_name}
use Rattle.cache_folder.specs.Starts.{table_of}
use Rattle.cache_folder.specs.declared.journal_reader.Unread.TheVariants.{Bad}
use Rattle.cache_folder.proofs.Pieces.{file_found, bad_text}
use Rattle.cache_folder.proofs.journal_reader.read_journal.Goals as goal

pub returns-in_err-apply_all-clause-bad : goal.returns-in_err-apply_all-clause-bad
returns-in_err-apply_all-clause-bad g c =
    let p = err_from_is_err_and c.from_residual-in_err-apply_all.result c.from_residual-in_err-apply_all.ensures.1 in
    rw (p.1, p.2) (λ failed h e.
    let is : c.in_err-apply_all.field-0.0 ≡ Bad = cc in
    let found = file_found (get h.held journal_name) c.in_ok-size.field-0 c.in-Some.size
    (c.in_ok-size.ensures.length h e ∙ ap (λ n. option_map length (get h.held n)) c.journal-journal.ensures) c.in-Some.is in
    ap table_of found.1
    ∙ bad_text (record { table = c.in_ok-table.table.table; replay = c.new-replay.result; left = found.0 })
    (record { table = c.apply_all.new.table.table; replay = c.apply_all.new.replay; left = [] }) c.in_err-apply_all.field-0.0 found.0
    refl c.in_ok-table.ensures.table (c.new-replay.ensures.journal found.0)
    (c.in_err-apply_all.ensures.applies h (c.in_ok-size.ensures.same ∙ e) found.0 found.1 found.2) is)
