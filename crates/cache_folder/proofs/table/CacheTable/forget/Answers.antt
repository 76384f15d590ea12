use Rattle.std.proofs.Common.{None, sym, ap, ◌∙◌}
use Rattle.disk_table.specs.UseOrder.{is_known, without}
use Rattle.disk_table.specs.Table.{TableValue, counted, edit_of}
use Rattle.cache_folder.specs.Tables.{CacheTableValue, kept, closed_at}
use Rattle.cache_folder.proofs.Kept.{lines_after, known_kept, forgotten_lines, open_number, none_after, others_after, dropped_after, forgotten_after, forgotten_edits, edits_after}
use Rattle.cache_folder.proofs.table.CacheTable.forget.Goals as goal

pub close_edit-requires-clause-open : goal.close_edit-requires-clause-open
close_edit-requires-clause-open c = open_number c.self.inside.table c.self.inside.written c.args.self.now c.args.key.now c.in-Some.number c.self.view_is (ap (λ (t : CacheTableValue). edit_of c.args.key.now t.table.edits) (sym c.self.view_is) ∙ sym c.edit_of.ensures.number ∙ c.in-Some.is)

pub returns-in-Some-clause-kept : goal.returns-in-Some-clause-kept
returns-in-Some-clause-kept c = dropped_after c.self.inside.table c.self.inside.written c.args.self.now c.close_edit.new.self c.args.key.now c.in-Some.number c.self.view_is (ap (λ (t : CacheTableValue). edit_of c.args.key.now t.table.edits) (sym c.self.view_is) ∙ sym c.edit_of.ensures.number ∙ c.in-Some.is) c.close_edit.ensures.table c.close_edit.ensures.free

pub returns-in-Some-clause-closed : goal.returns-in-Some-clause-closed
returns-in-Some-clause-closed c = none_after c.self.inside.table c.self.inside.written c.args.self.now c.close_edit.new.self c.args.key.now c.in-Some.number None c.self.view_is (ap (λ (t : CacheTableValue). edit_of c.args.key.now t.table.edits) (sym c.self.view_is) ∙ sym c.edit_of.ensures.number ∙ c.in-Some.is) c.close_edit.ensures.table c.close_edit.ensures.free

pub returns-in-Some-clause-others : goal.returns-in-Some-clause-others
returns-in-Some-clause-others c = others_after c.self.inside.table c.self.inside.written c.args.self.now c.close_edit.new.self c.args.key.now c.in-Some.number None c.self.view_is (ap (λ (t : CacheTableValue). edit_of c.args.key.now t.table.edits) (sym c.self.view_is) ∙ sym c.edit_of.ensures.number ∙ c.in-Some.is) c.close_edit.ensures.table c.close_edit.ensures.free

pub returns-in-None-clause-kept : goal.returns-in-None-clause-kept
returns-in-None-clause-kept c = ap (λ (t : TableValue). kept (record { table = t; written = c.self.inside.written })) c.forget.ensures
    ∙ forgotten_after c.self.inside.table c.self.inside.written c.args.key.now ∙ ap (λ (t : CacheTableValue). without c.args.key.now (kept t)) c.self.view_is

pub returns-in-Some-clause-lines : goal.returns-in-Some-clause-lines
returns-in-Some-clause-lines c = λ known. lines_after c.self.inside.table c.self.inside.written c.args.self.now c.close_edit.new.self c.args.key.now c.in-Some.number None c.self.view_is (ap (λ (t : CacheTableValue). edit_of c.args.key.now t.table.edits) (sym c.self.view_is) ∙ sym c.edit_of.ensures.number ∙ c.in-Some.is) c.close_edit.ensures.table c.close_edit.ensures.free

pub returns-in-None-clause-lines : goal.returns-in-None-clause-lines
returns-in-None-clause-lines c = λ known. ap (λ (t : TableValue). t.lines) c.forget.ensures
    ∙ forgotten_lines c.self.inside.table c.args.key.now (sym (known_kept (record { table = c.self.inside.table; written = c.self.inside.written }) c.args.key.now) ∙ ap (λ (t : CacheTableValue). is_known c.args.key.now (kept t)) c.self.view_is ∙ known)
    ∙ ap (λ (t : CacheTableValue). counted t.table.lines) c.self.view_is

pub returns-in-Some-clause-edits : goal.returns-in-Some-clause-edits
returns-in-Some-clause-edits c =
    let number = ap (λ (t : CacheTableValue). edit_of c.args.key.now t.table.edits) (sym c.self.view_is) ∙ sym c.edit_of.ensures.number ∙ c.in-Some.is in
    edits_after c.self.inside.table c.self.inside.written c.args.self.now c.close_edit.new.self c.args.key.now c.in-Some.number None c.self.view_is number c.close_edit.ensures.table c.close_edit.ensures.free
    ∙ sym (ap (λ o. closed_at o c.args.self.now.table.edits) number)

pub returns-in-None-clause-edits : goal.returns-in-None-clause-edits
returns-in-None-clause-edits c =
    let none = ap (λ (t : CacheTableValue). edit_of c.args.key.now t.table.edits) (sym c.self.view_is) ∙ sym c.edit_of.ensures.number ∙ c.in-None.is in
    ap (λ (t : TableValue). t.edits) c.forget.ensures ∙ forgotten_edits c.self.inside.table c.args.key.now
    ∙ ap (λ (t : CacheTableValue). t.table.edits) c.self.view_is ∙ sym (ap (λ o. closed_at o c.args.self.now.table.edits) none)
