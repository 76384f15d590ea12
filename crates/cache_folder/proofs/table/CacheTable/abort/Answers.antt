use Rattle.cache_folder.proofs.Kept.{lines_after, open_number, none_after, others_after, edits_after, aborted_after}
use Rattle.cache_folder.proofs.table.CacheTable.abort.Goals as goal

pub close_edit-requires-clause-open : goal.close_edit-requires-clause-open
close_edit-requires-clause-open c = open_number c.self.inside.table c.self.inside.written c.args.self.now c.args.key.now c.args.number c.self.view_is c.requires.open

pub returns-clause-kept : goal.returns-clause-kept
returns-clause-kept c = aborted_after c.self.inside.table c.self.inside.written c.args.self.now c.close_edit.new.self c.args.key.now c.args.number c.args.old c.self.view_is c.requires.open c.close_edit.ensures.table c.close_edit.ensures.free c.requires.old

pub returns-clause-edits : goal.returns-clause-edits
returns-clause-edits c = edits_after c.self.inside.table c.self.inside.written c.args.self.now c.close_edit.new.self c.args.key.now c.args.number c.args.old c.self.view_is c.requires.open c.close_edit.ensures.table c.close_edit.ensures.free

pub returns-clause-closed : goal.returns-clause-closed
returns-clause-closed c = none_after c.self.inside.table c.self.inside.written c.args.self.now c.close_edit.new.self c.args.key.now c.args.number c.args.old c.self.view_is c.requires.open c.close_edit.ensures.table c.close_edit.ensures.free

pub returns-clause-others : goal.returns-clause-others
returns-clause-others c =
    others_after c.self.inside.table c.self.inside.written c.args.self.now c.close_edit.new.self c.args.key.now c.args.number c.args.old c.self.view_is c.requires.open c.close_edit.ensures.table c.close_edit.ensures.free

pub returns-clause-lines : goal.returns-clause-lines
returns-clause-lines c = lines_after c.self.inside.table c.self.inside.written c.args.self.now c.close_edit.new.self c.args.key.now c.args.number c.args.old c.self.view_is c.requires.open c.close_edit.ensures.table c.close_edit.ensures.free
