use Rattle.std.proofs.Common.{◌∙◌, ap, is_some}
use Rattle.cache_folder.proofs.Sweeping.{its_file, no_file}
use Rattle.cache_folder.proofs.leftovers.is_entry_file.Goals as goal

pub returns-in-Some-clause-yes : goal.returns-in-Some-clause-yes
returns-in-Some-clause-yes c = its_file c.args.name.now c.in-Some.key c.args.table.now.table.entries c.is_some.result c.in-Some.ensures.some (c.is_some.ensures ∙ ap is_some c.length_of.ensures)

pub returns-in-Some-clause-no : goal.returns-in-Some-clause-no
returns-in-Some-clause-no c = no_file c.args.name.now c.in-Some.key c.args.table.now.table.entries c.is_some.result c.in-Some.ensures.some (c.is_some.ensures ∙ ap is_some c.length_of.ensures)
