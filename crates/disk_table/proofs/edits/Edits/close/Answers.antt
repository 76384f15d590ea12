use Rattle.std.proofs.Common.{None, ◌∙◌, ap}
use Rattle.std.proofs.lemmas.List.{length-set}
use Rattle.disk_table.specs.Table.{key_of_edit}
use Rattle.disk_table.proofs.Known.{free_closed}
use Rattle.disk_table.proofs.Apart.{apart_none}
use Rattle.disk_table.proofs.edits.Edits.close.Goals as goal

pub invariant_of-self : goal.invariant_of-self
invariant_of-self c = record {
  places = length-set c.self.inside.keys c.args.number None ∙ c.self.invariant.places;
  apart = apart_none c.self.inside.keys c.args.number c.self.invariant.apart;
}

pub returns-clause-free : goal.returns-clause-free
returns-clause-free c key is = free_closed c.self.inside.keys key c.args.number c.self.invariant.apart (ap (key_of_edit c.args.number) c.self.view_is ∙ is)
