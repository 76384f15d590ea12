use Rattle.std.proofs.Common.{Some, ap, ◌∙◌}
use Rattle.std.proofs.lemmas.List.{length-set}
use Rattle.disk_table.specs.Table.{edit_of}
use Rattle.disk_table.proofs.Apart.{none_of, apart_some}
use Rattle.disk_table.proofs.edits.Edits.open.Goals as goal

pub invariant_of-self : goal.invariant_of-self
invariant_of-self c = record {
  places = length-set c.self.inside.keys c.args.number (Some c.args.key.now) ∙ c.self.invariant.places;
  apart = apart_some c.args.key.now c.self.inside.keys c.args.number (none_of c.args.key.now c.self.inside.keys (ap (edit_of c.args.key.now) c.self.view_is ∙ c.requires.closed)) c.self.invariant.apart;
}
