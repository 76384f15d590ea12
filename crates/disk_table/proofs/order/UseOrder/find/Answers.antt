use Rattle.std.proofs.Common.{sym, ap, ◌∙◌}
use Rattle.disk_table.specs.UseOrder.{value_at}
use Rattle.disk_table.proofs.Listed.{at_key}
use Rattle.disk_table.proofs.order.UseOrder.find.Goals as goal

pub returns : goal.returns
returns c = c.copied.ensures ∙ c.peek.ensures ∙ sym (at_key c.args.key.now c.self.inside.entries.entries c.self.invariant.once) ∙ ap (value_at c.args.key.now) c.self.view_is
