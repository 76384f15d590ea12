use Rattle.std.proofs.Common.{ap, ◌∙◌, arith}
use Rattle.std.proofs.lemmas.List.{length-reverse}
use Rattle.disk_table.specs.UseOrder.{used}
use Rattle.disk_table.proofs.Steps.{after_promote, order_promote}
use Rattle.disk_table.proofs.order.UseOrder.touch.Goals as goal

pub returns-clause-order : goal.returns-clause-order
returns-clause-order c = after_promote c.self.inside.entries c.promote.new.self c.self.inside.size c.self.invariant c.args.key.now c.promote.ensures.entries ∙ ap (used c.args.key.now) c.self.view_is

pub invariant_of-self : goal.invariant_of-self
invariant_of-self c = order_promote c.self.inside.entries c.promote.new.self c.self.inside.size c.self.invariant c.args.key.now c.promote.ensures.entries

pub returns-clause-few : goal.returns-clause-few
returns-clause-few c =
    let order = order_promote c.self.inside.entries c.promote.new.self c.self.inside.size c.self.invariant c.args.key.now c.promote.ensures.entries in
    omega (arith, order.few, length-reverse c.promote.new.self.entries)
