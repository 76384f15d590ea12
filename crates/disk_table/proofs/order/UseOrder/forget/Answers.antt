use Rattle.std.proofs.Common.{sym, ap, ◌∙◌, arith}
use Rattle.std.proofs.lemmas.List.{length-reverse}
use Rattle.disk_table.specs.UseOrder.{without}
use Rattle.disk_table.specs.inside.Kept.{length_at}
use Rattle.disk_table.proofs.Listed.{length_within}
use Rattle.disk_table.proofs.Steps.{after_pop, order_pop}
use Rattle.disk_table.proofs.order.UseOrder.forget.Goals as goal

pub overflow_sub-self : goal.overflow_sub-self
overflow_sub-self c =
    let m = c.self.inside.entries in
    omega (arith, c.length_of-old.ensures, ap (length_at c.args.key.now) c.self.view_is, length_within m.entries m.cap c.self.inside.size c.self.invariant c.args.key.now)

pub returns-clause-order : goal.returns-clause-order
returns-clause-order c = after_pop c.self.inside.entries c.pop.new.self c.self.inside.size c.self.invariant c.args.key.now c.pop.ensures.entries ∙ ap (without c.args.key.now) c.self.view_is

pub invariant_of-self : goal.invariant_of-self
invariant_of-self c =
    order_pop c.self.inside.entries c.pop.new.self c.self.inside.size c.self.invariant c.args.key.now c.length_of-old.result (c.length_of-old.ensures ∙ ap (length_at c.args.key.now) (sym c.self.view_is)) c.pop.ensures.entries

pub returns-clause-few : goal.returns-clause-few
returns-clause-few c =
    let order = order_pop c.self.inside.entries c.pop.new.self c.self.inside.size c.self.invariant c.args.key.now c.length_of-old.result (c.length_of-old.ensures ∙ ap (length_at c.args.key.now) (sym c.self.view_is)) c.pop.ensures.entries in
    omega (arith, order.few, length-reverse c.pop.new.self.entries)
