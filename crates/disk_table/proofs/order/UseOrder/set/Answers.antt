use Rattle.std.proofs.Common.{◌≤◌, sym, ap, ◌∙◌, subst, arith, length, unwrap_or}
use Rattle.std.specs.Prelude.{is_some}
use Rattle.std.specs.Option.{option_flatten}
use Rattle.disk_table.specs.UseOrder.{is_known, newest}
use Rattle.disk_table.proofs.Listed.{at_key, failed_unknown, length_within, size_small}
use Rattle.disk_table.proofs.Steps.{after_set, order_set}
use Rattle.disk_table.proofs.order.UseOrder.set.Goals as goal

pub overflow_sub-self : goal.overflow_sub-self
overflow_sub-self c =
    let m = c.self.inside.entries in
    let was = c.unwrap_or-old.ensures ∙ ap (λ o. unwrap_or o 0) c.flatten.ensures ∙ ap (λ o. unwrap_or (option_flatten o) 0) (c.in-Ok.ensures.old ∙ sym (at_key c.args.key.now m.entries c.self.invariant.once)) in
    omega (arith, was, length_within m.entries m.cap c.self.inside.size c.self.invariant c.args.key.now)

pub overflow_add-self : goal.overflow_add-self
overflow_add-self c =
    let m = c.self.inside.entries in
    omega (arith, c.unwrap_or.ensures, size_small m.entries m.cap c.self.inside.size c.self.invariant c.args.key.now c.args.clean c.requires.short)

pub returns-in-Ok-clause-order : goal.returns-in-Ok-clause-order
returns-in-Ok-clause-order c =
    let m = c.self.inside.entries in
    let room = subst (λ es. length (newest c.args.key.now c.args.clean es) ≤ 16400) (sym c.self.view_is) c.requires.room in
    after_set m c.put.new.self c.self.inside.size c.self.invariant c.args.key.now c.args.clean room c.in-Ok.ensures.entries
    ∙ ap (newest c.args.key.now c.args.clean) c.self.view_is

pub invariant_of-self : goal.invariant_of-self
invariant_of-self c =
    let m = c.self.inside.entries in
    let room = subst (λ es. length (newest c.args.key.now c.args.clean es) ≤ 16400) (sym c.self.view_is) c.requires.room in
    let was = c.unwrap_or-old.ensures ∙ ap (λ o. unwrap_or o 0) c.flatten.ensures ∙ ap (λ o. unwrap_or (option_flatten o) 0) (c.in-Ok.ensures.old ∙ sym (at_key c.args.key.now m.entries c.self.invariant.once)) in
    order_set m c.put.new.self c.self.inside.size c.self.invariant c.args.key.now c.args.clean c.unwrap_or-old.result c.unwrap_or.result c.requires.short was c.unwrap_or.ensures room c.in-Ok.ensures.entries

pub returns-in-Err-clause-memory : goal.returns-in-Err-clause-memory
returns-in-Err-clause-memory c =
    let m = c.self.inside.entries in
    ap (is_known c.args.key.now) (sym c.self.view_is) ∙ ap is_some (at_key c.args.key.now m.entries c.self.invariant.once)
    ∙ failed_unknown _ c.put.result _ c.in-Err.is c.put.ensures.succeeds
