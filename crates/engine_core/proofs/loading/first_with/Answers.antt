use Rattle.std.proofs.Common.{ap, sym, ◌∙◌}
use Rattle.cache_key.specs.Key.{Key, same_key}
use Rattle.engine_core.proofs.Finding.{found_here, found_later, there_later}
use Rattle.engine_core.proofs.loading.first_with.Goals as goal

pub returns-then-is : goal.returns-then-is
returns-then-is c =
    found_here c.args.resources.now.resources c.args.key.now c.args.items.now c.loop-item.item-index c.loop-item-test.true c.get.result.now _ c.get.ensures.resource
    (ap (λ (k : Key). same_key k c.args.key.now) (sym c.key.ensures) ∙ sym c.is.ensures.same ∙ c.if-is.true) c.loop-item.invariant.0

pub loop-item-preserved : goal.loop-item-preserved
loop-item-preserved c = (
  found_later c.args.resources.now.resources c.args.key.now c.args.items.now c.loop-item.item-index c.loop-item-test.true c.get.result.now _ c.get.ensures.resource
      (ap (λ (k : Key). same_key k c.args.key.now) (sym c.key.ensures) ∙ sym c.is.ensures.same ∙ c.if-is.false) c.loop-item.invariant.0,
  there_later c.args.resources.now.resources c.args.key.now c.args.items.now c.loop-item.item-index c.loop-item-test.true c.loop-item.invariant.1,
)
