use Rattle.std.proofs.Common.{rules, ◌≡◌, ◌++◌, ◌∷◌, refl, sym, ap, ◌∙◌, arith}
use Rattle.cache_folder.proofs.Staying.{stale_of, stale_all, stale_more}
use Rattle.cache_folder.proofs.leftovers.stale_keys.Goals as goal

pub loop-key-init : goal.loop-key-init
loop-key-init g c = record {
  same = refl;
  later = omega arith;
  keys = λ h e. (λ i. c.new-stale.ensures.items i ++ stale_of h.held c.args.table.now.table.entries ((c.into_iter-key-iterator.ensures.into_iter_gives ∙ c.keys-key-items.ensures.keys) i))
      ∙ stale_all h.held c.args.table.now.table.entries c.keys-key-items.ensures.once;
}

pub loop-key-preserved : goal.loop-key-preserved
loop-key-preserved g c = record {
  same = c.in_ok-add_stale.ensures.same ∙ c.loop-key.invariant.same;
  later = omega (arith, c.in_ok-add_stale.ensures.cause.later, c.loop-key.invariant.later);
  keys = λ h e.
      let left : c.loop-key.key-iterator ≡ c.in-Some.key ∷ c.next.new.self = search rules in
      stale_more h.held c.args.table.now.table.entries c.loop-key.stale.items c.add_stale.new.stale.items c.in-Some.key c.next.new.self
      (c.in_ok-add_stale.ensures.keys refl h (c.loop-key.invariant.same ∙ e))
      ∙ ap (λ l. c.loop-key.stale.items ++ stale_of h.held c.args.table.now.table.entries l) (sym left)
      ∙ c.loop-key.invariant.keys h e;
}
