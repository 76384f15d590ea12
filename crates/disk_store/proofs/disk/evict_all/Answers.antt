use Rattle.std.proofs.Common.{rules, ◌≡◌, true, Ok, [], ◌∷◌, ◌++◌, sym, subst}
use Rattle.store_world.specs.DiskCalls.{Evicts, next_eviction}
use Rattle.disk_store.proofs.Evicting.{next_key, falls}
use Rattle.disk_store.proofs.disk.evict_all.Goals as goal

pub over-smaller : goal.over-smaller
over-smaller g c =
    let went : c.in_ok-trim_one.field-0 ≡ true = search rules in
    let called : Evicts c.over.disk (Ok c.in_ok-trim_one.field-0) c.trim_one.new.self = record {
      over = c.in_ok-trim_one.ensures.over;
      err = c.in_ok-trim_one.ensures.err;
      idle = c.in_ok-trim_one.ensures.idle;
      key = c.in_ok-trim_one.ensures.key;
      cause = c.in_ok-trim_one.ensures.cause;
      maximum = c.in_ok-trim_one.ensures.maximum;
    } in
    falls c.over.disk c.trim_one.new.self (subst (λ b. Evicts c.over.disk (Ok b) c.trim_one.new.self) went called)

pub over-preserved : goal.over-preserved
over-preserved g c =
    let went : c.in_ok-trim_one.field-0 ≡ true = search rules in
    let called : Evicts c.over.disk (Ok c.in_ok-trim_one.field-0) c.trim_one.new.self = record {
      over = c.in_ok-trim_one.ensures.over;
      err = c.in_ok-trim_one.ensures.err;
      idle = c.in_ok-trim_one.ensures.idle;
      key = c.in_ok-trim_one.ensures.key;
      cause = c.in_ok-trim_one.ensures.cause;
      maximum = c.in_ok-trim_one.ensures.maximum;
    } in
    let evicts : Evicts c.over.disk (Ok true) c.trim_one.new.self = subst (λ b. Evicts c.over.disk (Ok b) c.trim_one.new.self) went called in
    let next = next_key (next_eviction c.over.disk) (sym evicts.over) in
    (c.over.invariant.0 ++ next.0 ∷ [], c.evictions_go_on.ensures c.over.invariant.0 next.0 c.args.disk.now c.over.disk c.trim_one.new.self c.over.invariant.1 next.1 evicts)
