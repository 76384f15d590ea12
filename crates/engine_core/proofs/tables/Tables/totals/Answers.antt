use Rattle.std.proofs.Common.{◌≡◌, ◌+◌, ◌-◌, length, map, ap, ◌∙◌, arith}
use Rattle.bitmap_pool.specs.Pool.{pool_count}
use Rattle.bitmap_pool.specs.Numbered.{numbered}
use Rattle.memory_cache.specs.Cache.{number_in}
use Rattle.engine_world.specs.Balance.{held_count, kept_count, totals}
use Rattle.engine_core.specs.TablesView.{world_of}
use Rattle.engine_core.proofs.Counted.{counted}
use Rattle.engine_core.proofs.tables.Tables.totals.Goals as goal

pub overflow_sub-held : goal.overflow_sub-held
overflow_sub-held c =
    let k = counted c.self.inside c.args.self.now c.self.view_is c.self.invariant (c.rooms_suffice.ensures c.args.self.now c.requires.known c.requires.sound c.requires.within) in
    omega (arith, k.resources, ap length c.items.ensures, c.len.ensures)

pub overflow_add-result : goal.overflow_add-result
overflow_add-result c =
    let k = counted c.self.inside c.args.self.now c.self.view_is c.self.invariant (c.rooms_suffice.ensures c.args.self.now c.requires.known c.requires.sound c.requires.within) in
    omega (arith, k.resources, k.kept, ap length c.items.ensures, c.len.ensures)

pub overflow_add-result-2 : goal.overflow_add-result-2
overflow_add-result-2 c =
    let k = counted c.self.inside c.args.self.now c.self.view_is c.self.invariant (c.rooms_suffice.ensures c.args.self.now c.requires.known c.requires.sound c.requires.within) in
    omega (arith, k.resources, k.kept, ap length c.items.ensures, c.len.ensures)

pub overflow_add-result-3 : goal.overflow_add-result-3
overflow_add-result-3 c =
    let k = counted c.self.inside c.args.self.now c.self.view_is c.self.invariant (c.rooms_suffice.ensures c.args.self.now c.requires.known c.requires.sound c.requires.within) in
    omega (arith, k.resources, k.kept, ap length c.items.ensures, c.len.ensures, c.count-pooled.ensures)

pub overflow_sub-result : goal.overflow_sub-result
overflow_sub-result c =
    let k = counted c.self.inside c.args.self.now c.self.view_is c.self.invariant (c.rooms_suffice.ensures c.args.self.now c.requires.known c.requires.sound c.requires.within) in
    omega (arith, k.resources, k.kept, ap length c.items.ensures, c.len.ensures, c.count-pooled.ensures)

pub returns : goal.returns
returns c =
    let s = c.self.inside in
    let k = counted s c.args.self.now c.self.view_is c.self.invariant (c.rooms_suffice.ensures c.args.self.now c.requires.known c.requires.sound c.requires.within) in
    let cached : length c.items.result.now ≡ length (map number_in s.cache.items) = omega (arith, ap length c.items.ensures, k.cached) in
    let held : c.len.result - length c.items.result.now ≡ held_count (world_of s) = omega (arith, k.resources, ap length c.items.ensures, c.len.ensures) in
    let pooled : c.count-pooled.result ≡ pool_count (numbered s.pool.groups) = omega (arith, c.count-pooled.ensures, k.pooled) in
    let recycled : s.next - (s.out + (c.len.result - length c.items.result.now) + length c.items.result.now + c.count-pooled.result) ≡ s.next - kept_count (world_of s) =
    omega (arith, cached, held, pooled, c.self.invariant.out) in
    (λ i. record {
      loads = s.counts.loads;
      active = s.counts.active;
      memory = s.counts.memory;
      joined = s.counts.joined;
      started = c.added.ensures i;
      takes = s.counts.takes;
      reused = s.counts.reused;
      made = s.next;
      decoding = c.self.invariant.out i;
      held = held i;
      cached = cached i;
      pooled = pooled i;
      recycled = recycled i;
    })
    ∙ ap totals c.self.view_is
