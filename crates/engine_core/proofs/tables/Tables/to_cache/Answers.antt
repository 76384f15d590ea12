use Rattle.std.proofs.Common.{◌≡◌, ℕ, ◌<◌, Bool, cond, Some, ap, sym, ◌∙◌, arith}
use Rattle.std.specs.Prelude.{is_some}
use Rattle.std.specs.FinMap.{get}
use Rattle.std.proofs.lemmas.Bool.{leb-false}
use Rattle.bitmap_kind.specs.Picture.{BitmapValue}
use Rattle.memory_cache.specs.Cache.{is_too_large}
use Rattle.engine_world.specs.World.{Resource, World}
use Rattle.engine_world.specs.Moves.{size_of, allocation_of, cached_of, to_pool, cached_to_pool, cache_first}
use Rattle.engine_core.specs.declared.tables.Tables.TheInside.{Inside}
use Rattle.engine_core.specs.TablesView.{world_of}
use Rattle.engine_core.proofs.Joins.{there}
use Rattle.engine_core.proofs.Caching.{size_at}
use Rattle.engine_core.proofs.tables.Tables.to_cache.Goals as goal

-- what the cache says of the size is what the world says
large_is : (s : Inside) (w : World) (number size : ℕ) (answer : Bool) (resource : Resource) → world_of s ≡ w → get w.resources number ≡ Some resource → size_of w.resources number ≡ size
    → answer ≡ is_too_large s.cache.maximum size → is_too_large w.limits.memory resource.allocation ≡ answer
large_is s w number size answer resource seen at sized told =
    ap (λ n. is_too_large w.limits.memory n) (sym (ap allocation_of at) ∙ sized) ∙ ap (λ (v : World). is_too_large v.limits.memory size) (sym seen) ∙ sym told

pub get-requires : goal.get-requires
get-requires c = there c.self.inside c.args.self.now c.args.number c.self.view_is (ap is_some c.requires.there)

pub returns-then-too_large : goal.returns-then-too_large
returns-then-too_large c = λ resource at.
    let w : World = c.args.self.now in
    let size = size_at c.self.inside w c.args.number c.get.result.now c.self.view_is c.get.ensures.resource in
    let told = c.allocation-size.ensures.value ∙ ap (λ (b : BitmapValue). b.allocation) c.bitmap.ensures in
    let large = large_is c.self.inside w c.args.number c.allocation-size.result c.too_large.result resource c.self.view_is at (size ∙ sym told) c.too_large.ensures ∙ c.if-too_large.true in
    c.to_pool.ensures
    ∙ sym (ap (λ b. cond b (to_pool c.args.number w) (cache_first c.args.number (cached_to_pool (cached_of w.resources w.cached resource.key) w))) large)

pub cache_first-requires-clause-small : goal.cache_first-requires-clause-small
cache_first-requires-clause-small c =
    let w : World = c.args.self.now in
    let size = size_at c.self.inside w c.args.number c.get.result.now c.self.view_is c.get.ensures.resource in
    let told = c.allocation-size.ensures.value ∙ ap (λ (b : BitmapValue). b.allocation) c.bitmap.ensures in
    let small : c.allocation-size.result < c.self.inside.cache.maximum = leb-false _ _ (sym c.too_large.ensures ∙ c.if-too_large.false) in
    let rooms = ap (λ (v : World). v.limits.memory) c.self.view_is in
    let limits = ap (λ (l : Rattle.engine_world.specs.World.Limits). l.memory) c.drop_older.ensures.limits in
    omega (arith, size, told, small, rooms, limits, c.drop_older.ensures.size)

pub returns : goal.returns
returns c = λ resource at.
    let w : World = c.args.self.now in
    let size = size_at c.self.inside w c.args.number c.get.result.now c.self.view_is c.get.ensures.resource in
    let told = c.allocation-size.ensures.value ∙ ap (λ (b : BitmapValue). b.allocation) c.bitmap.ensures in
    let large = large_is c.self.inside w c.args.number c.allocation-size.result c.too_large.result resource c.self.view_is at (size ∙ sym told) c.too_large.ensures ∙ c.if-too_large.false in
    c.cache_first.ensures ∙ ap (cache_first c.args.number) (c.drop_older.ensures.step resource at)
    ∙ sym (ap (λ b. cond b (to_pool c.args.number w) (cache_first c.args.number (cached_to_pool (cached_of w.resources w.cached resource.key) w))) large)
