use Rattle.std.proofs.Common.{sym, subst}
use Rattle.bitmap_kind.specs.Picture.{BitmapValue}
use Rattle.bitmap_pool.specs.Pool.{Picked, PoolValue, picked_from}
use Rattle.bitmap_pool.specs.Numbered.{numbered}
use Rattle.engine_world.specs.declared.events.NotedReply.{NotedReply}
use Rattle.engine_world.specs.World.{World}
use Rattle.engine_world.specs.Steps.{Wanted, wanted_size, take_pooled, IsOutcome, Take}
use Rattle.engine_core.specs.Noted.{noted, lent_by}
use Rattle.engine_core.specs.declared.tables.Tables.TheInside.{Inside}
use Rattle.engine_core.specs.TablesView.{world_of}
use Rattle.engine_core.proofs.Lending.{taken_from, found_some}
use Rattle.engine_core.proofs.tables.Tables.take.Goals as goal

pub returns-in-Some : goal.returns-in-Some
returns-in-Some c =
    let wanted : Wanted = record { job = c.args.job; width = c.args.width; height = c.args.height; config = c.args.config } in
    let s : Inside = c.self.inside in
    let w : World = world_of s in
    let reply : NotedReply = noted c.take_pooled.result in
    let z : World = c.take_pooled.new.self in
    let picked : Picked BitmapValue = picked_from s.pool c.args.width c.args.height c.args.config in
    let taken : IsOutcome reply z (take_pooled c.args.job (lent_by c.in-Some.bitmap) (record w { pool = numbered picked.groups })) =
    subst (λ (p : PoolValue). IsOutcome reply z (take_pooled c.args.job (lent_by c.in-Some.bitmap) (world_of (record s { pool = p })))) c.get_dirty.ensures.left c.take_pooled.ensures in
    subst (λ (v : World). Take wanted v reply z) c.self.view_is
    (taken_from wanted w z picked reply (c.numbers_stand_for_bitmaps.ensures.picks c.args.config (wanted_size wanted) s.pool.groups)
    (found_some wanted (record w { pool = numbered picked.groups }) z picked.size reply c.in-Some.bitmap picked.found (sym c.in-Some.ensures.found) c.in-Some.ensures.allocation taken))
