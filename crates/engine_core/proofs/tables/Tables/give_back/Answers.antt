use Rattle.std.proofs.Common.{ap, subst, sym, ◌∙◌}
use Rattle.std.specs.FinMap.{get}
use Rattle.engine_world.specs.Moves.{take_back}
use Rattle.engine_world.specs.Steps.{bitmap_to_pool}
use Rattle.engine_core.specs.Lending.{HasBitmap}
use Rattle.engine_core.proofs.tables.Tables.give_back.Goals as goal

pub take_back-requires-clause-lent : goal.take_back-requires-clause-lent
take_back-requires-clause-lent c = subst (HasBitmap c.args.self.now c.args.job) (sym c.number.ensures) c.requires.lent

pub returns : goal.returns
returns c =
    c.pool_bitmap.ensures
    ∙ ap (bitmap_to_pool c.args.bitmap) (c.take_back.ensures ∙ ap (λ n. take_back c.args.job (get c.args.self.now.jobs c.args.job) n c.args.self.now) c.number.ensures)
