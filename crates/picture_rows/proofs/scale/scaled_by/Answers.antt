use Rattle.std.proofs.Common.{arith, refl}
use Rattle.picture_rows.proofs.Reciprocals.{share_is, share_fits}
use Rattle.picture_rows.proofs.scale.scaled_by.Goals as goal

pub overflow_cast-result : goal.overflow_cast-result
overflow_cast-result c =
    let is = share_is c.args.sample c.args.scale.maximum _ _ _ _ c.requires.scale.above_zero c.requires.within (omega arith) c.from.ensures refl c.requires.scale.factor c.requires.scale.offset in
    omega (arith, is, share_fits c.args.sample c.args.scale.maximum c.requires.scale.above_zero c.requires.within)

pub returns : goal.returns
returns c = share_is c.args.sample c.args.scale.maximum _ _ _ _ c.requires.scale.above_zero c.requires.within (omega arith) c.from.ensures refl c.requires.scale.factor c.requires.scale.offset
