use Rattle.std.proofs.Common.{◌+◌, ◌*◌, ◌++◌, drop, ◌∙◌, ap, refl, arith}
use Rattle.std.proofs.lemmas.List.{take_more_set}
use Rattle.bitmap_kind.specs.declared.bitmaps.Config.TheVariants.{Alpha8}
use Rattle.bitmap_kind.specs.Stored.{stored}
use Rattle.bitmap_kind.proofs.Packing.{stored_more}
use Rattle.bitmap_kind.proofs.pieces.pack_alpha8.Goals as goal

pub loop-x-preserved : goal.loop-x-preserved
loop-x-preserved c =
    let x = c.loop-x.x in
    ap (λ l. l ++ stored Alpha8 (drop (4 * (x + 1)) c.args.rgba.now)) (take_more_set c.loop-x.into x _ (omega (arith, c.requires.room)))
    ∙ stored_more Alpha8 c.args.rgba.now _ _ x (omega (arith, c.requires.pixels)) refl c.loop-x.invariant
