use Rattle.std.proofs.Common.{◌≡◌, ◌*◌, ◌++◌, take, drop}
use Rattle.bitmap_kind.specs.Stored.{stored}
use Rattle.bitmap_kind.specs.declared.bitmaps.Config.TheVariants.{Rgb565}
use Rattle.bitmap_kind.proofs.pieces.pack_rgb565.Given as goal

abbrev pub invariant-loop-x : goal.invariant-loop-x
invariant-loop-x l = take (2 * l.x) l.into ++ stored Rgb565 (drop (4 * l.x) l.rgba) ≡ stored Rgb565 l.rgba
