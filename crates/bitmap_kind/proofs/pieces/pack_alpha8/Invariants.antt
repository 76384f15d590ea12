use Rattle.std.proofs.Common.{◌≡◌, ◌*◌, ◌++◌, take, drop}
use Rattle.bitmap_kind.specs.Stored.{stored}
use Rattle.bitmap_kind.specs.declared.bitmaps.Config.TheVariants.{Alpha8}
use Rattle.bitmap_kind.proofs.pieces.pack_alpha8.Given as goal

abbrev pub invariant-loop-x : goal.invariant-loop-x
invariant-loop-x l = take l.x l.into ++ stored Alpha8 (drop (4 * l.x) l.rgba) ≡ stored Alpha8 l.rgba
