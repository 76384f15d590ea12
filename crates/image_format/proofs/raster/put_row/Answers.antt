use Rattle.std.proofs.Common.{ap}
use Rattle.bitmap_kind.specs.Picture.{BitmapValue}
use Rattle.image_format.proofs.Filling.{filled_more}
use Rattle.image_format.proofs.raster.put_row.Goals as goal

pub returns-clause-filled : goal.returns-clause-filled
returns-clause-filled c pixels before =
    let law = c.pixels_are_stored_in_order.ensures in
    filled_more law.size law.order _ _ _ pixels _ c.requires.row c.requires.pixels (ap (λ (v : BitmapValue). v.picture) c.put_row.ensures) before
