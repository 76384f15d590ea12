use Rattle.std.proofs.Common.{ap}
use Rattle.bitmap_kind.specs.Picture.{BitmapValue}
use Rattle.image_format.proofs.SampledRows.{sampled_given}
use Rattle.image_format.proofs.raster.put_sampled_row.Goals as goal

pub returns-clause-sampled : goal.returns-clause-sampled
returns-clause-sampled c pixels rest before =
    sampled_given c.args.boxes.now c.push_row.new.self c.out.new.self c.args.bitmap.now.picture c.put_row.new.bitmap.picture c.args.y pixels c.args.row.now rest c.out.new.into
    c.if-not-push_row.ensures.state c.out.ensures.state c.if-not-push_row.ensures.pixels c.out.ensures.row c.out.ensures.pixels c.if-not-push_row.ensures.last
    (ap (λ (v : BitmapValue). v.picture.width) c.put_row.ensures.shape) (ap (λ (v : BitmapValue). v.picture.height) c.put_row.ensures.shape)
    c.put_row.ensures.filled c.requires.given before
