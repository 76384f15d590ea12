use Rattle.bitmap_kind.specs.Picture.{BitmapValue}
use Rattle.bitmap_pool.proofs.Alike.{put_as, trim_as, pick_as}
use Rattle.bitmap_pool.proofs.laws.numbers_stand_for_bitmaps.Goals as goal

pub returns-clause-puts : goal.returns-clause-puts
returns-clause-puts c maximum bitmap groups = put_as (λ (b : BitmapValue). b.number) maximum bitmap.allocation bitmap.picture.config bitmap groups

pub returns-clause-trims : goal.returns-clause-trims
returns-clause-trims c room groups = trim_as (λ (b : BitmapValue). b.number) room groups

pub returns-clause-picks : goal.returns-clause-picks
returns-clause-picks c config wanted groups = pick_as (λ (b : BitmapValue). b.number) config wanted groups
