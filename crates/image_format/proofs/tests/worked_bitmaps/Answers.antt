use Rattle.std.specs.Prelude.{refl}
use Rattle.bmp_read.specs.Header.{info_size_at, size_at, depth_at, masks_at, palette_at, format_of, head_of}
use Rattle.bmp_read.specs.Raster.{row_at}
use Rattle.image_format.specs.Pictures.{planned, decoded}
use Rattle.image_format.proofs.tests.worked_bitmaps.Goals as goal

pub returns-clause-bottom_first : goal.returns-clause-bottom_first
unfolding planned decoded info_size_at size_at depth_at masks_at palette_at format_of head_of row_at
returns-clause-bottom_first c = refl

pub returns-clause-truncated : goal.returns-clause-truncated
unfolding planned decoded info_size_at size_at depth_at masks_at palette_at format_of head_of row_at
returns-clause-truncated c = refl
