use Rattle.std.specs.Prelude.{refl}
use Rattle.std.specs.Int.Count.{ones, count_trailing_zeros}
use Rattle.bmp_read.specs.Header.{info_size_at, size_at, depth_at, masks_at, palette_at, format_of, head_of}
use Rattle.bmp_read.specs.Raster.{row_at}
use Rattle.bmp_read.proofs.tests.worked_texts.Goals as goal

pub returns-clause-bottom_first : goal.returns-clause-bottom_first
unfolding info_size_at size_at depth_at masks_at palette_at format_of head_of row_at
returns-clause-bottom_first c = refl

pub returns-clause-past_the_palette : goal.returns-clause-past_the_palette
unfolding info_size_at size_at depth_at masks_at palette_at format_of head_of row_at
returns-clause-past_the_palette c = refl

pub returns-clause-masks : goal.returns-clause-masks
unfolding info_size_at size_at depth_at masks_at palette_at format_of head_of row_at ones count_trailing_zeros
returns-clause-masks c = refl

pub returns-clause-short : goal.returns-clause-short
unfolding info_size_at size_at depth_at masks_at palette_at format_of head_of row_at
returns-clause-short c = refl

pub returns-clause-compressed : goal.returns-clause-compressed
unfolding info_size_at size_at depth_at masks_at palette_at format_of head_of row_at
returns-clause-compressed c = refl

pub returns-clause-product_past_32_bits : goal.returns-clause-product_past_32_bits
unfolding info_size_at size_at depth_at masks_at palette_at format_of head_of row_at
returns-clause-product_past_32_bits c = refl

pub returns-clause-longest_sides : goal.returns-clause-longest_sides
unfolding info_size_at size_at depth_at masks_at palette_at format_of head_of row_at
returns-clause-longest_sides c = refl

pub returns-clause-too_wide : goal.returns-clause-too_wide
unfolding info_size_at size_at depth_at masks_at palette_at format_of head_of row_at
returns-clause-too_wide c = refl

pub returns-clause-too_high : goal.returns-clause-too_high
unfolding info_size_at size_at depth_at masks_at palette_at format_of head_of row_at
returns-clause-too_high c = refl
