-- The picture that a transform makes. The transforms are Glide's; that each pixel is one of the source,
-- and none a mixture, is this project's own.
use Rattle.std.specs.Prelude.{ℕ, List}
use Rattle.std.specs.List.{flat_map, range_with_len}
use Rattle.bitmap_kind.specs.declared.bitmaps.Transform.{Transform}
use Rattle.bitmap_kind.specs.Picture.{Picture, pixel_at}
use Rattle.transforms.specs.Sizes.{target_size, source_column, source_row}

-- rows from the top and in a row the pixels from the left, where a column and a row have this pixel
abbrev pub pixels_by : ℕ → ℕ → (ℕ → ℕ → List ℕ) → List ℕ
pixels_by width height pixel =
    flat_map (λ y. flat_map (λ x. pixel x y) (range_with_len 0 width)) (range_with_len 0 height)

-- each pixel of the target is the source's at its place
abbrev pub moved : Picture → Transform → ℕ → ℕ → Picture
moved source transform W H =
    let w = source.width in
    let h = source.height in
    let size = target_size w h transform W H in
    record {
      width = size.0;
      height = size.1;
      config = source.config;
      bytes = pixels_by size.0 size.1
          (λ x y. pixel_at source (source_column w h transform W H x) (source_row w h transform W H y));
    }
