-- The picture that is shown for a text, or why there is none. That a picture is sampled by its size and
-- the wanted one, stored in a config and then transformed, is Glide's (Downsampler and its
-- transformations); which text is of which kind, the limits, and the order of refusals are this project's
-- own.
use Rattle.std.specs.Prelude.{◌≡◌, ℕ, ◌*◌, Bool, ◌||◌, nat_lt, nat_eq, List, if◌then◌else◌, Ok, Err, Some, None, Result, codes}
use Rattle.std.specs.declared.option.Option.{Option}
use Rattle.std.specs.List.{starts_with}
use Rattle.std.specs.Result.{result_map_both}
use Rattle.bitmap_kind.specs.declared.bitmaps.Config.{Config}
use Rattle.bitmap_kind.specs.Stored.{stored}
use Rattle.bitmap_kind.specs.Picture.{Picture, pixel_limit}
use Rattle.picture_rows.specs.Reading.{◌>>=◌}
use Rattle.picture_rows.specs.FullPicture.{FullPicture}
use Rattle.ppm_read.specs.Header as ppm_header
use Rattle.ppm_read.specs.Full as ppm_full
use Rattle.bmp_read.specs.Header as bmp_header
use Rattle.bmp_read.specs.Full as bmp_full
use Rattle.sampling.specs.Sample.{sample_of}
use Rattle.sampling.specs.Sampled.{sampled_side, sampled_picture}
use Rattle.transforms.specs.Sizes.{target_size}
use Rattle.transforms.specs.Moved.{moved}
use Rattle.cache_key.specs.Key.{Key}
use Rattle.image_format.specs.declared.kinds.Kind.{Kind}
use Rattle.image_format.specs.declared.kinds.Kind.TheVariants.{Netpbm, Bitmap}
use Rattle.image_format.specs.declared.plan.Plan.{Plan}
use Rattle.image_format.specs.declared.refusal.Refusal.{Refusal}
use Rattle.image_format.specs.declared.refusal.Refusal.TheVariants.{Unknown, Ppm, Bmp, TooLarge}

-- ---- the kind, the header and the full picture of a text

-- the kind that a text's first two bytes name, if they name one
abbrev pub kind_of : List ℕ → Option Kind
kind_of text =
    if starts_with nat_eq text (codes "BM") then Some Bitmap
    else if starts_with nat_eq text (codes "P2") || starts_with nat_eq text (codes "P3")
    || starts_with nat_eq text (codes "P5") || starts_with nat_eq text (codes "P6") then Some Netpbm
    else None

-- the width and height that the header of a text of this kind says, or the reader's fault
abbrev pub size_of_kind : Option Kind → List ℕ → Result (ℕ × ℕ) Refusal
size_of_kind None text = Err Unknown
size_of_kind (Some Netpbm) text =
    result_map_both (λ head. (head.width, head.height)) Ppm (ppm_header.head_of text)
size_of_kind (Some Bitmap) text =
    result_map_both (λ head. (head.width, head.height)) Bmp (bmp_header.head_of text)

-- those of a text
abbrev pub source_size : List ℕ → Result (ℕ × ℕ) Refusal
source_size text = size_of_kind (kind_of text) text

-- the full picture of a text of this kind: its size, and red, green, blue and alpha of each pixel from
-- the top row
abbrev pub full_of_kind : Option Kind → List ℕ → Result FullPicture Refusal
full_of_kind None text = Err Unknown
full_of_kind (Some Netpbm) text = result_map_both (λ full. full) Ppm (ppm_full.full_picture text)
full_of_kind (Some Bitmap) text = result_map_both (λ full. full) Bmp (bmp_full.full_picture text)

-- that of a text
abbrev pub full_picture : List ℕ → Result FullPicture Refusal
full_picture text = full_of_kind (kind_of text) text

-- ---- the plan

-- the longest side of a source, in pixels
abbrev pub source_side_limit : ℕ
source_side_limit = 16384

-- a size, as width and height, with more pixels than a bitmap may have
abbrev pub has_too_many_pixels : ℕ × ℕ → Bool
has_too_many_pixels size = nat_lt pixel_limit (size.0 * size.1)

-- the size of a source that is sampled
abbrev pub sampled_size : ℕ → ℕ × ℕ → ℕ × ℕ
sampled_size sample source = (sampled_side source.0 sample, sampled_side source.1 sample)

-- the sample that a key's rule gives a source of this size
abbrev pub sample_under : Key → ℕ × ℕ → ℕ
sample_under key source = sample_of source (key.width, key.height) key.rule

-- the size that a source of this size has when it is decoded under a key, and when it is shown
abbrev pub decoded_size : Key → ℕ × ℕ → ℕ × ℕ
decoded_size key source = sampled_size (sample_under key source) source

abbrev pub shown_size : Key → ℕ × ℕ → ℕ × ℕ
shown_size key source =
    let size = decoded_size key source in target_size size.0 size.1 key.transform key.width key.height

-- a source of this size is beyond the limits, or what would be shown of it is
abbrev pub is_too_large : Key → ℕ × ℕ → Bool
is_too_large key source = nat_lt source_side_limit source.0 || nat_lt source_side_limit source.1
    || has_too_many_pixels source || has_too_many_pixels (shown_size key source)

-- how a source of this size is decoded under a key
abbrev pub plan_under : Key → ℕ × ℕ → Result Plan Refusal
plan_under key source = if is_too_large key source then Err TooLarge else Ok record {
  sample = sample_under key source;
  decoded = decoded_size key source;
  target = shown_size key source;
  config = key.config;
}

-- How a text is decoded under a key: what its kind and its header refuse stands before the sizes.
unfoldable pub planned : List ℕ → Key → Result Plan Refusal
planned text key = source_size text >>= plan_under key

-- a plan that some key gives a text
pub record IsPlanOf (text : List ℕ) (plan : Plan) : Type 0 where
  pub key : Key
  pub is : planned text key ≡ Ok plan

-- ---- the picture

-- the full picture as it is decoded: sampled, and stored in a config
abbrev pub decoded_picture : Config → ℕ → FullPicture → Picture
decoded_picture config sample full = record {
  width = sampled_side full.width sample;
  height = sampled_side full.height sample;
  config = config;
  bytes = stored config (sampled_picture full.width full.height sample full.pixels);
}

-- the same of a full picture, or of the refusal that comes in its place
abbrev pub decoded_under : Config → ℕ → Result FullPicture Refusal → Result Picture Refusal
decoded_under config sample read = read >>= (λ full. Ok (decoded_picture config sample full))

-- What is decoded of a text under a plan: its raster refuses, or the picture is there.
unfoldable pub decoded : List ℕ → Plan → Result Picture Refusal
decoded text plan = decoded_under plan.config plan.sample (full_picture text)

-- The picture of a text under a key, or the first refusal: of the kind, of the header, of the sizes, of
-- the raster.
abbrev pub picture_of : List ℕ → Key → Result Picture Refusal
picture_of text key = do
  plan ← planned text key
  picture ← decoded text plan
  Ok (moved picture key.transform key.width key.height)
